use Rattle.std.proofs.Common.{◌∙◌, sym, ap, subst, Some, arith}
use Rattle.std.proofs.lemmas.Result.{IfOk-weaker}
use Rattle.lp_spec.specs.Modules.{applied, prop_ext_symbol}
use Rattle.lp_spec.specs.Trees.{Sym}
use Rattle.lp_term.specs.Tables.{trees_at, AreKnown}
use Rattle.lp_term.specs.TableLaws.{Holds-tree_at, Holds-within}
use Rattle.translate_proof.specs.RuleRows.{conclusion_at, premise_at, under_conclusion}
use Rattle.translate_proof.proofs.BinderRows.{prop_ext-made}
use Rattle.translate_term.specs.GrowLaws.{Grows-refl, Grows-trans, Grows-table}
use Rattle.translate_proof.proofs.StandLaws.{Ready-other}
use Rattle.translate_proof.proofs.StandTrees.{Ready-more}
use Rattle.translate_proof.proofs.TheoremLaws.{Ready-start}
use Rattle.translate_proof.specs.EnvironmentLaws.{Represents-Grows}
use Rattle.translate_proof.proofs.rows.deduct_antisym.Goals as goal

pub conclusion-requires-clause-told : goal.conclusion-requires-clause-told
conclusion-requires-clause-told c = let q = c.requires.told in (q.0, q.1, q.4)

pub conclusion-requires-2-clause-told : goal.conclusion-requires-2-clause-told
conclusion-requires-2-clause-told c =
    let k = c.args.ground.proof.now in
    let q = c.requires.told in
    (q.0, Represents-Grows c.conclusion.ensures.grows q.0 k.trees c.args.ground.env.now q.1, q.5)

pub add_abstracted-requires-clause-index : goal.add_abstracted-requires-clause-index
add_abstracted-requires-clause-index c =
    let q = c.requires.told in
    let first = Holds-within _ c.in_ok-p.p.0 _ (c.in_ok-p.ensures.made q.0 q.1 q.4) in
    omega (arith, first, c.conclusion-2.ensures.grows.table.longer)

pub add_abstracted-requires-clause-told : goal.add_abstracted-requires-clause-told
add_abstracted-requires-clause-told c =
    let k = c.args.ground.proof.now in
    let q = c.requires.told in
    let under = under_conclusion k c.args.one.id q.0 in
    (under, Represents-Grows (Grows-trans c.conclusion.ensures.grows c.conclusion-2.ensures.grows) under k.trees c.args.first.now q.2, q.5)

pub add_abstracted-requires-2-clause-index : goal.add_abstracted-requires-2-clause-index
add_abstracted-requires-2-clause-index c =
    let k = c.args.ground.proof.now in
    let q = c.requires.told in
    let here = Represents-Grows c.conclusion.ensures.grows q.0 k.trees c.args.ground.env.now q.1 in
    let first = Holds-within _ c.in_ok-q.q.0 _ (c.in_ok-q.ensures.made q.0 here q.5) in
    omega (arith, first, c.add_abstracted.ensures.grows.table.longer)

pub add_abstracted-requires-2-clause-told : goal.add_abstracted-requires-2-clause-told
add_abstracted-requires-2-clause-told c =
    let k = c.args.ground.proof.now in
    let q = c.requires.told in
    let under = under_conclusion k c.args.two.id q.0 in (
      under,
      Represents-Grows (Grows-trans c.conclusion.ensures.grows (Grows-trans c.conclusion-2.ensures.grows c.add_abstracted.ensures.grows)) under k.trees
          c.args.second.now q.3,
      q.4,
    )

pub call-requires : goal.call-requires
call-requires c =
    let k = c.args.ground.proof.now in
    let q = c.requires.told in
    let under_one = under_conclusion k c.args.one.id q.0 in
    let under_two = under_conclusion k c.args.two.id q.0 in
    let none = Ready-start q.0 c.args.target.now k.trees c.args.ground.env.now _ c.new-args.ensures.items q.1 in
    let p = c.in_ok-p.ensures.made q.0 q.1 q.4 in
    let first = Ready-more c.conclusion.ensures.grows q.0 k.trees c.args.ground.env.now _ _ _ c.in_ok-p.p _ p c.in_ok-push.ensures.items none in
    let q_made = c.in_ok-q.ensures.made q.0 first.stands q.5 in
    let second = Ready-more c.conclusion-2.ensures.grows q.0 k.trees c.args.ground.env.now _ _ _ c.in_ok-q.q _ q_made c.in_ok-push-2.ensures.items first in
    let in_first = Represents-Grows (Grows-trans c.conclusion.ensures.grows c.conclusion-2.ensures.grows) under_one k.trees c.args.first.now q.2 in
    let third = c.in_ok-add_abstracted.ensures.ready under_one _
    (Ready-other (Grows-refl c.conclusion-2.new.target) q.0 under_one k.trees c.args.ground.env.now c.args.first.now _ _ second in_first) q.5 in
    let in_second = Represents-Grows (Grows-trans c.conclusion.ensures.grows (Grows-trans c.conclusion-2.ensures.grows c.add_abstracted.ensures.grows))
    under_two k.trees c.args.second.now q.3 in
    let fourth = c.in_ok-add_abstracted-2.ensures.ready under_two _
    (Ready-other (Grows-refl c.add_abstracted.new.target) under_one under_two k.trees c.args.first.now c.args.second.now _ _ third in_second) q.4 in
    subst (AreKnown _) (sym c.deref.ensures.value) fourth.known

pub returns-in_err-q-clause-grows : goal.returns-in_err-q-clause-grows
returns-in_err-q-clause-grows c = Grows-trans c.conclusion.ensures.grows c.conclusion-2.ensures.grows

pub returns-in_err-push-2-clause-grows : goal.returns-in_err-push-2-clause-grows
returns-in_err-push-2-clause-grows c = Grows-trans c.conclusion.ensures.grows c.conclusion-2.ensures.grows

pub returns-in_err-add_abstracted-clause-grows : goal.returns-in_err-add_abstracted-clause-grows
returns-in_err-add_abstracted-clause-grows c = Grows-trans c.conclusion.ensures.grows (Grows-trans c.conclusion-2.ensures.grows c.add_abstracted.ensures.grows)

pub returns-in_err-add_abstracted-2-clause-grows : goal.returns-in_err-add_abstracted-2-clause-grows
returns-in_err-add_abstracted-2-clause-grows c = Grows-trans c.conclusion.ensures.grows
    (Grows-trans c.conclusion-2.ensures.grows (Grows-trans c.add_abstracted.ensures.grows c.add_abstracted-2.ensures.grows))

pub returns-clause-grows : goal.returns-clause-grows
returns-clause-grows c = Grows-trans c.conclusion.ensures.grows
    (Grows-trans c.conclusion-2.ensures.grows
    (Grows-trans c.add_abstracted.ensures.grows (Grows-trans c.add_abstracted-2.ensures.grows (Grows-table _ _ c.call.ensures.keeps))))

pub returns-clause-made : goal.returns-clause-made
returns-clause-made c =
    let k = c.args.ground.proof.now in
    IfOk-weaker c.call.result _ _
    (λ r h given stands inside other one two.
    let under_one = under_conclusion k c.args.one.id given in
    let under_two = under_conclusion k c.args.two.id given in
    let none = Ready-start given c.args.target.now k.trees c.args.ground.env.now _ c.new-args.ensures.items stands in
    let p = c.in_ok-p.ensures.made given stands one in
    let first = Ready-more c.conclusion.ensures.grows given k.trees c.args.ground.env.now _ _ _ c.in_ok-p.p _ p c.in_ok-push.ensures.items none in
    let q_made = c.in_ok-q.ensures.made given first.stands two in
    let second = Ready-more c.conclusion-2.ensures.grows given k.trees c.args.ground.env.now _ _ _ c.in_ok-q.q _ q_made c.in_ok-push-2.ensures.items first in
    let in_first = Represents-Grows (Grows-trans c.conclusion.ensures.grows c.conclusion-2.ensures.grows) under_one k.trees c.args.first.now inside in
    let third = c.in_ok-add_abstracted.ensures.ready under_one _
    (Ready-other (Grows-refl c.conclusion-2.new.target) given under_one k.trees c.args.ground.env.now c.args.first.now _ _ second in_first) two in
    let in_second = Represents-Grows (Grows-trans c.conclusion.ensures.grows (Grows-trans c.conclusion-2.ensures.grows c.add_abstracted.ensures.grows))
    under_two k.trees c.args.second.now other in
    let fourth = c.in_ok-add_abstracted-2.ensures.ready under_two _
    (Ready-other (Grows-refl c.add_abstracted.new.target) under_one under_two k.trees c.args.first.now c.args.second.now _ _ third in_second) one in
    h ∙ ap (λ l. Some (applied (Sym prop_ext_symbol) l)) (ap (trees_at _) c.deref.ensures.value ∙ fourth.are)
    ∙ ap Some (prop_ext-made given.symbols given.scope (conclusion_at k c.args.one.id) (conclusion_at k c.args.two.id) (premise_at k c.args.one)
    (premise_at k c.args.two) _ _
    (Holds-tree_at _ c.in_ok-p.p.0 _ (c.conclusion-2.ensures.grows.table.stays.each c.in_ok-p.p.0 _ p))
    (Holds-tree_at _ c.in_ok-q.q.0 _ (c.add_abstracted.ensures.grows.table.stays.each c.in_ok-q.q.0 _ q_made))))
    c.call.ensures.made
