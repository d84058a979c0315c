use Rattle.std.proofs.Common.{◌≡◌, [], ◌∷◌, length, arith, refl, sym, ap, subst, ◌∙◌}
use Rattle.std.proofs.Math.Path.{ap₂}
use Rattle.hol_rules.specs.Views.{parameters_view}
use Rattle.hol_rules.specs.declared.made.Parameters.TheVariants as given
use Rattle.translate_spec.specs.Reach.{constant_key, operator_key, given_keys}
use Rattle.translate_reach.specs.declared.walk.Walk.{Walk}
use Rattle.translate_reach.specs.Indexes.{found}
use Rattle.translate_reach.specs.MadeItems.{made_items, WantsOf}
use Rattle.translate_reach.specs.Walks.{marked}
use Rattle.translate_reach.proofs.Parts.{found-below}
use Rattle.translate_reach.proofs.Walked.{length-marked, gains-IsWalk, gains-Wants}
use Rattle.translate_reach.proofs.Wanted.{constant-Gains, keys-Gains}
use Rattle.translate_reach.proofs.walk.Walk.want_given.Goals as goal

pub mark-requires : goal.mark-requires
mark-requires c =
    let p = c.args.proof.now in
    rw c.constant.ensures
    (found-below (made_items p.made) c.args.items.now.index c.args.self.now.marks.items c.requires.items.index c.requires.walk.marks
    (constant_key c.in-Const.name))

pub returns-in-Const-clause-walk : goal.returns-in-Const-clause-walk
returns-in-Const-clause-walk c =
    let p = c.args.proof.now in
    let n = c.in-Const.name in
    let w = c.args.self.now in
    let v : Walk = record { marks = c.mark.new.marks; types = w.types; terms = w.terms; tasks = w.tasks } in
    let marks = c.mark.ensures ∙ ap (marked w.marks.items) c.constant.ensures in
    let gains = constant-Gains p c.args.items.now c.requires.items w v c.requires.walk n [] (tt {0}) marks refl refl refl in
    gains-IsWalk p.trees (made_items p.made) w v (constant_key n ∷ []) [] c.requires.walk gains

pub mark-requires-in-TypeOp : goal.mark-requires-in-TypeOp
mark-requires-in-TypeOp c =
    let p = c.args.proof.now in
    rw c.in_ok-item-in-TypeOp.ensures
    (found-below (made_items p.made) c.args.items.now.index c.args.self.now.marks.items c.requires.items.index c.requires.walk.marks
    (operator_key c.get-new.result.now.op c.len.result))

pub mark-requires-in-TypeOp-2 : goal.mark-requires-in-TypeOp-2
mark-requires-in-TypeOp-2 c =
    let p = c.args.proof.now in
    let count = ap length c.mark-in-TypeOp.ensures ∙ length-marked c.args.self.now.marks.items c.in_ok-item-in-TypeOp.item ∙ c.requires.walk.marks in
    rw c.constant-in-TypeOp.ensures
    (found-below (made_items p.made) c.args.items.now.index c.mark-in-TypeOp.new.marks.items c.requires.items.index count (constant_key c.get-new.result.now.abs))

pub mark-requires-in-TypeOp-3 : goal.mark-requires-in-TypeOp-3
mark-requires-in-TypeOp-3 c =
    let p = c.args.proof.now in
    let count = ap length c.mark-in-TypeOp.ensures ∙ length-marked c.args.self.now.marks.items c.in_ok-item-in-TypeOp.item ∙ c.requires.walk.marks in
    let more = ap length c.mark-in-TypeOp-2.ensures ∙ length-marked c.mark-in-TypeOp.new.marks.items c.constant-in-TypeOp.result ∙ count in
    rw c.constant-in-TypeOp-2.ensures
    (found-below (made_items p.made) c.args.items.now.index c.mark-in-TypeOp-2.new.marks.items c.requires.items.index more (constant_key c.get-new.result.now.rep))

pub returns-in_ok-item-in-TypeOp-clause-walk : goal.returns-in_ok-item-in-TypeOp-clause-walk
returns-in_ok-item-in-TypeOp-clause-walk c =
    let p = c.args.proof.now in
    let w = c.args.self.now in
    let v : Walk = record { marks = c.mark-in-TypeOp-3.new.marks; types = w.types; terms = w.terms; tasks = w.tasks } in
    let own = operator_key c.get-new.result.now.op (length c.get-new.result.now.names.items) ∷ constant_key c.get-new.result.now.abs ∷ constant_key c.get-new.result.now.rep ∷ [] in
    let arity : c.len.result ≡ length c.get-new.result.now.names.items = omega (arith, c.len.ensures, c.get-new.result.now.names.ok.0) in
    let one = c.mark-in-TypeOp.ensures ∙ ap (marked w.marks.items)
    (c.in_ok-item-in-TypeOp.ensures ∙ ap (λ k. found c.args.items.now.index (operator_key c.get-new.result.now.op k)) arity) in
    let two = c.mark-in-TypeOp-2.ensures ∙ ap₂ marked one c.constant-in-TypeOp.ensures in
    let three = c.mark-in-TypeOp-3.ensures ∙ ap₂ marked two c.constant-in-TypeOp-2.ensures in
    gains-IsWalk p.trees (made_items p.made) w v own [] c.requires.walk
    (keys-Gains p c.args.items.now c.requires.items w v c.requires.walk own (tt {0}, (tt {0}, (tt {0}, tt {0}))) [] (tt {0}) three refl refl refl)

pub returns-in_ok-item-in-TypeOp-clause-wants : goal.returns-in_ok-item-in-TypeOp-clause-wants
returns-in_ok-item-in-TypeOp-clause-wants c =
    let p = c.args.proof.now in
    let w = c.args.self.now in
    let v : Walk = record { marks = c.mark-in-TypeOp-3.new.marks; types = w.types; terms = w.terms; tasks = w.tasks } in
    let own = operator_key c.get-new.result.now.op (length c.get-new.result.now.names.items) ∷ constant_key c.get-new.result.now.abs ∷ constant_key c.get-new.result.now.rep ∷ [] in
    let arity : c.len.result ≡ length c.get-new.result.now.names.items = omega (arith, c.len.ensures, c.get-new.result.now.names.ok.0) in
    let one = c.mark-in-TypeOp.ensures ∙ ap (marked w.marks.items)
    (c.in_ok-item-in-TypeOp.ensures ∙ ap (λ k. found c.args.items.now.index (operator_key c.get-new.result.now.op k)) arity) in
    let two = c.mark-in-TypeOp-2.ensures ∙ ap₂ marked one c.constant-in-TypeOp.ensures in
    let three = c.mark-in-TypeOp-3.ensures ∙ ap₂ marked two c.constant-in-TypeOp-2.ensures in
    subst (λ g. WantsOf p (given_keys (parameters_view p.trees g)) w v) (ap given.TypeOp c.get-new.ensures ∙ sym c.in-TypeOp.is)
    (gains-Wants p.trees (made_items p.made) w v own [] c.requires.walk
    (keys-Gains p c.args.items.now c.requires.items w v c.requires.walk own (tt {0}, (tt {0}, (tt {0}, tt {0}))) [] (tt {0}) three refl refl refl))
