use Rattle.std.proofs.Common.{[], ◌∷◌, ◌++◌, take, arith, refl, sym, ap, subst, ◌∙◌}
use Rattle.std.proofs.lemmas.List.{take_more}
use Rattle.hol_spec.specs.Rules as rule
use Rattle.hol_defs.specs.Lists.{pairs_at as pairs_view}
use Rattle.translate_spec.specs.Reach.{constant_key, type_keys, given_keys}
use Rattle.hol_term.specs.Tables.{type_at}
use Rattle.translate_reach.specs.declared.walk.Task.TheVariants as task
use Rattle.translate_reach.specs.declared.walk.Walk.{Walk}
use Rattle.translate_reach.specs.MadeItems.{made_items, WantsOf}
use Rattle.translate_reach.specs.Walks.{marked}
use Rattle.translate_reach.proofs.Given.{given-last, pair-known}
use Rattle.translate_reach.proofs.Parts.{found-below}
use Rattle.translate_reach.proofs.Walked.{gains-IsWalk, gains-Wants, Wants-trans}
use Rattle.translate_reach.proofs.Wanted.{constant-Gains}
use Rattle.translate_reach.proofs.walk.Walk.want_pairs.Goals as goal

pub mark-requires : goal.mark-requires
mark-requires c =
    let p = c.args.proof.now in
    rw c.constant.ensures
    (found-below (made_items p.made) c.args.items.now.index c.loop-name.self.marks.items c.requires.items.index c.loop-name.invariant.walk.marks
    (constant_key c.loop-name-item.result.0))

pub loop-name-preserved : goal.loop-name-preserved
loop-name-preserved c =
    let p = c.args.proof.now in
    let pairs = c.args.pairs.now in
    let i = c.loop-name.name-index in
    let q = c.loop-name-item.result in
    let w = c.loop-name.self in
    let v : Walk = record { marks = c.mark.new.marks; types = w.types; terms = w.terms; tasks = c.push.new.self } in
    let old = c.loop-name.invariant in
    let known = pair-known p.trees pairs i q c.requires.known (omega (arith, c.loop-name-test.true)) c.loop-name-item.is in
    let own = constant_key q.0 ∷ [] in
    let more = task.Type q.1.ty ∷ [] in
    let marks = c.mark.ensures ∙ ap (marked w.marks.items) c.constant.ensures in
    let gains = constant-Gains p c.args.items.now c.requires.items w v old.walk q.0 more (known, tt {0}) marks refl refl c.in_ok-push.ensures.pushed in
    let before = given_keys (rule.Parameters.constants (pairs_view p.trees (take i pairs))) in
    let wants = Wants-trans p.trees (made_items p.made) before (constant_key q.0 ∷ type_keys (type_at p.trees q.1.ty.0) ++ []) c.args.self.now w v old.wants
    (gains-Wants p.trees (made_items p.made) w v own more old.walk gains) in
    let keys = sym (given-last p.trees (take i pairs) q)
    ∙ ap (λ ps. given_keys (rule.Parameters.constants (pairs_view p.trees ps)))
    (ap (λ r. take i pairs ++ r ∷ []) c.loop-name-item.is ∙ sym (take_more pairs i q (omega (arith, c.loop-name-test.true)))) in
    record {
      walk = gains-IsWalk p.trees (made_items p.made) w v own more old.walk gains;
      wants = subst (λ ks. WantsOf p ks c.args.self.now v) keys wants;
    }
