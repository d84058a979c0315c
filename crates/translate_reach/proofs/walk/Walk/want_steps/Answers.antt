use Rattle.std.proofs.Common.{◌<◌, [], ◌∷◌, ◌++◌, Some, take, arith, refl, sym, ap, subst, ◌∙◌}
use Rattle.std.specs.Prelude.{slice_index_or}
use Rattle.std.proofs.lemmas.List.{take_more}
use Rattle.hol_rules.specs.Kept.{step_count}
use Rattle.translate_spec.specs.Reach.{number_key}
use Rattle.translate_reach.specs.declared.walk.Walk.{Walk}
use Rattle.translate_reach.specs.MadeItems.{made_items, numbers_of, number_in, step_keys, WantsOf}
use Rattle.translate_reach.specs.Walks.{marked}
use Rattle.translate_reach.proofs.Walked.{gains-IsWalk, gains-Wants, Wants-trans}
use Rattle.translate_reach.proofs.Wanted.{All-index, number-kept, step-Gains, step-within, step_keys-last, steps-length}
use Rattle.translate_reach.proofs.walk.Walk.want_steps.Goals as goal

pub index-requires : goal.index-requires
index-requires c =
    let p = c.args.proof.now in
    let items = c.args.items.now in
    let k = All-index (λ id. id < step_count p) c.args.ids.now c.loop-id.id-index 0 c.requires.ids (omega (arith, c.loop-id-test.true)) in
    let n = steps-length p items c.requires.items in
    omega (arith, k, n, items.steps.ok.0)

pub mark-requires : goal.mark-requires
mark-requires c =
    let p = c.args.proof.now in
    let items = c.args.items.now in
    let k = All-index (λ id. id < step_count p) c.args.ids.now c.loop-id.id-index 0 c.requires.ids (omega (arith, c.loop-id-test.true)) in
    let number = number-kept p items c.requires.items (slice_index_or c.args.ids.now c.loop-id.id-index 0) c.index.result.now k c.index.ensures in
    let within = step-within p c.requires.order (slice_index_or c.args.ids.now c.loop-id.id-index 0) k in
    let count = c.loop-id.invariant.walk.marks in
    omega (arith, number, within, count)

pub loop-id-preserved : goal.loop-id-preserved
loop-id-preserved c =
    let p = c.args.proof.now in
    let items = c.args.items.now in
    let ids = c.args.ids.now in
    let i = c.loop-id.id-index in
    let id = slice_index_or ids i 0 in
    let w = c.loop-id.self in
    let v : Walk = record { marks = c.mark.new.marks; types = w.types; terms = w.terms; tasks = w.tasks } in
    let old = c.loop-id.invariant in
    let k = All-index (λ id. id < step_count p) ids i 0 c.requires.ids (omega (arith, c.loop-id-test.true)) in
    let number = number-kept p items c.requires.items id c.index.result.now k c.index.ensures in
    let key = number_key (number_in (numbers_of (made_items p.made)) id) ∷ [] in
    let gains = step-Gains p c.requires.order w v old.walk id k (c.mark.ensures ∙ ap (λ n. marked w.marks.items (Some n)) number) refl refl refl in
    let wants = Wants-trans p.trees (made_items p.made) (step_keys p (take i ids)) (key ++ []) c.args.self.now w v old.wants
    (gains-Wants p.trees (made_items p.made) w v key [] old.walk gains) in
    record {
      walk = gains-IsWalk p.trees (made_items p.made) w v key [] old.walk gains;
      tasks = old.tasks;
      wants = subst (λ ks. WantsOf p ks c.args.self.now v)
          (step_keys-last p (take i ids) id ∙ ap (step_keys p) (sym (take_more ids i 0 (omega (arith, c.loop-id-test.true))))) wants;
    }
