use Rattle.std.proofs.Common.{◌≡◌, ◌∙◌, refl, sym, subst, ap, arith, ◌++◌, ◌∷◌, [], length, take}
use Rattle.std.proofs.lemmas.Grind.{common_steps}
use Rattle.std.proofs.Math.Seq.{take-append_seam}
use Rattle.hol_laws.specs.RenamingLaws.{length_map}
use Rattle.compose.specs.declared.pool.Said.{Said}
use Rattle.compose.specs.Listed.{list_of, AreWithin, AreOrdered, IsNoted, AreListed}
use Rattle.compose.specs.Pools.{said, steps_in}
use Rattle.compose.proofs.ListedLaws.{within-all, within-push, AreOrdered-push, AreListed-add, AreListed-same}
use Rattle.compose.proofs.PoolLaws.{steps-push}
use Rattle.compose.proofs.pool.Pool.add.Goals as goal

pub note-requires-clause-within : goal.note-requires-clause-within
note-requires-clause-within c =
    let held = c.self.inside.held.items in
    let concl = c.args.sequent.concl in
    let list = list_of c.self.inside.lists.entries concl in
    subst (λ p. AreWithin p list) (sym (c.deref.ensures.value ∙ c.in_ok-hold.ensures.held))
    (within-push held (said c.args.sequent c.args.step) list (within-all held concl list (c.self.invariant.listed concl)))

pub note-requires-clause-ordered : goal.note-requires-clause-ordered
note-requires-clause-ordered c =
    let held = c.self.inside.held.items in
    let concl = c.args.sequent.concl in
    let list = list_of c.self.inside.lists.entries concl in
    let h = c.self.invariant.listed concl in
    subst (λ p. AreOrdered p list) (sym (c.deref.ensures.value ∙ c.in_ok-hold.ensures.held))
    (AreOrdered-push held (said c.args.sequent c.args.step) list (within-all held concl list h) h.ordered)

pub invariant_of-self-in-Ok : goal.invariant_of-self-in-Ok
invariant_of-self-in-Ok c =
    let held = c.self.inside.held.items in
    let s = said c.args.sequent c.args.step in
    let old = c.self.inside.lists.entries in
    let new = c.note.new.lists.entries in
    let steps : c.len-count.result ≡ length c.self.inside.steps.items = grind (arith, common_steps) in
    let count : c.len-count.result ≡ length held = steps ∙ ap length c.self.invariant.numbered ∙ length_map (λ (u : Said). u.step) held in
    record {
      numbered = c.in_ok-hold.ensures.steps ∙ steps-push held s c.self.inside.steps.items c.args.step c.self.invariant.numbered refl
          ∙ sym (ap steps_in c.in_ok-hold.ensures.held);
      listed = subst (λ p. AreListed p new) (sym c.in_ok-hold.ensures.held)
          (AreListed-add held s old new c.note.ensures.others c.self.invariant.listed
          (subst (λ n. IsNoted (held ++ s ∷ []) n (list_of old c.args.sequent.concl) (list_of new c.args.sequent.concl)) count
          (subst (λ p. IsNoted p c.len-count.result (list_of old c.args.sequent.concl) (list_of new c.args.sequent.concl))
          (c.deref.ensures.value ∙ c.in_ok-hold.ensures.held) c.in-Ok.ensures.noted)));
    }

pub invariant_of-self-in-Err : goal.invariant_of-self-in-Err
invariant_of-self-in-Err c =
    let held = c.self.inside.held.items in
    let own = c.self.inside.steps.items in
    let s = said c.args.sequent c.args.step in
    let new = c.note.new.lists.entries in
    let steps : c.len-count.result ≡ length own = grind (arith, common_steps) in
    let count : c.len-count.result ≡ length held = steps ∙ ap length c.self.invariant.numbered ∙ length_map (λ (u : Said). u.step) held in
    let back : c.truncate.new.self.items ≡ held = c.truncate.ensures.items ∙ ap (take c.len-count.result) c.in_ok-hold.ensures.held ∙ ap
    (λ n. take n (held ++ s ∷ [])) count ∙ take-append_seam held (s ∷ []) in
    let steps_back : c.truncate-in-Err.new.self.items ≡ own =
    c.truncate-in-Err.ensures.items ∙ ap (take c.len-count.result) c.in_ok-hold.ensures.steps ∙ ap (λ n. take n (own ++ c.args.step ∷ [])) steps
    ∙ take-append_seam own (c.args.step ∷ []) in
    record {
      numbered = steps_back ∙ c.self.invariant.numbered ∙ sym (ap steps_in back);
      listed = subst (λ p. AreListed p new) (sym back) (AreListed-same held c.self.inside.lists.entries new c.in-Err.ensures.unchanged c.self.invariant.listed);
    }
