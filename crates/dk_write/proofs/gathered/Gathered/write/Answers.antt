use Rattle.std.proofs.Common.{◌≡◌, ◌∙◌, ℕ, List, ◌++◌, take, drop, ap, arith, sym}
use Rattle.std.proofs.lemmas.List.{take-append-drop}
use Rattle.dk_write.proofs.GainedLaws.{front_part, gained_handed, writes_failed}
use Rattle.dk_write.proofs.gathered.Gathered.write.Goals as goal

cut : (xs front back : List ℕ) (n : ℕ) → front ≡ take n xs → back ≡ drop n xs → xs ≡ front ++ back
cut xs front back n e f = sym (ap (λ l. l ++ back) e ∙ ap (λ l. take n xs ++ l) f ∙ take-append-drop n xs)

pub returns-in_err-flush : goal.returns-in_err-flush
returns-in_err-flush g c =
    writes_failed _ _ _ _ _ _ _ _ _ _ _ _ c.from_residual.ensures.0 c.loop-rest.invariant.text c.loop-rest.invariant.later
    (front_part _ _ _ _ _ _ (cut _ _ _ _ c.split_at.ensures.front c.split_at.ensures.back) (rw c.gather.ensures at c.in_err-flush.ensures.err))
    c.in_err-flush.ensures.cause

pub loop-rest-preserved : goal.loop-rest-preserved
loop-rest-preserved g c = record {
  text = rw c.in_ok-flush.ensures.none
      (gained_handed _ _ _ _ _ _ _ _ c.loop-rest.invariant.text (cut _ _ _ _ c.split_at.ensures.front c.split_at.ensures.back)
      (rw c.gather.ensures at c.in_ok-flush.ensures.ok));
  later = omega (arith, c.loop-rest.invariant.later, c.in_ok-flush.ensures.cause.later);
}
