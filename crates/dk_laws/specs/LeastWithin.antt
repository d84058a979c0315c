-- Under a limit a text is refused for its least fault under it, within the limit.
use Rattle.std.proofs.Common.{inl, inr, ◌≡◌, ℕ, ◌<◌, ◌≤◌, refl, ap, Bool, true, false, List, length, take, Option, Some, arith}
use Rattle.std.specs.Prelude.{◌⊎◌, if◌then◌else◌, nat_le}
use Rattle.std.proofs.lemmas.Grind.{common_steps}
use Rattle.lp_spec.specs.ReadingFaults.{Refusal, refusal, DkTooLong, refused, read_bytes, unread, answer, cut_at, answer_within}
use Rattle.lp_spec.specs.Faults.{too_long, IsLeastWithin}
use Rattle.dk_laws.specs.AnswerPlaces.{answer-place}
use Rattle.dk_laws.specs.FaultLimits.{limits-told}

-- What a text is refused for under a limit is its least fault under it ..
pub answered-least : (limit : Option ℕ) (bytes : List ℕ) (r : Refusal) → answer_within limit bytes ≡ refused r → IsLeastWithin limit bytes r
answered-least limit bytes r h = let law = limits-told limit bytes in record { shown = law.shown r h; least = λ other. law.least r other h }

-- .. and it is refused for its least fault under it.
pub least-answered : (limit : Option ℕ) (bytes : List ℕ) (r : Refusal) → IsLeastWithin limit bytes r → answer_within limit bytes ≡ refused r
least-answered limit bytes r h = (limits-told limit bytes).told r h

no_later_place : (n : ℕ) (r : Refusal) → (r.place < n) ⊎ (r ≡ refusal n DkTooLong) → r.place ≤ n
no_later_place n r (inl h) = omega (arith, h)
no_later_place n r (inr h) = omega (arith, ap (λ s. s.place) h)

limit_place : (n : ℕ) (bytes : List ℕ) (r : Refusal) (b : Bool) → nat_le (length bytes) n ≡ b
    → (if b then answer bytes else cut_at n (read_bytes unread (take n bytes))) ≡ refused r → answer_within (Some n) bytes ≡ refused r → r.place ≤ n
limit_place n bytes r true e h k = let within : length bytes ≤ n = grind (arith, common_steps, e) in omega (arith, within, answer-place bytes r h)
limit_place n bytes r false e h k = no_later_place n r
    ((answered-least (Some n) bytes r k).least (refusal n DkTooLong) (too_long (grind (arith, common_steps, e))))

-- It is refused at a byte within the limit, or at the first past it.
pub answer_within-place : (n : ℕ) (bytes : List ℕ) (r : Refusal) → answer_within (Some n) bytes ≡ refused r → r.place ≤ n
answer_within-place n bytes r h = limit_place n bytes r (nat_le (length bytes) n) refl h h
