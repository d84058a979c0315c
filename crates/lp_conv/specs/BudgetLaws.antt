-- What the answer of a tick says of the budget.
use Rattle.std.proofs.Common.{◌≡◌, refl, ℕ, zero, suc, ◌+◌, ◌<◌, arith, Bool, true, false}

-- a step that was taken is one less
pub ticked : (old new : ℕ) (b : Bool) → (0 < old → (b ≡ true) × (new + 1 ≡ old)) → (old ≡ 0 → (b ≡ false) × (new ≡ 0)) → b ≡ true → new + 1 ≡ old
ticked zero new b some none e = absurd (let h = (none refl).0 in grind (arith, h, e))
ticked (suc old) new b some none e = (some (omega arith)).1

-- where none was taken, none was left
pub not_ticked : (old new : ℕ) (b : Bool) → (0 < old → (b ≡ true) × (new + 1 ≡ old)) → b ≡ false → old ≡ 0
not_ticked zero new b some e = refl
not_ticked (suc old) new b some e = absurd (let h = (some (omega arith)).0 in grind (arith, h, e))
