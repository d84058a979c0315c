-- The test whether two names are the same decides it.
use Rattle.std.specs.Prelude.{◌≡◌}
use Rattle.std.specs.Bool.{Decides}
use Rattle.std.proofs.Common.{true, refl}
use Rattle.std.proofs.lemmas.Slice.Eq.{slice_eq-Decides, bytes_eq-Decides}
use Rattle.hol_spec.specs.Names.{Name}
use Rattle.hol_spec.specs.NameEquality.{name_eq}

-- the test holds exactly of equal names
pub name_eq-Decides : (m n : Name) → Decides (name_eq m n) (m ≡ n)
name_eq-Decides m n = slice_eq-Decides bytes_eq-Decides m n (name_eq m n) refl

pub name_eq-refl : (n : Name) → name_eq n n ≡ true
name_eq-refl n = (name_eq-Decides n n).1 refl
