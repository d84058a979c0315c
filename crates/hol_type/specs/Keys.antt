-- Types are told apart by `==` of their numbers.
use Rattle.std.proofs.Common.{◌≡◌, true}
use Rattle.std.proofs.lemmas.Bool.{eqb-true}
use Rattle.std.specs.Prelude.{nat_eq}
use Rattle.hol_type.specs.declared.table.TypeId.{TypeId}

-- types of equal numbers are one
pub type_exact : (s t : TypeId) → nat_eq s.0 t.0 ≡ true → s ≡ t
type_exact s t h = let x = eqb-true s.0 t.0 h in λ i. record { 0 = x i }
