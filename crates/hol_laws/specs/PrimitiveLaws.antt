-- Laws of the primitive constants: the types at which they stand.
use Rattle.std.proofs.Common.{◌≡◌, [], ◌∷◌, sym}
use Rattle.std.specs.Bool.{Decides}
use Rattle.hol_spec.specs.Types.{HolType}
use Rattle.hol_spec.specs.Substitution.{is_instance, image}
use Rattle.hol_laws.specs.SubstitutionLaws.{is_instance-Decides}
use Rattle.hol_spec.specs.Primitives.{generic_variable, generic, equality_type, select_type}

-- Equality stands exactly at the types a -> a -> bool.
pub equality_instance : (t : HolType) → Decides (is_instance (equality_type generic) t) ((a : HolType) × (t ≡ equality_type a))
equality_instance t =
    let d = is_instance-Decides (equality_type generic) t in
    (λ h. (image (d.0 h).0 generic_variable, sym (d.0 h).1), λ k. d.1 ((generic_variable, k.0) ∷ [], sym k.1))

-- Choice stands exactly at the types (a -> bool) -> a.
pub select_instance : (t : HolType) → Decides (is_instance (select_type generic) t) ((a : HolType) × (t ≡ select_type a))
select_instance t =
    let d = is_instance-Decides (select_type generic) t in
    (λ h. (image (d.0 h).0 generic_variable, sym (d.0 h).1), λ k. d.1 ((generic_variable, k.0) ∷ [], sym k.1))
