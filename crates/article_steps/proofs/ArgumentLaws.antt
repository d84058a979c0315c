-- The arguments of an operator, by their numbers.
use Rattle.std.proofs.Common.{◌≡◌, ℕ, zero, suc, ◌+◌, ◌<◌, ◌≤◌, List, [], ◌∷◌, length, drop, refl, ap, ◌∙◌, arith}
use Rattle.std.specs.Prelude.{slice_index_or}
use Rattle.std.proofs.lemmas.List.{length-map}
use Rattle.hol_laws.specs.TypeLaws.{count-types_of}
use Rattle.hol_spec.specs.Types.{HolType, types_of, count}
use Rattle.hol_spec.specs.Limits.{type_depth, types_depth}
use Rattle.hol_type.specs.declared.table.TypeId.{TypeId}
use Rattle.hol_type.specs.Tables.{tree_at, types_at}
use Rattle.hol_type.specs.Views.{AreBelow}

module _ (ts : List HolType) where
  pub count-arguments : (ids : List TypeId) → count (types_of (types_at ts ids)) ≡ length ids
  count-arguments ids = count-types_of (types_at ts ids) ∙ length-map ids (λ id. tree_at ts id.0)

  -- the argument at a place, and those behind it
  pub drop-argument : (ids : List TypeId) (i : ℕ) (d : TypeId) → i < length ids → drop i (types_at ts ids)
      ≡ tree_at ts (slice_index_or ids i d).0 ∷ drop (i + 1) (types_at ts ids)
  drop-argument [] i d h = absurd (omega (arith, h))
  drop-argument (x ∷ ids) zero d h = refl
  drop-argument (x ∷ ids) (suc i) d h =
      let next : suc (i + 1) ≡ suc i + 1 = omega arith in
      drop-argument ids i d (omega (arith, h)) ∙ ap (λ k. tree_at ts (slice_index_or ids i d).0 ∷ drop k (types_at ts (x ∷ ids))) next

  pub drop-arguments : (ids : List TypeId) (i : ℕ) → length ids ≤ i → drop i (types_at ts ids) ≡ []
  drop-arguments [] zero h = refl
  drop-arguments [] (suc i) h = refl
  drop-arguments (x ∷ ids) zero h = absurd (omega (arith, h))
  drop-arguments (x ∷ ids) (suc i) h = drop-arguments ids i (omega (arith, h))

  pub argument-lower : (ids : List TypeId) (i : ℕ) (d : TypeId) → i < length ids
      → type_depth (tree_at ts (slice_index_or ids i d).0) ≤ types_depth (types_of (types_at ts ids))
  argument-lower [] i d h = absurd (omega (arith, h))
  argument-lower (x ∷ ids) zero d h = omega arith
  argument-lower (x ∷ ids) (suc i) d h = omega (arith, argument-lower ids i d (omega (arith, h)))

pub argument-below : (n : ℕ) (ids : List TypeId) (i : ℕ) (d : TypeId) → AreBelow n ids → i < length ids → (slice_index_or ids i d).0 < n
argument-below n [] i d b h = absurd (omega (arith, h))
argument-below n (x ∷ ids) zero d b h = b.0
argument-below n (x ∷ ids) (suc i) d b h = argument-below n ids i d b.1 (omega (arith, h))
