-- The measures of an operator, from its arguments.
use Rattle.std.proofs.Common.{◌≡◌, ℕ, ◌+◌, ◌-◌, ◌≤◌, ◌^◌, refl, ap, ◌∙◌, arith, List, [], ◌∷◌, length}
use Rattle.std.specs.Prelude.{min, max}
use Rattle.hol_spec.specs.Names.{Name}
use Rattle.hol_spec.specs.Types.{HolType, operator, types_of, count}
use Rattle.hol_spec.specs.Limits.{type_size, types_size, type_depth, types_depth}
use Rattle.hol_type.specs.declared.table.TypeId.{TypeId}
use Rattle.hol_type.specs.declared.node.Measures.{Measures}
use Rattle.hol_type.specs.Tables.{tree_at, types_at, AreKnown}
use Rattle.hol_type.specs.Measured.{IsMeasured}

-- the measures of the arguments before the rest are these
pub record IsMeasuring (trees : List HolType) (args rest : List TypeId) (size depth : ℕ) : Type 0 where
  pub known : AreKnown trees rest
  pub size_fits : size ≤ 2 ^ 64 - 1
  pub depth_fits : depth ≤ 2 ^ 64 - 1
  pub sizes : min (size + types_size (types_of (types_at trees rest))) (2 ^ 64 - 1) ≡ min (1 + types_size (types_of (types_at trees args))) (2 ^ 64 - 1)
  pub depths : min (max depth (types_depth (types_of (types_at trees rest)))) (2 ^ 64 - 1) ≡ min (types_depth (types_of (types_at trees args))) (2 ^ 64 - 1)

pub measuring_begins : (trees : List HolType) (args : List TypeId) → AreKnown trees args → IsMeasuring trees args args 1 0
measuring_begins trees args h = record { known = h; size_fits = omega arith; depth_fits = omega arith; sizes = refl; depths = omega arith }

size_step : (n a b k : ℕ) → k ≡ min (n + min a (2 ^ 64 - 1)) (2 ^ 64 - 1) → min (k + b) (2 ^ 64 - 1) ≡ min (n + (a + b)) (2 ^ 64 - 1)
size_step n a b k e = omega (arith, e)

depth_step : (n a b k : ℕ) → k ≡ max n (min a (2 ^ 64 - 1)) → min (max k b) (2 ^ 64 - 1) ≡ min (max n (max a b)) (2 ^ 64 - 1)
depth_step n a b k e = omega (arith, e)

pub measuring_goes_on : (trees : List HolType) (args rest : List TypeId) (id : TypeId) (size depth : ℕ) (part : Measures) (s d : ℕ)
    → IsMeasured part (tree_at trees id.0) → s ≡ min (size + part.size) (2 ^ 64 - 1) → d ≡ max depth part.depth
    → IsMeasuring trees args (id ∷ rest) size depth → IsMeasuring trees args rest s d
measuring_goes_on trees args rest id size depth part s d m es ed w = record {
  known = w.known.1;
  size_fits = omega (arith, es);
  depth_fits = omega (arith, ed, m.depth, w.depth_fits);
  sizes = size_step size (type_size (tree_at trees id.0)) (types_size (types_of (types_at trees rest))) s (es ∙ ap (λ n. min (size + n) (2 ^ 64 - 1)) m.size)
      ∙ w.sizes;
  depths = depth_step depth (type_depth (tree_at trees id.0)) (types_depth (types_of (types_at trees rest))) d (ed ∙ ap (max depth) m.depth) ∙ w.depths;
}

count-types_of : (trees : List HolType) (args : List TypeId) → count (types_of (types_at trees args)) ≡ length args
count-types_of trees [] = refl
count-types_of trees (id ∷ args) = omega (arith, count-types_of trees args)

pub measuring_ends : (trees : List HolType) (args : List TypeId) (size depth above k : ℕ) → above ≡ max (length args) 1 → k ≡ min (depth + above) (2 ^ 64 - 1)
    → IsMeasuring trees args [] size depth → (name : Name) → IsMeasured (record { size = size; depth = k }) (operator name (types_of (types_at trees args)))
measuring_ends trees args size depth above k ea ek w name = record {
  size = omega (arith, w.size_fits, w.sizes);
  depth = omega (arith, w.depth_fits, w.depths, ea, ek, count-types_of trees args);
}
