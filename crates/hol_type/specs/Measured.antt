-- The measures of a type that its entry has.
use Rattle.std.specs.Prelude.{◌≡◌, ◌-◌, ◌^◌, min}
use Rattle.hol_spec.specs.Types.{HolType}
use Rattle.hol_spec.specs.Limits.{type_size, type_depth}
use Rattle.hol_type.specs.declared.node.Measures.{Measures}

-- the measures are the type's, as far as their types go
pub record IsMeasured (measures : Measures) (tree : HolType) : Type 0 where
  pub size : measures.size ≡ min (type_size tree) (2 ^ 64 - 1)
  pub depth : measures.depth ≡ min (type_depth tree) (2 ^ 64 - 1)
