-- What the columns of a table mean: shapes, each over the trees of those before it, and measures.
use Rattle.std.specs.Prelude.{◌≡◌, ℕ, Bool, true, false, List, [], ◌∷◌, ◌++◌, length, Some, slice_get}
use Rattle.lp_spec.specs.Trees.{Tree}
use Rattle.lp_term.specs.declared.measures.Measures.{Measures}
use Rattle.lp_term.specs.declared.shape.Shape.{Shape}
use Rattle.lp_term.specs.Shapes.{node_of}
use Rattle.lp_term.specs.Tables.{tree_of_node, PartsBelow, IsDistinct}
use Rattle.lp_term.specs.Measured.{AreMeasured}

-- where a shape stands after it was put: last if it was new, and else where it stood
abbrev pub IsInserted : List Shape → List Shape → Shape → ℕ → Bool → Type 0
IsInserted old new s i true = (new ≡ old ++ s ∷ []) × (i ≡ length old) × ((j : ℕ) → slice_get old j ≡ Some s → ⊥)
IsInserted old new s i false = (new ≡ old) × (slice_get old i ≡ Some s)

-- the trees, and those of the shapes after them
abbrev pub trees_from : List Tree → List Shape → List Tree
trees_from trees [] = trees
trees_from trees (s ∷ shapes) = trees_from (trees ++ tree_of_node trees (node_of s) ∷ []) shapes

-- the trees of a table's shapes
abbrev pub trees_of : List Shape → List Tree
trees_of shapes = trees_from [] shapes

-- parts come first, no tree stands twice, and the measures are those of the trees
pub record IsTable (shapes : List Shape) (measures : List Measures) : Type 0 where
  pub lower : (i : ℕ) (s : Shape) → slice_get shapes i ≡ Some s → PartsBelow i (node_of s)
  pub distinct : IsDistinct (trees_of shapes)
  pub measured : AreMeasured measures (trees_of shapes)
