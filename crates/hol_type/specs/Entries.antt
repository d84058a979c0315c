-- What a list of entries means, each over the types of those before it.
use Rattle.std.specs.Prelude.{◌≡◌, ℕ, List, [], ◌∷◌, ◌++◌, Some, slice_get}
use Rattle.hol_spec.specs.Types.{HolType, variable, operator, types_of}
use Rattle.hol_type.specs.declared.node.Node.{Node}
use Rattle.hol_type.specs.declared.node.Node.TheVariants as node
use Rattle.hol_type.specs.declared.node.Entry.{Entry}
use Rattle.hol_type.specs.Tables.{Holds, types_at, IsDistinct}
use Rattle.hol_type.specs.Views.{AreBelow}
use Rattle.hol_type.specs.Measured.{IsMeasured}

-- the type of a node whose arguments have these numbers
abbrev pub tree_of_node : List HolType → Node → HolType
tree_of_node trees (node.Var name) = variable name
tree_of_node trees (node.Op name args) = operator name (types_of (types_at trees args.items))

-- the arguments have numbers below n
abbrev pub PartsBelow : ℕ → Node → Type 0
PartsBelow n (node.Var name) = Unit {0}
PartsBelow n (node.Op name args) = AreBelow n args.items

-- the types, and those of the entries after them
abbrev pub trees_from : List HolType → List Entry → List HolType
trees_from trees [] = trees
trees_from trees (e ∷ es) = trees_from (trees ++ tree_of_node trees e.node ∷ []) es

-- the types of a table's entries
abbrev pub trees_of : List Entry → List HolType
trees_of es = trees_from [] es

-- arguments come first, no type stands twice, and each entry has the measures of its type
pub record IsTable (es : List Entry) : Type 0 where
  pub lower : (i : ℕ) (e : Entry) → slice_get es i ≡ Some e → PartsBelow i e.node
  pub distinct : IsDistinct (trees_of es)
  pub measured : (i : ℕ) (e : Entry) (t : HolType) → slice_get es i ≡ Some e → Holds (trees_of es) i t → IsMeasured e.measures t
