-- What a node of a table means, over the types and the terms before it.
use Rattle.std.specs.Prelude.{◌≡◌, ℕ, ◌<◌, ◌-◌, ◌^◌, List, [], ◌∷◌, ◌++◌, length, slice_get, Some, min}
use Rattle.hol_spec.specs.Types.{HolType}
use Rattle.hol_spec.specs.Terms.{Term, free, bound, constant, app, lam, type_of}
use Rattle.hol_spec.specs.TermBinding.{loose}
use Rattle.hol_spec.specs.Limits.{term_size, term_depth}
use Rattle.hol_type.specs.Tables.{tree_at}
use Rattle.hol_type.specs.Tables as type
use Rattle.hol_term.specs.declared.node.Node.{Node}
use Rattle.hol_term.specs.declared.node.Node.TheVariants as node
use Rattle.hol_term.specs.declared.node.Measures.{Measures}
use Rattle.hol_term.specs.declared.node.Entry.{Entry}
use Rattle.hol_term.specs.Tables.{Trees, term_in, IsDistinct, IsTypeNumber}
use Rattle.hol_term.specs.Masks.{HasBits}

-- the tree of a node, of these types, whose parts have these numbers
abbrev pub tree_of_node : Trees → Node → Term
tree_of_node trees (node.Free name ty) = free name (tree_at trees.types ty.0)
tree_of_node trees (node.Bound n) = bound n
tree_of_node trees (node.Const name ty) = constant name (tree_at trees.types ty.0)
tree_of_node trees (node.App f x) = app (term_in trees.terms f.0) (term_in trees.terms x.0)
tree_of_node trees (node.Lam ty b) = lam (tree_at trees.types ty.0) (term_in trees.terms b.0)

-- the node's parts have numbers below n, and its types are among the first m; its bound number is not the greatest there is
abbrev pub PartsBelow : ℕ → ℕ → Node → Type 0
PartsBelow n m (node.Free name ty) = ty.0 < m
PartsBelow n m (node.Bound k) = k < 2 ^ 128 - 1
PartsBelow n m (node.Const name ty) = ty.0 < m
PartsBelow n m (node.App f x) = (f.0 < n) × (x.0 < n)
PartsBelow n m (node.Lam ty b) = (ty.0 < m) × (b.0 < n)

-- the measures are the tree's: size and depth as far as their types go, and a mask with the bits of its free variables
pub record AreMeasures (measures : Measures) (tree : Term) : Type 0 where
  pub size : measures.size ≡ min (term_size tree) (2 ^ 64 - 1)
  pub depth : measures.depth ≡ min (term_depth tree) (2 ^ 64 - 1)
  pub loose : measures.loose ≡ loose tree
  pub mask : HasBits measures.mask tree

-- the entry has the measures of the tree, and the number of its type if it has one
pub record IsMeasured (types : List HolType) (entry : Entry) (tree : Term) : Type 0 where
  pub measures : AreMeasures entry.facts.measures tree
  pub typed : IsTypeNumber types entry.facts.ty (type_of tree)

-- the terms, and those of the entries after them
abbrev pub terms_from : List HolType → List Term → List Entry → List Term
terms_from types terms [] = terms
terms_from types terms (e ∷ es) = terms_from types (terms ++ tree_of_node (record { types = types; terms = terms }) e.node ∷ []) es

-- the terms of a table's entries
abbrev pub terms_of : List HolType → List Entry → List Term
terms_of types es = terms_from types [] es

-- no type stands twice, parts come first, no tree stands twice, and each entry has the measures of its tree
pub record IsTable (types : List HolType) (es : List Entry) : Type 0 where
  pub one_each : type.IsDistinct types
  pub lower : (i : ℕ) (e : Entry) → slice_get es i ≡ Some e → PartsBelow i (length types) e.node
  pub distinct : IsDistinct (terms_of types es)
  pub measured : (i : ℕ) (e : Entry) (t : Term) → slice_get es i ≡ Some e → slice_get (terms_of types es) i ≡ Some t → IsMeasured types e t
