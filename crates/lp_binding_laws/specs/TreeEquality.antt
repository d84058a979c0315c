-- The test of two trees passes exactly where they are one.
use Rattle.std.specs.Prelude.{◌≡◌, true, refl}
use Rattle.std.proofs.Common.{arith}
use Rattle.lp_spec.specs.Trees.{Tree, SortType, SortKind, Var, Sym, App, Lam, Pi, tree_eq}

-- a tree passes the test with itself
pub tree_eq-refl : (t : Tree) → tree_eq t t ≡ true
tree_eq-refl SortType = refl
tree_eq-refl SortKind = refl
tree_eq-refl (Var n) = grind arith
tree_eq-refl (Sym s) = grind arith
tree_eq-refl (App f x) = grind (arith, tree_eq-refl f, tree_eq-refl x)
tree_eq-refl (Lam a b) = grind (arith, tree_eq-refl a, tree_eq-refl b)
tree_eq-refl (Pi a b) = grind (arith, tree_eq-refl a, tree_eq-refl b)

-- trees that pass the test are one
pub tree_eq-true : (t u : Tree) → tree_eq t u ≡ true → t ≡ u
tree_eq-true SortType SortType h = refl
tree_eq-true SortKind SortKind h = refl
tree_eq-true (Var n) (Var m) h = grind arith
tree_eq-true (Sym s) (Sym r) h = grind arith
tree_eq-true (App f x) (App g y) h = grind (arith, tree_eq-true f g, tree_eq-true x y)
tree_eq-true (Lam a b) (Lam c d) h = grind (arith, tree_eq-true a c, tree_eq-true b d)
tree_eq-true (Pi a b) (Pi c d) h = grind (arith, tree_eq-true a c, tree_eq-true b d)
tree_eq-true _ _ h = absurd (cc)
