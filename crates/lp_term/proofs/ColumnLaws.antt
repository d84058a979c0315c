-- The trees of a list of shapes.
use Rattle.std.proofs.Common.{◌≡◌, ℕ, zero, suc, ◌+◌, ◌<◌, refl, sym, ap, ◌∙◌, subst, arith, List, [], ◌∷◌, ◌++◌, length, Some, length-append, true}
use Rattle.std.specs.Prelude.{slice_get}
use Rattle.std.proofs.lemmas.Option.{slice_get_within, same_Some}
use Rattle.std.proofs.Math.Path.{ap₂}
use Rattle.lp_spec.specs.Trees.{Tree, SortType, App, Lam, Pi}
use Rattle.lp_term.specs.declared.LpId.{LpId}
use Rattle.lp_term.specs.declared.LpNode.{LpNode}
use Rattle.lp_term.specs.declared.LpNode.TheVariants as node
use Rattle.lp_term.specs.declared.shape.Shape.{Shape}
use Rattle.lp_term.specs.declared.shape.Shape.TheVariants as shape
use Rattle.lp_term.specs.Shapes.{node_of}
use Rattle.lp_term.specs.contracts.shape.ShapePartialEq.TheImpl as shape_eq
use Rattle.lp_term.specs.Tables.{tree_at, Holds, tree_of_node, PartsBelow, IsDistinct, Stays}
use Rattle.lp_term.specs.TableLaws.{tree_at-Holds, Stays-refl, Stays-trans, Stays-append, tree_of_node-Stays}
use Rattle.lp_term.specs.Columns.{trees_from, trees_of}
use Rattle.lp_binding_laws.specs.LookUps.{slice_get-last}

-- a shape more is a tree more
pub trees_from-append : (ts : List Tree) (ss : List Shape) (s : Shape) → trees_from ts (ss ++ s ∷ []) ≡ trees_from ts ss
    ++ tree_of_node (trees_from ts ss) (node_of s) ∷ []
trees_from-append ts [] s = refl
trees_from-append ts (m ∷ ss) s = trees_from-append (ts ++ tree_of_node ts (node_of m) ∷ []) ss s

pub length-trees_from : (ts : List Tree) (ss : List Shape) → length (trees_from ts ss) ≡ length ts + length ss
length-trees_from ts [] = omega arith
length-trees_from ts (s ∷ ss) = omega
    (arith, length-trees_from (ts ++ tree_of_node ts (node_of s) ∷ []) ss, length-append ts (tree_of_node ts (node_of s) ∷ []))

pub length-trees_of : (ss : List Shape) → length (trees_of ss) ≡ length ss
length-trees_of ss = omega (arith, length-trees_from [] ss)

pub Stays-trees_from : (ts : List Tree) (ss : List Shape) → Stays ts (trees_from ts ss)
Stays-trees_from ts [] = Stays-refl ts
Stays-trees_from ts (s ∷ ss) = Stays-trans (Stays-append ts (tree_of_node ts (node_of s) ∷ [])) (Stays-trees_from (ts ++ tree_of_node ts (node_of s) ∷ []) ss)

-- the tree of each shape is that of its parts among all trees
node_from : (ts : List Tree) (ss : List Shape) (j : ℕ) (m : Shape) → slice_get ss j ≡ Some m → PartsBelow (length ts + j) (node_of m)
    → slice_get (trees_from ts ss) (length ts + j) ≡ Some (tree_of_node (trees_from ts ss) (node_of m))
node_from ts [] j m e h = absurd (let h = slice_get_within [] j m e in omega arith)
node_from ts (n ∷ ss) zero m e h =
    let z : length ts + 0 ≡ length ts = omega arith in
    let same : n ≡ m = same_Some _ _ e in
    let us = ts ++ tree_of_node ts (node_of n) ∷ [] in
    let hn = subst (λ w. PartsBelow w (node_of n)) z (subst (λ w. PartsBelow (length ts + 0) (node_of w)) (sym same) h) in
    ap (slice_get (trees_from ts (n ∷ ss))) z
    ∙ (Stays-trees_from us ss).each (length ts) (tree_of_node ts (node_of n)) (slice_get-last ts (tree_of_node ts (node_of n)))
    ∙ ap Some (tree_of_node-Stays (Stays-trees_from ts (n ∷ ss)) (node_of n) hn)
    ∙ ap (λ w. Some (tree_of_node (trees_from ts (n ∷ ss)) (node_of w))) same
node_from ts (n ∷ ss) (suc j) m e h =
    let us = ts ++ tree_of_node ts (node_of n) ∷ [] in
    let z : length us + j ≡ length ts + suc j = omega (arith, length-append ts (tree_of_node ts (node_of n) ∷ [])) in
    subst (λ w. slice_get (trees_from us ss) w ≡ Some (tree_of_node (trees_from us ss) (node_of m))) z
    (node_from us ss j m e (subst (λ w. PartsBelow w (node_of m)) (sym z) h))

-- the tree of each shape of a table
pub trees_of-Holds : (ss : List Shape) (i : ℕ) (s : Shape) → PartsBelow i (node_of s) → slice_get ss i ≡ Some s
    → Holds (trees_of ss) i (tree_of_node (trees_of ss) (node_of s))
trees_of-Holds ss i s low at =
    let r = node_from [] ss i s at (subst (λ w. PartsBelow w (node_of s)) (let z : i ≡ 0 + i = omega arith in z) low) in
    subst (λ w. slice_get (trees_of ss) w ≡ Some (tree_of_node (trees_of ss) (node_of s))) (let z : 0 + i ≡ i = omega arith in z) r

-- a shape is equal to itself by the test
pub shape_eq-refl : (s : Shape) → shape_eq.eq-value.it s s ≡ true
shape_eq-refl shape.SortType = refl
shape_eq-refl shape.SortKind = refl
shape_eq-refl (shape.Var n) = grind arith
shape_eq-refl (shape.Sym n) = grind arith
shape_eq-refl (shape.App f x) = grind arith
shape_eq-refl (shape.Lam f x) = grind arith
shape_eq-refl (shape.Pi f x) = grind arith

-- a shape is known by its node
shape_of : LpNode → Shape
shape_of node.SortType = shape.SortType
shape_of node.SortKind = shape.SortKind
shape_of (node.Var n) = shape.Var n
shape_of (node.Sym n) = shape.Sym n
shape_of (node.App f x) = shape.App f.0 x.0
shape_of (node.Lam a b) = shape.Lam a.0 b.0
shape_of (node.Pi a b) = shape.Pi a.0 b.0

shape_of-node_of : (s : Shape) → shape_of (node_of s) ≡ s
unfolding shape_of
shape_of-node_of shape.SortType = refl
shape_of-node_of shape.SortKind = refl
shape_of-node_of (shape.Var n) = refl
shape_of-node_of (shape.Sym n) = refl
shape_of-node_of (shape.App f x) = refl
shape_of-node_of (shape.Lam a b) = refl
shape_of-node_of (shape.Pi a b) = refl

pub node_of-same : (x y : Shape) → node_of x ≡ node_of y → x ≡ y
node_of-same x y e = sym (shape_of-node_of x) ∙ ap shape_of e ∙ shape_of-node_of y

-- a node is known by its tree
left_of : Tree → Tree
left_of (App f x) = f
left_of (Lam f x) = f
left_of (Pi f x) = f
left_of _ = SortType

right_of : Tree → Tree
right_of (App f x) = x
right_of (Lam f x) = x
right_of (Pi f x) = x
right_of _ = SortType

tree_at-same : {ts : List Tree} → IsDistinct ts → (f g : LpId) → f.0 < length ts → g.0 < length ts → tree_at ts f.0 ≡ tree_at ts g.0 → f ≡ g
tree_at-same {ts = ts} d f g hf hg e =
    let p = d.each f.0 g.0 (tree_at ts g.0) (tree_at-Holds ts f.0 hf ∙ ap Some e) (tree_at-Holds ts g.0 hg) in
    λ i. record { 0 = p i }

pub tree_of_node-same : {ts : List Tree} → IsDistinct ts → (m n : LpNode) → PartsBelow (length ts) m → PartsBelow (length ts) n → tree_of_node ts m
    ≡ tree_of_node ts n → m ≡ n
unfolding left_of right_of
tree_of_node-same d node.SortType node.SortType hm hn e = refl
tree_of_node-same d node.SortKind node.SortKind hm hn e = refl
tree_of_node-same d (node.Var a) (node.Var b) hm hn e = cc
tree_of_node-same d (node.Sym a) (node.Sym b) hm hn e = cc
tree_of_node-same d (node.App f x) (node.App g y) hm hn e =
    ap₂ node.App (tree_at-same d f g hm.0 hn.0 (ap left_of e)) (tree_at-same d x y hm.1 hn.1 (ap right_of e))
tree_of_node-same d (node.Lam f x) (node.Lam g y) hm hn e =
    ap₂ node.Lam (tree_at-same d f g hm.0 hn.0 (ap left_of e)) (tree_at-same d x y hm.1 hn.1 (ap right_of e))
tree_of_node-same d (node.Pi f x) (node.Pi g y) hm hn e =
    ap₂ node.Pi (tree_at-same d f g hm.0 hn.0 (ap left_of e)) (tree_at-same d x y hm.1 hn.1 (ap right_of e))
tree_of_node-same d _ _ hm hn e = absurd (cc)
