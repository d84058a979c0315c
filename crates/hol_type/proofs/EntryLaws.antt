-- The types of a list of entries.
use Rattle.std.proofs.Common.{◌≡◌, ℕ, zero, suc, ◌+◌, ◌≤◌, refl, sym, ap, ◌∙◌, subst, arith, List, [], ◌∷◌, ◌++◌, length, Some, length-append, true}
use Rattle.std.specs.Prelude.{slice_get}
use Rattle.std.proofs.lemmas.Option.{slice_get_within, same_Some}
use Rattle.std.proofs.lemmas.Bool.{eqb-true, and_parts, and_from}
use Rattle.std.proofs.Math.Path.{ap₂}
use lib.Pointwise.{pointwise}
use Rattle.hol_spec.specs.Names.{Name}
use Rattle.hol_spec.specs.NameEquality.{name_eq}
use Rattle.hol_laws.specs.NameEqualityLaws.{name_eq-Decides}
use Rattle.hol_laws.specs.PlaceLaws.{slice_get-last}
use Rattle.hol_spec.specs.Types.{HolType, HolTypes, variable, operator, none, types_of}
use Rattle.hol_type.specs.declared.table.TypeId.{TypeId}
use Rattle.hol_type.specs.declared.node.Node.{Node}
use Rattle.hol_type.specs.declared.node.Node.TheVariants as node
use Rattle.hol_type.specs.declared.node.Entry.{Entry}
use Rattle.hol_type.specs.contracts.node.NodePartialEq.TheImpl as node_eq
use Rattle.hol_type.specs.contracts.table.TypeIdPartialEq.TheImpl as id_eq
use Rattle.hol_type.specs.Tables.{types_at, Holds, IsDistinct, Stays}
use Rattle.hol_type.specs.Views.{AreBelow}
use Rattle.hol_type.specs.TableLaws.{Stays-refl, Stays-trans, Stays-append, types_at-Stays, types_at-same, types_of-same, AreBelow-known}
use Rattle.hol_type.specs.Entries.{tree_of_node, PartsBelow, trees_from, trees_of}

-- a node's type stays
pub tree_of_node-Stays : {ts us : List HolType} → Stays ts us → (n : Node) → PartsBelow (length ts) n → tree_of_node ts n ≡ tree_of_node us n
tree_of_node-Stays k (node.Var n) h = refl
tree_of_node-Stays {ts = ts} k (node.Op n args) h =
    ap (λ l. operator n (types_of l)) (types_at-Stays k args.items (AreBelow-known ts (length ts) args.items (omega arith) h))

AreBelow-more : {a b : ℕ} → a ≤ b → (ids : List TypeId) → AreBelow a ids → AreBelow b ids
AreBelow-more h [] p = tt
AreBelow-more h (id ∷ ids) p = (omega (arith, h, p.0), AreBelow-more h ids p.1)

-- parts below a number are below a greater one
pub PartsBelow-more : {a b : ℕ} → a ≤ b → (n : Node) → PartsBelow a n → PartsBelow b n
PartsBelow-more h (node.Var n) p = tt
PartsBelow-more h (node.Op n args) p = AreBelow-more h args.items p

pub trees_from-append : (ts : List HolType) (es : List Entry) (e : Entry) → trees_from ts (es ++ e ∷ []) ≡ trees_from ts es
    ++ tree_of_node (trees_from ts es) e.node ∷ []
trees_from-append ts [] e = refl
trees_from-append ts (m ∷ es) e = trees_from-append (ts ++ tree_of_node ts m.node ∷ []) es e

pub length-trees_from : (ts : List HolType) (es : List Entry) → length (trees_from ts es) ≡ length ts + length es
length-trees_from ts [] = omega arith
length-trees_from ts (e ∷ es) = omega (arith, length-trees_from (ts ++ tree_of_node ts e.node ∷ []) es, length-append ts (tree_of_node ts e.node ∷ []))

pub length-trees_of : (es : List Entry) → length (trees_of es) ≡ length es
length-trees_of es = omega (arith, length-trees_from [] es)

pub Stays-trees_from : (ts : List HolType) (es : List Entry) → Stays ts (trees_from ts es)
Stays-trees_from ts [] = Stays-refl ts
Stays-trees_from ts (e ∷ es) = Stays-trans (Stays-append ts (tree_of_node ts e.node ∷ [])) (Stays-trees_from (ts ++ tree_of_node ts e.node ∷ []) es)

-- the tree of each entry is that of its parts among all trees
node_from : (ts : List HolType) (es : List Entry) (j : ℕ) (m : Entry) → slice_get es j ≡ Some m → PartsBelow (length ts + j) m.node
    → slice_get (trees_from ts es) (length ts + j) ≡ Some (tree_of_node (trees_from ts es) m.node)
node_from ts [] j m e h = absurd (let h = slice_get_within [] j m e in omega arith)
node_from ts (n ∷ es) zero m e h =
    let z : length ts + 0 ≡ length ts = omega arith in
    let same : n ≡ m = same_Some _ _ e in
    let us = ts ++ tree_of_node ts n.node ∷ [] in
    let hn = subst (λ w. PartsBelow w n.node) z (subst (λ w. PartsBelow (length ts + 0) w.node) (sym same) h) in
    ap (slice_get (trees_from ts (n ∷ es))) z
    ∙ (Stays-trees_from us es).each (length ts) (tree_of_node ts n.node) (slice_get-last ts (tree_of_node ts n.node))
    ∙ ap Some (tree_of_node-Stays (Stays-trees_from ts (n ∷ es)) n.node hn)
    ∙ ap (λ w. Some (tree_of_node (trees_from ts (n ∷ es)) w.node)) same
node_from ts (n ∷ es) (suc j) m e h =
    let us = ts ++ tree_of_node ts n.node ∷ [] in
    let z : length us + j ≡ length ts + suc j = omega (arith, length-append ts (tree_of_node ts n.node ∷ [])) in
    subst (λ w. slice_get (trees_from us es) w ≡ Some (tree_of_node (trees_from us es) m.node)) z
    (node_from us es j m e (subst (λ w. PartsBelow w m.node) (sym z) h))

-- the tree of each entry of a table
pub trees_of-Holds : (es : List Entry) (i : ℕ) (e : Entry) → PartsBelow i e.node → slice_get es i ≡ Some e
    → Holds (trees_of es) i (tree_of_node (trees_of es) e.node)
trees_of-Holds es i e low at =
    let r = node_from [] es i e at (subst (λ w. PartsBelow w e.node) (let z : i ≡ 0 + i = omega arith in z) low) in
    subst (λ w. slice_get (trees_of es) w ≡ Some (tree_of_node (trees_of es) e.node)) (let z : 0 + i ≡ i = omega arith in z) r

-- numbers that are equal by their test are one
pub id_eq-true : (x y : TypeId) → id_eq.eq-value.it x y ≡ true → x ≡ y
id_eq-true x y h = let e : x.0 ≡ y.0 = eqb-true x.0 y.0 h in λ i. record { 0 = e i }

pub id_eq-refl : (x : TypeId) → id_eq.eq-value.it x x ≡ true
id_eq-refl x = grind arith

ids_eq-true : (xs ys : List TypeId) → pointwise id_eq.eq-value.it xs ys ≡ true → xs ≡ ys
ids_eq-true [] [] h = refl
ids_eq-true (x ∷ xs) (y ∷ ys) h = let p = and_parts (id_eq.eq-value.it x y) (pointwise id_eq.eq-value.it xs ys) h in ap₂ (λ a l. a ∷ l) (id_eq-true x y p.0)
    (ids_eq-true xs ys p.1)
ids_eq-true [] (y ∷ ys) h = absurd (cc)
ids_eq-true (x ∷ xs) [] h = absurd (cc)

pub ids_eq-refl : (xs : List TypeId) → pointwise id_eq.eq-value.it xs xs ≡ true
ids_eq-refl [] = refl
ids_eq-refl (x ∷ xs) = rw (id_eq-refl x) (ids_eq-refl xs)

-- nodes that are equal by their test have one type
pub node_eq-true : (ts : List HolType) (x y : Node) → node_eq.eq-value.it x y ≡ true → tree_of_node ts x ≡ tree_of_node ts y
node_eq-true ts (node.Var m) (node.Var n) h = ap variable ((name_eq-Decides m n).0 h)
node_eq-true ts (node.Op m is) (node.Op n js) h =
    let p = and_parts (name_eq m n) (pointwise id_eq.eq-value.it is.items js.items) h in
    ap₂ operator ((name_eq-Decides m n).0 p.0) (ap (λ l. types_of (types_at ts l)) (ids_eq-true is.items js.items p.1))
node_eq-true ts (node.Var m) (node.Op n js) h = absurd (cc)
node_eq-true ts (node.Op m is) (node.Var n) h = absurd (cc)

-- the parts of a type's head
name_of : HolType → Name
name_of (variable n) = n
name_of (operator n ts) = n

parts_of : HolType → HolTypes
parts_of (variable n) = none
parts_of (operator n ts) = ts

-- where no type has two numbers, nodes of one type are equal by their test
pub node_same : {ts : List HolType} → IsDistinct ts → (m n : Node) → PartsBelow (length ts) m → PartsBelow (length ts) n → tree_of_node ts m ≡ tree_of_node ts n
    → node_eq.eq-value.it m n ≡ true
unfolding name_of parts_of
node_same d (node.Var m) (node.Var n) a b e = (name_eq-Decides m n).1 (ap name_of e)
node_same {ts = ts} d (node.Op m is) (node.Op n js) a b e =
    let p = (name_eq-Decides m n).1 (ap name_of e) in
    let q = types_at-same d is.items js.items (AreBelow-known ts (length ts) is.items (omega arith) a) (AreBelow-known ts (length ts) js.items (omega arith) b)
    (types_of-same _ _ (ap parts_of e)) in
    and_from (name_eq m n) (pointwise id_eq.eq-value.it is.items js.items) p
    (subst (λ l. pointwise id_eq.eq-value.it is.items l ≡ true) q (ids_eq-refl is.items))
node_same d (node.Var m) (node.Op n js) a b e = absurd (cc)
node_same d (node.Op m is) (node.Var n) a b e = absurd (cc)

pub id_eq-same : (x y : TypeId) → x ≡ y → id_eq.eq-value.it x y ≡ true
id_eq-same x y e = subst (λ z. id_eq.eq-value.it x z ≡ true) e (id_eq-refl x)
