-- The terms of a list of entries.
use Rattle.std.proofs.Common.{◌≡◌, ℕ, zero, suc, ◌+◌, refl, sym, ap, ◌∙◌, subst, arith, List, [], ◌∷◌, ◌++◌, length, Some, length-append, ◌⊎◌, ⊎_elim, inl, inr, true}
use Rattle.std.specs.Prelude.{slice_get, nat_eq}
use Rattle.std.proofs.lemmas.Option.{slice_get_within, same_Some}
use Rattle.std.proofs.lemmas.Bool.{eqb-true, eq-eqb, and_parts, and_from, false≢true}
use Rattle.std.proofs.Math.Path.{ap₂}
use Rattle.hol_spec.specs.Names.{Name}
use Rattle.hol_spec.specs.NameEquality.{name_eq}
use Rattle.hol_laws.specs.NameEqualityLaws.{name_eq-Decides}
use Rattle.hol_spec.specs.Types.{HolType, variable}
use Rattle.hol_spec.specs.Terms.{Term, free, bound, constant, app, lam}
use Rattle.hol_type.specs.declared.table.TypeId.{TypeId}
use Rattle.hol_type.specs.Tables as type
use Rattle.hol_type.specs.TableLaws as type_law
use Rattle.hol_term.specs.declared.TermId.{TermId}
use Rattle.hol_term.specs.declared.node.Node.{Node}
use Rattle.hol_term.specs.declared.node.Node.TheVariants as node
use Rattle.hol_term.specs.declared.node.Entry.{Entry}
use Rattle.hol_term.specs.contracts.node.NodePartialEq.TheImpl as node_eq
use Rattle.hol_term.specs.Tables.{Trees, IsDistinct, Stays}
use Rattle.hol_term.specs.TableLaws.{Stays-refl, Stays-trans, Stays-append, tree_of_node-Stays, term_in-same}
use Rattle.hol_term.specs.Nodes.{tree_of_node, PartsBelow, terms_from, terms_of}

-- types and terms
abbrev pub over : List HolType → List Term → Trees
over types terms = record { types = types; terms = terms }

pub terms_from-append : (types : List HolType) (ts : List Term) (es : List Entry) (e : Entry) → terms_from types ts (es ++ e ∷ []) ≡ terms_from types ts es
    ++ tree_of_node (over types (terms_from types ts es)) e.node ∷ []
terms_from-append types ts [] e = refl
terms_from-append types ts (m ∷ es) e = terms_from-append types (ts ++ tree_of_node (over types ts) m.node ∷ []) es e

pub length-terms_from : (types : List HolType) (ts : List Term) (es : List Entry) → length (terms_from types ts es) ≡ length ts + length es
length-terms_from types ts [] = omega arith
length-terms_from types ts (e ∷ es) = omega
    (arith, length-terms_from types (ts ++ tree_of_node (over types ts) e.node ∷ []) es, length-append ts (tree_of_node (over types ts) e.node ∷ []))

pub length-terms_of : (types : List HolType) (es : List Entry) → length (terms_of types es) ≡ length es
length-terms_of types es = omega (arith, length-terms_from types [] es)

pub Stays-terms_from : (types : List HolType) (ts : List Term) (es : List Entry) → Stays ts (terms_from types ts es)
Stays-terms_from types ts [] = Stays-refl ts
Stays-terms_from types ts (e ∷ es) = Stays-trans (Stays-append ts (tree_of_node (over types ts) e.node ∷ []))
    (Stays-terms_from types (ts ++ tree_of_node (over types ts) e.node ∷ []) es)

pub slice_get-last : {X : Type 0} (xs : List X) (x : X) → slice_get (xs ++ x ∷ []) (length xs) ≡ Some x
slice_get-last [] x = refl
slice_get-last (z ∷ xs) x = slice_get-last xs x

-- an item of a longer list is an old one or the last
pub slice_get-one_more : {X : Type 0} (xs : List X) (x y : X) (i : ℕ) → slice_get (xs ++ x ∷ []) i ≡ Some y → (slice_get xs i ≡ Some y)
    ⊎ ((i ≡ length xs) × (x ≡ y))
slice_get-one_more [] x y zero e = inr (refl, same_Some _ _ e)
slice_get-one_more [] x y (suc i) e = inl e
slice_get-one_more (z ∷ xs) x y zero e = inl e
slice_get-one_more (z ∷ xs) x y (suc i) e = ⊎_elim (λ h. inl h) (λ h. inr (ap suc h.0, h.1)) (slice_get-one_more xs x y i e)

-- the term of each entry is that of its parts among all terms
node_from : (types : List HolType) (ts : List Term) (es : List Entry) (j : ℕ) (m : Entry) → slice_get es j ≡ Some m
    → PartsBelow (length ts + j) (length types) m.node → slice_get (terms_from types ts es) (length ts + j)
    ≡ Some (tree_of_node (over types (terms_from types ts es)) m.node)
node_from types ts [] j m e h = absurd (let h = slice_get_within [] j m e in omega arith)
node_from types ts (n ∷ es) zero m e h =
    let z : length ts + 0 ≡ length ts = omega arith in
    let same : n ≡ m = same_Some _ _ e in
    let us = ts ++ tree_of_node (over types ts) n.node ∷ [] in
    let hn = subst (λ w. PartsBelow w (length types) n.node) z (subst (λ w. PartsBelow (length ts + 0) (length types) w.node) (sym same) h) in
    ap (slice_get (terms_from types ts (n ∷ es))) z
    ∙ (Stays-terms_from types us es).each (length ts) (tree_of_node (over types ts) n.node) (slice_get-last ts (tree_of_node (over types ts) n.node))
    ∙ ap Some (tree_of_node-Stays (over types ts) (over types (terms_from types ts (n ∷ es))) (type_law.Stays-refl types) (Stays-terms_from types ts (n ∷ es))
    n.node hn)
    ∙ ap (λ w. Some (tree_of_node (over types (terms_from types ts (n ∷ es))) w.node)) same
node_from types ts (n ∷ es) (suc j) m e h =
    let us = ts ++ tree_of_node (over types ts) n.node ∷ [] in
    let z : length us + j ≡ length ts + suc j = omega (arith, length-append ts (tree_of_node (over types ts) n.node ∷ [])) in
    subst (λ w. slice_get (terms_from types us es) w ≡ Some (tree_of_node (over types (terms_from types us es)) m.node)) z
    (node_from types us es j m e (subst (λ w. PartsBelow w (length types) m.node) (sym z) h))

-- the term of each entry of a table
pub terms_of-Some : (types : List HolType) (es : List Entry) (i : ℕ) (e : Entry) → PartsBelow i (length types) e.node → slice_get es i ≡ Some e
    → slice_get (terms_of types es) i ≡ Some (tree_of_node (over types (terms_of types es)) e.node)
terms_of-Some types es i e low at =
    let r = node_from types [] es i e at (subst (λ w. PartsBelow w (length types) e.node) (let z : i ≡ 0 + i = omega arith in z) low) in
    subst (λ w. slice_get (terms_of types es) w ≡ Some (tree_of_node (over types (terms_of types es)) e.node)) (let z : 0 + i ≡ i = omega arith in z) r

-- with more types the terms are the same
terms_from-types : {a b : List HolType} → type.Stays a b → (ts : List Term) (es : List Entry)
    → ((i : ℕ) (e : Entry) → slice_get es i ≡ Some e → PartsBelow (length ts + i) (length a) e.node) → terms_from a ts es ≡ terms_from b ts es
terms_from-types k ts [] low = refl
terms_from-types {a = a} {b = b} k ts (e ∷ es) low =
    let z : length ts + 0 ≡ length ts = omega arith in
    let first = subst (λ w. PartsBelow w (length a) e.node) z (low 0 e refl) in
    let us = ts ++ tree_of_node (over a ts) e.node ∷ [] in
    let more : (i : ℕ) (m : Entry) → slice_get es i ≡ Some m → PartsBelow (length us + i) (length a) m.node
    = λ i m at. let y : length ts + suc i ≡ length us + i =
    omega (arith, length-append ts (tree_of_node (over a ts) e.node ∷ [])) in subst (λ w. PartsBelow w (length a) m.node) y (low (suc i) m at) in
    terms_from-types k us es more
    ∙ ap (λ t. terms_from b (ts ++ t ∷ []) es) (tree_of_node-Stays (over a ts) (over b ts) k (Stays-refl ts) e.node first)

pub terms_of-types : {a b : List HolType} → type.Stays a b → (es : List Entry)
    → ((i : ℕ) (e : Entry) → slice_get es i ≡ Some e → PartsBelow i (length a) e.node) → terms_of a es ≡ terms_of b es
terms_of-types {a = a} k es low = terms_from-types k [] es
    (λ i e at. let y : i ≡ 0 + i = omega arith in subst (λ w. PartsBelow w (length a) e.node) y (low i e at))

-- numbers that are equal by their test are one
same_type : (t u : TypeId) → nat_eq t.0 u.0 ≡ true → t ≡ u
same_type t u e = let p = eqb-true t.0 u.0 e in λ i. record { 0 = p i }

same_term : (f g : TermId) → nat_eq f.0 g.0 ≡ true → f ≡ g
same_term f g e = let p = eqb-true f.0 g.0 e in λ i. record { 0 = p i }

number-refl : (n : ℕ) → nat_eq n n ≡ true
number-refl n = eq-eqb n n refl

-- nodes that are equal by their test are one
pub node_eq-true : (x y : Node) → node_eq.eq-value.it x y ≡ true → x ≡ y
node_eq-true (node.Free m t) (node.Free n u) h = let p =
    and_parts (name_eq m n) (nat_eq t.0 u.0) h in ap₂ node.Free ((name_eq-Decides m n).0 p.0) (same_type t u p.1)
node_eq-true (node.Bound n) (node.Bound m) h = ap node.Bound (eqb-true n m h)
node_eq-true (node.Const m t) (node.Const n u) h = let p =
    and_parts (name_eq m n) (nat_eq t.0 u.0) h in ap₂ node.Const ((name_eq-Decides m n).0 p.0) (same_type t u p.1)
node_eq-true (node.App f x) (node.App g y) h = let p = and_parts (nat_eq f.0 g.0) (nat_eq x.0 y.0) h in ap₂ node.App (same_term f g p.0) (same_term x y p.1)
node_eq-true (node.Lam t x) (node.Lam u y) h = let p = and_parts (nat_eq t.0 u.0) (nat_eq x.0 y.0) h in ap₂ node.Lam (same_type t u p.0) (same_term x y p.1)
node_eq-true _ _ h = absurd (false≢true h)

pub node_eq-refl : (n : Node) → node_eq.eq-value.it n n ≡ true
node_eq-refl (node.Free m t) = and_from (name_eq m m) (nat_eq t.0 t.0) ((name_eq-Decides m m).1 refl) (number-refl t.0)
node_eq-refl (node.Bound n) = number-refl n
node_eq-refl (node.Const m t) = and_from (name_eq m m) (nat_eq t.0 t.0) ((name_eq-Decides m m).1 refl) (number-refl t.0)
node_eq-refl (node.App f x) = and_from (nat_eq f.0 f.0) (nat_eq x.0 x.0) (number-refl f.0) (number-refl x.0)
node_eq-refl (node.Lam t x) = and_from (nat_eq t.0 t.0) (nat_eq x.0 x.0) (number-refl t.0) (number-refl x.0)

-- the parts of a tree's head
name_of : Term → Name
name_of (free n t) = n
name_of (constant n t) = n
name_of _ = []

number_of : Term → ℕ
number_of (bound n) = n
number_of _ = 0

left_of : Term → Term
left_of (app f x) = f
left_of _ = bound 0

right_of : Term → Term
right_of (app f x) = x
right_of (lam t x) = x
right_of _ = bound 0

type_in : Term → HolType
type_in (free n t) = t
type_in (constant n t) = t
type_in (lam t x) = t
type_in _ = variable []

-- the heads of two trees are of one kind
abbrev AreAlike : Term → Term → Type 0
AreAlike (free m t) (free n u) = Unit {0}
AreAlike (bound m) (bound n) = Unit {0}
AreAlike (constant m t) (constant n u) = Unit {0}
AreAlike (app f x) (app g y) = Unit {0}
AreAlike (lam t x) (lam u y) = Unit {0}
AreAlike _ _ = ⊥

AreAlike-refl : (t : Term) → AreAlike t t
AreAlike-refl (free n t) = tt
AreAlike-refl (bound n) = tt
AreAlike-refl (constant n t) = tt
AreAlike-refl (app f x) = tt
AreAlike-refl (lam t x) = tt

AreAlike-same : (t u : Term) → t ≡ u → AreAlike t u
AreAlike-same t u e = subst (AreAlike t) e (AreAlike-refl t)

-- a node is known by its tree
pub tree_of_node-same : (trees : Trees) → type.IsDistinct trees.types → IsDistinct trees.terms → (m n : Node)
    → PartsBelow (length trees.terms) (length trees.types) m → PartsBelow (length trees.terms) (length trees.types) n → tree_of_node trees m
    ≡ tree_of_node trees n → m ≡ n
unfolding name_of number_of left_of right_of type_in
tree_of_node-same trees c d (node.Free a t) (node.Free b u) hm hn e = ap₂ node.Free (ap name_of e) (type_law.tree_at-same c t u hm hn (ap type_in e))
tree_of_node-same trees c d (node.Bound a) (node.Bound b) hm hn e = ap node.Bound (ap number_of e)
tree_of_node-same trees c d (node.Const a t) (node.Const b u) hm hn e = ap₂ node.Const (ap name_of e) (type_law.tree_at-same c t u hm hn (ap type_in e))
tree_of_node-same trees c d (node.App f x) (node.App g y) hm hn e =
    ap₂ node.App (term_in-same d f g hm.0 hn.0 (ap left_of e)) (term_in-same d x y hm.1 hn.1 (ap right_of e))
tree_of_node-same trees c d (node.Lam t x) (node.Lam u y) hm hn e =
    ap₂ node.Lam (type_law.tree_at-same c t u hm.0 hn.0 (ap type_in e)) (term_in-same d x y hm.1 hn.1 (ap right_of e))
tree_of_node-same trees c d m n hm hn e = absurd (AreAlike-same (tree_of_node trees m) (tree_of_node trees n) e)
