-- How trees begin: products over types, and symbols with one argument.
use Rattle.std.proofs.Common.{◌≡◌, ℕ, suc, ◌+◌, List, [], ◌∷◌, ◌++◌, Bool, true, false, Some, None, refl, sym, ap, ◌∙◌, arith}
use Rattle.lp_spec.specs.Trees.{Tree, SortType, SortKind, Var, Sym, App, Lam, Pi, tree_eq}
use Rattle.lp_spec.specs.Modules.{types}
use Rattle.lp_term.specs.declared.LpId.{LpId}
use Rattle.lp_term.specs.declared.LpNode.{LpNode}
use Rattle.lp_term.specs.declared.LpNode.TheVariants as node
use Rattle.lp_term.specs.Tables.{tree_of_node}
use Rattle.decode_spec.specs.Options.{provided}
use Rattle.decode_spec.specs.Decode.{is_types, peel_one, peel_types, symbol_argument, peel_on, peel}
use Rattle.decode_back.specs.TermWalks.{IsHead}

is_types-tree_eq : (A : Tree) → is_types A ≡ tree_eq A types
is_types-tree_eq SortType = refl
is_types-tree_eq SortKind = refl
is_types-tree_eq (Var v) = refl
is_types-tree_eq (Sym s) = refl
is_types-tree_eq (App f x) = refl
is_types-tree_eq (Lam a b) = refl
is_types-tree_eq (Pi a b) = refl

-- what begins with no product
pub peel_types-other : (trees : List Tree) (r : LpNode) → ((a b : LpId) → r ≡ node.Pi a b → ⊥)
    → ◌≡◌ {A = ℕ × Tree} (peel_types (tree_of_node trees r)) (0, tree_of_node trees r)
peel_types-other trees node.SortType h = refl
peel_types-other trees node.SortKind h = refl
peel_types-other trees (node.Var n) h = refl
peel_types-other trees (node.Sym n) h = refl
peel_types-other trees (node.App f x) h = refl
peel_types-other trees (node.Lam a b) h = refl
peel_types-other trees (node.Pi a b) h = absurd (h a b refl)

pub peel-other : (s : ℕ) (trees : List Tree) (r : LpNode) → ((a b : LpId) → r ≡ node.Pi a b → ⊥)
    → ◌≡◌ {A = List Tree × Tree} (peel s (tree_of_node trees r)) ([], tree_of_node trees r)
peel-other s trees node.SortType h = refl
peel-other s trees node.SortKind h = refl
peel-other s trees (node.Var n) h = refl
peel-other s trees (node.Sym n) h = refl
peel-other s trees (node.App f x) h = refl
peel-other s trees (node.Lam a b) h = refl
peel-other s trees (node.Pi a b) h = absurd (h a b refl)

-- a product over another type than `type`, and one over it
pub peel_types-domain : (told : Bool) (a b : Tree) → told ≡ tree_eq a types → told ≡ false → ◌≡◌ {A = ℕ × Tree} (peel_types (Pi a b)) (0, Pi a b)
peel_types-domain told a b e f = ap (λ t. peel_one t (Pi a b) (peel_types b)) (is_types-tree_eq a ∙ sym e ∙ f)

pub peel_types-more : (told : Bool) (a b : Tree) → told ≡ tree_eq a types → told ≡ true
    → ◌≡◌ {A = ℕ × Tree} (peel_types (Pi a b)) (suc (peel_types b).0, (peel_types b).1)
peel_types-more told a b e f = ap (λ t. peel_one t (Pi a b) (peel_types b)) (is_types-tree_eq a ∙ sym e ∙ f)

-- so many products, and what is left
abbrev pub after : ℕ → ℕ × Tree → ℕ × Tree
after count r = (count + r.0, r.1)

pub peeled-more : (count next : ℕ) (A B : Tree) → ◌≡◌ {A = ℕ × Tree} (peel_types A) (suc (peel_types B).0, (peel_types B).1) → next ≡ count + 1
    → ◌≡◌ {A = ℕ × Tree} (after count (peel_types A)) (after next (peel_types B))
peeled-more count next A B e f =
    let z : count + suc (peel_types B).0 ≡ next + (peel_types B).0 = omega (arith, f) in
    ap (after count) e ∙ (λ i. (z i, (peel_types B).1))

pub peeled-end : (whole : ℕ × Tree) (count : ℕ) (A : Tree) → ◌≡◌ {A = ℕ × Tree} whole (after count (peel_types A)) → ◌≡◌ {A = ℕ × Tree} (peel_types A) (0, A)
    → ◌≡◌ {A = ℕ × Tree} whole (count, A)
peeled-end whole count A e f = let z : count + 0 ≡ count = omega arith in e ∙ ap (after count) f ∙ (λ i. (z i, A))

-- the same for domains that are a symbol with an argument
abbrev pub behind_parts : List Tree → List Tree × Tree → List Tree × Tree
behind_parts parts r = (parts ++ r.0, r.1)

pub peel-domain : (s : ℕ) (a b : Tree) → symbol_argument s a ≡ None → ◌≡◌ {A = List Tree × Tree} (peel s (Pi a b)) ([], Pi a b)
peel-domain s a b e = ap (λ o. peel_on o (Pi a b) (peel s b)) e

pub peel-more : (s : ℕ) (a b x : Tree) → symbol_argument s a ≡ Some x → ◌≡◌ {A = List Tree × Tree} (peel s (Pi a b)) (x ∷ (peel s b).0, (peel s b).1)
peel-more s a b x e = ap (λ o. peel_on o (Pi a b) (peel s b)) e

-- a symbol with an argument
pub no_argument : (s : ℕ) (trees : List Tree) (r : LpNode) → ((f x : LpId) → r ≡ node.App f x → ⊥) → symbol_argument s (tree_of_node trees r) ≡ None
no_argument s trees node.SortType h = refl
no_argument s trees node.SortKind h = refl
no_argument s trees (node.Var n) h = refl
no_argument s trees (node.Sym n) h = refl
no_argument s trees (node.App f x) h = absurd (h f x refl)
no_argument s trees (node.Lam a b) h = refl
no_argument s trees (node.Pi a b) h = refl

pub argument-told : (s : ℕ) (f x : Tree) → symbol_argument s (App f x) ≡ provided (tree_eq f (Sym s)) (Some x)
argument-told s SortType x = refl
argument-told s SortKind x = refl
argument-told s (Var v) x = refl
argument-told s (Sym r) x = refl
argument-told s (App g y) x = refl
argument-told s (Lam a b) x = refl
argument-told s (Pi a b) x = refl

-- a node that is no application is a head
pub node-IsHead : (trees : List Tree) (r : LpNode) → ((f x : LpId) → r ≡ node.App f x → ⊥) → IsHead (tree_of_node trees r)
node-IsHead trees node.SortType h f x e = absurd (cc)
node-IsHead trees node.SortKind h f x e = absurd (cc)
node-IsHead trees (node.Var n) h f x e = absurd (cc)
node-IsHead trees (node.Sym n) h f x e = absurd (cc)
node-IsHead trees (node.App g y) h f x e = h g y refl
node-IsHead trees (node.Lam a b) h f x e = absurd (cc)
node-IsHead trees (node.Pi a b) h f x e = absurd (cc)

pub after-none : (r : ℕ × Tree) → ◌≡◌ {A = ℕ × Tree} r (after 0 r)
after-none r = let z : r.0 ≡ 0 + r.0 = omega arith in λ i. (z i, r.1)
