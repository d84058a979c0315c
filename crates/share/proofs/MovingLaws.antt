-- Trees that are made anew with other numbers of symbols.
use Rattle.std.proofs.Common.{◌≡◌, ◌⊎◌, inl, inr, ℕ, zero, suc, ◌<◌, refl, sym, ap, subst, ◌∙◌, List, [], ◌∷◌, ◌++◌, length, Some, arith}
use Rattle.std.specs.Prelude.{slice_get}
use Rattle.std.proofs.Math.Path.{ap₂}
use Rattle.std.proofs.lemmas.Option.{same_Some}
use Rattle.lp_spec.specs.Trees.{Tree, SortType, SortKind, Var, Sym, App, Lam, Pi}
use Rattle.lp_term.specs.declared.LpId.{LpId}
use Rattle.lp_term.specs.declared.LpNode.{LpNode}
use Rattle.lp_term.specs.declared.LpNode.TheVariants as node
use Rattle.lp_term.specs.Tables.{tree_at, tree_of_node, Holds, Keeps, PartsBelow}
use Rattle.lp_term.specs.TableLaws.{Holds-tree_at, Holds-within, tree_at-Stays}
use Rattle.share_spec.specs.MovedTrees.{moved}
use Rattle.share.specs.Moving.{AreMade, IsMovedNode}

pub none_made : (place : ℕ → ℕ) (source target : List Tree) (made : List LpId) → made ≡ [] → AreMade place source target made
none_made place source target made e i id h = absurd (none i (subst (λ xs. slice_get xs i ≡ Some id) e h))
  where
    none : (i : ℕ) → slice_get [] i ≡ Some id → ⊥
    none i h = cc

-- a node over what is made is the moved node
pub moved_tree : (place : ℕ → ℕ) (source target : List Tree) (made : List LpId) (n n' : LpNode) → AreMade place source target made → IsMovedNode place made n n'
    → (tree_of_node target n' ≡ moved place (tree_of_node source n)) × PartsBelow (length target) n'
moved_tree place source target made node.SortType n' a h = subst (λ k. (tree_of_node target k ≡ SortType) × PartsBelow (length target) k) (sym h) (refl, tt)
moved_tree place source target made node.SortKind n' a h = subst (λ k. (tree_of_node target k ≡ SortKind) × PartsBelow (length target) k) (sym h) (refl, tt)
moved_tree place source target made (node.Var v) n' a h = subst (λ k. (tree_of_node target k ≡ Var v) × PartsBelow (length target) k) (sym h) (refl, tt)
moved_tree place source target made (node.Sym s) n' a h =
    subst (λ k. (tree_of_node target k ≡ moved place (Sym s)) × PartsBelow (length target) k) (sym h) (refl, tt)
moved_tree place source target made (node.App f x) n' a h =
    let p = a f.0 h.0 h.2 in let q = a x.0 h.1 h.3 in
    subst (λ k. (tree_of_node target k ≡ moved place (tree_of_node source (node.App f x))) × PartsBelow (length target) k) (sym h.4)
    (ap₂ App p.1 q.1, (p.0, q.0))
moved_tree place source target made (node.Lam f x) n' a h =
    let p = a f.0 h.0 h.2 in let q = a x.0 h.1 h.3 in
    subst (λ k. (tree_of_node target k ≡ moved place (tree_of_node source (node.Lam f x))) × PartsBelow (length target) k) (sym h.4)
    (ap₂ Lam p.1 q.1, (p.0, q.0))
moved_tree place source target made (node.Pi f x) n' a h =
    let p = a f.0 h.0 h.2 in let q = a x.0 h.1 h.3 in
    subst (λ k. (tree_of_node target k ≡ moved place (tree_of_node source (node.Pi f x))) × PartsBelow (length target) k) (sym h.4) (ap₂ Pi p.1 q.1, (p.0, q.0))

last-or : {X : Type 0} (xs : List X) (y z : X) (i : ℕ) → slice_get (xs ++ y ∷ []) i ≡ Some z → (slice_get xs i ≡ Some z) ⊎ ((i ≡ length xs) × (y ≡ z))
last-or [] y z zero e = inr (refl, same_Some _ _ e)
last-or [] y z (suc i) e = absurd (cc)
last-or (x ∷ xs) y z zero e = inl e
last-or (x ∷ xs) y z (suc i) e = go (last-or xs y z i e)
  where
    go : (slice_get xs i ≡ Some z) ⊎ ((i ≡ length xs) × (y ≡ z)) → (slice_get xs i ≡ Some z) ⊎ ((suc i ≡ length (x ∷ xs)) × (y ≡ z))
    go (inl h) = inl h
    go (inr h) = inr (omega (arith, h.0), h.1)

-- one more tree is made
pub one_made : (place : ℕ → ℕ) (source target new : List Tree) (made made' : List LpId) (i : ℕ) (id : LpId) (t : Tree) → Keeps target new → length made ≡ i
    → made' ≡ made ++ id ∷ [] → Holds new id.0 t → t ≡ moved place (tree_at source i)
    → AreMade place source target made → AreMade place source new made'
one_made place source target new made made' i id t k l e h m a j x g = go (last-or made id x j (subst (λ xs. slice_get xs j ≡ Some x) e g))
  where
    go : (slice_get made j ≡ Some x) ⊎ ((j ≡ length made) × (id ≡ x)) → (x.0 < length new) × (tree_at new x.0 ≡ moved place (tree_at source j))
    go (inl p) = let q = a j x p in ((let w = k.longer in omega (arith, w, q.0)), sym (tree_at-Stays k.stays x.0 q.0) ∙ q.1)
    go (inr p) =
        let s : j ≡ i = p.0 ∙ l in
        subst (λ (y : LpId). (y.0 < length new) × (tree_at new y.0 ≡ moved place (tree_at source j))) p.1
        (Holds-within new id.0 t h, Holds-tree_at new id.0 t h ∙ m ∙ ap (λ n. moved place (tree_at source n)) (sym s))
