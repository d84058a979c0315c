-- A table whose last terms and types are given up.
use Rattle.std.proofs.Common.{◌≡◌, ℕ, ◌≤◌, refl, sym, ap, ◌∙◌, List, [], ◌∷◌, ◌++◌, length, Some, append_assoc}
use Rattle.std.specs.Prelude.{slice_get, take, drop}
use Rattle.std.proofs.lemmas.List.{take-append-drop, append-nil, length-take-le}
use Rattle.std.proofs.Math.Seq.{take-append_seam}
use Rattle.hol_spec.specs.Types.{HolType}
use Rattle.hol_spec.specs.Terms.{Term}
use Rattle.hol_term.specs.declared.node.Entry.{Entry}
use Rattle.hol_term.specs.Nodes.{tree_of_node, terms_from, terms_of, IsTable}
use Rattle.hol_term.proofs.EntryLaws.{over, length-terms_of, Stays-terms_from}
use Rattle.hol_laws.specs.PlaceLaws.{slice_get-append}

terms_from-two : (types : List HolType) (ts : List Term) (a b : List Entry) → terms_from types ts (a ++ b) ≡ terms_from types (terms_from types ts a) b
terms_from-two types ts [] b = refl
terms_from-two types ts (n ∷ a) b = terms_from-two types (ts ++ tree_of_node (over types ts) n.node ∷ []) a b

goes_on : (types : List HolType) (ts : List Term) (es : List Entry) → (l : List Term) × (ts ++ l ≡ terms_from types ts es)
goes_on types ts [] = ([], append-nil ts)
goes_on types ts (n ∷ es) = let h = goes_on types (ts ++ tree_of_node (over types ts) n.node ∷ []) es in
    (tree_of_node (over types ts) n.node ∷ h.0, sym (append_assoc ts (tree_of_node (over types ts) n.node ∷ []) h.0) ∙ h.1)

split : (types : List HolType) (n : ℕ) (es : List Entry) → terms_of types es ≡ terms_from types (terms_of types (take n es)) (drop n es)
split types n es = ap (terms_of types) (sym (take-append-drop n es)) ∙ terms_from-two types [] (take n es) (drop n es)

pub terms_of-take : (types : List HolType) (n : ℕ) (es : List Entry) → n ≤ length es → terms_of types (take n es) ≡ take n (terms_of types es)
terms_of-take types n es h =
    let us = terms_of types (take n es) in
    let g = goes_on types us (drop n es) in
    let len : length us ≡ n = length-terms_of types (take n es) ∙ length-take-le n es h in
    sym (take-append_seam us g.0) ∙ ap (λ l. take (length us) l) (g.1 ∙ sym (split types n es)) ∙ ap (λ k. take k (terms_of types es)) len

pub IsTable-take : (types : List HolType) (n : ℕ) (es : List Entry) → IsTable types es → IsTable types (take n es)
IsTable-take types n es t = record {
  one_each = t.one_each;
  lower = λ i m e. t.lower i m (whole i m e);
  distinct = record { each = λ i j u a b. t.distinct.each i j u (more i u a) (more j u b) };
  measured = λ i m u e a. t.measured i m u (whole i m e) (more i u a);
}
  where
    whole : (i : ℕ) (m : Entry) → slice_get (take n es) i ≡ Some m → slice_get es i ≡ Some m
    whole i m e = ap (λ l. slice_get l i) (sym (take-append-drop n es)) ∙ slice_get-append (take n es) (drop n es) i m e

    more : (i : ℕ) (u : Term) → slice_get (terms_of types (take n es)) i ≡ Some u → slice_get (terms_of types es) i ≡ Some u
    more i u e = ap (λ l. slice_get l i) (split types n es) ∙ (Stays-terms_from types (terms_of types (take n es)) (drop n es)).each i u e
