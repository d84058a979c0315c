-- A table whose last trees are given up.
use Rattle.std.proofs.Common.{◌≡◌, ℕ, ◌≤◌, refl, sym, ap, ◌∙◌, List, [], ◌∷◌, ◌++◌, length, Some, append_assoc}
use Rattle.std.specs.Prelude.{slice_get, take, drop}
use Rattle.std.proofs.lemmas.List.{take-append-drop, append-nil, length-take-le}
use Rattle.std.proofs.Math.Seq.{take-append_seam}
use Rattle.hol_spec.specs.Types.{HolType}
use Rattle.hol_type.specs.declared.node.Entry.{Entry}
use Rattle.hol_type.specs.Tables.{Holds}
use Rattle.hol_type.specs.Entries.{tree_of_node, trees_from, trees_of, IsTable}
use Rattle.hol_type.proofs.EntryLaws.{length-trees_of, Stays-trees_from}
use Rattle.hol_laws.specs.PlaceLaws.{slice_get-append}

trees_from-two : (ts : List HolType) (a b : List Entry) → trees_from ts (a ++ b) ≡ trees_from (trees_from ts a) b
trees_from-two ts [] b = refl
trees_from-two ts (n ∷ a) b = trees_from-two (ts ++ tree_of_node ts n.node ∷ []) a b

goes_on : (ts : List HolType) (es : List Entry) → (l : List HolType) × (ts ++ l ≡ trees_from ts es)
goes_on ts [] = ([], append-nil ts)
goes_on ts (n ∷ es) = let h = goes_on (ts ++ tree_of_node ts n.node ∷ []) es in
    (tree_of_node ts n.node ∷ h.0, sym (append_assoc ts (tree_of_node ts n.node ∷ []) h.0) ∙ h.1)

split : (n : ℕ) (es : List Entry) → trees_of es ≡ trees_from (trees_of (take n es)) (drop n es)
split n es = ap trees_of (sym (take-append-drop n es)) ∙ trees_from-two [] (take n es) (drop n es)

pub trees_of-take : (n : ℕ) (es : List Entry) → n ≤ length es → trees_of (take n es) ≡ take n (trees_of es)
trees_of-take n es h =
    let us = trees_of (take n es) in
    let g = goes_on us (drop n es) in
    let len : length us ≡ n = length-trees_of (take n es) ∙ length-take-le n es h in
    sym (take-append_seam us g.0) ∙ ap (λ l. take (length us) l) (g.1 ∙ sym (split n es)) ∙ ap (λ k. take k (trees_of es)) len

pub IsTable-take : (n : ℕ) (es : List Entry) → IsTable es → IsTable (take n es)
IsTable-take n es t = record {
  lower = λ i m e. t.lower i m (whole i m e);
  distinct = record { each = λ i j u a b. t.distinct.each i j u (more i u a) (more j u b) };
  measured = λ i m u e a. t.measured i m u (whole i m e) (more i u a);
}
  where
    whole : (i : ℕ) (m : Entry) → slice_get (take n es) i ≡ Some m → slice_get es i ≡ Some m
    whole i m e = ap (λ l. slice_get l i) (sym (take-append-drop n es)) ∙ slice_get-append (take n es) (drop n es) i m e

    more : (i : ℕ) (u : HolType) → Holds (trees_of (take n es)) i u → Holds (trees_of es) i u
    more i u e = ap (λ l. slice_get l i) (split n es) ∙ (Stays-trees_from (trees_of (take n es)) (drop n es)).each i u e
