-- A table whose last trees are given up.
use Rattle.std.proofs.Common.{◌≡◌, ℕ, ◌≤◌, refl, sym, ap, subst, ◌∙◌, List, [], ◌∷◌, ◌++◌, length, append_assoc}
use Rattle.std.specs.Prelude.{slice_get, take, drop, min}
use Rattle.std.proofs.lemmas.List.{append-nil, length-take, length-take-le, take-append-drop}
use Rattle.std.proofs.Math.Seq.{take-append_seam}
use Rattle.lp_spec.specs.Trees.{Tree}
use Rattle.lp_term.specs.declared.measures.Measures.{Measures}
use Rattle.lp_term.specs.declared.shape.Shape.{Shape}
use Rattle.lp_term.specs.Shapes.{node_of}
use Rattle.lp_term.specs.Tables.{Holds, tree_of_node}
use Rattle.lp_binding_laws.specs.LookUps.{slice_get-of_take}
use Rattle.lp_term.specs.Measured.{AreMeasured}
use Rattle.lp_term.specs.Columns.{trees_from, trees_of, IsTable}
use Rattle.lp_term.proofs.ColumnLaws.{length-trees_of}

trees_from-two : (ts : List Tree) (a b : List Shape) → trees_from ts (a ++ b) ≡ trees_from (trees_from ts a) b
trees_from-two ts [] b = refl
trees_from-two ts (n ∷ a) b = trees_from-two (ts ++ tree_of_node ts (node_of n) ∷ []) a b

goes_on : (ts : List Tree) (ss : List Shape) → (l : List Tree) × (ts ++ l ≡ trees_from ts ss)
goes_on ts [] = ([], append-nil ts)
goes_on ts (n ∷ ss) = let h = goes_on (ts ++ tree_of_node ts (node_of n) ∷ []) ss in
    (tree_of_node ts (node_of n) ∷ h.0, sym (append_assoc ts (tree_of_node ts (node_of n) ∷ []) h.0) ∙ h.1)

split : (n : ℕ) (ss : List Shape) → trees_of ss ≡ trees_from (trees_of (take n ss)) (drop n ss)
split n ss = ap trees_of (sym (take-append-drop n ss)) ∙ trees_from-two [] (take n ss) (drop n ss)

-- the trees of a front are the front of the trees
pub trees_of-take : (n : ℕ) (ss : List Shape) → n ≤ length ss → trees_of (take n ss) ≡ take n (trees_of ss)
trees_of-take n ss h =
    let us = trees_of (take n ss) in
    let g = goes_on us (drop n ss) in
    let len : length us ≡ n = length-trees_of (take n ss) ∙ length-take-le n ss h in
    sym (take-append_seam us g.0) ∙ ap (λ l. take (length us) l) (g.1 ∙ sym (split n ss)) ∙ ap (λ k. take k (trees_of ss)) len

-- the front of a column measures the front of the trees
AreMeasured-take : (n : ℕ) (ms : List Measures) (ts : List Tree) → AreMeasured ms ts → AreMeasured (take n ms) (take n ts)
AreMeasured-take n ms ts a = record {
  counted = length-take n ms ∙ ap (min n) a.counted ∙ sym (length-take n ts);
  each = λ i m t e h. a.each i m t (slice_get-of_take n ms i m e) (slice_get-of_take n ts i t h);
}

-- the fronts of a table's columns are a table's
pub IsTable-take : (n : ℕ) (ss : List Shape) (ms : List Measures) → n ≤ length ss → IsTable ss ms → IsTable (take n ss) (take n ms)
IsTable-take n ss ms h t = record {
  lower = λ i m e. t.lower i m (slice_get-of_take n ss i m e);
  distinct = record { each = λ i j u a b. t.distinct.each i j u (more i u a) (more j u b) };
  measured = subst (AreMeasured (take n ms)) (sym (trees_of-take n ss h)) (AreMeasured-take n ms (trees_of ss) t.measured);
}
  where
    more : (i : ℕ) (u : Tree) → Holds (trees_of (take n ss)) i u → Holds (trees_of ss) i u
    more i u e = slice_get-of_take n (trees_of ss) i u (ap (λ l. slice_get l i) (sym (trees_of-take n ss h)) ∙ e)
