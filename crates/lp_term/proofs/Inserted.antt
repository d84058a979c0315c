-- A table into which a shape is put.
use Rattle.std.proofs.Common.{◌≡◌, ℕ, ◌<◌, sym, ap, ◌∙◌, subst, arith, List, [], ◌∷◌, ◌++◌, length, get_or, Some, ⊎_elim}
use Rattle.std.specs.Prelude.{slice_get}
use Rattle.std.proofs.lemmas.Option.{slice_get-get_or, same_Some}
use Rattle.std.proofs.Math.Path.{ap₂, subst₂}
use Rattle.lp_spec.specs.Trees.{Tree}
use Rattle.lp_term.specs.declared.measures.Measures.{Measures}
use Rattle.lp_term.specs.declared.shape.Shape.{Shape}
use Rattle.lp_term.specs.Shapes.{node_of}
use Rattle.lp_term.specs.Tables.{Holds, tree_of_node, PartsBelow, IsDistinct}
use Rattle.lp_term.specs.TableLaws.{Holds-within, PartsBelow-more}
use Rattle.lp_term.specs.Measured.{AreMeasured}
use Rattle.lp_term.specs.Columns.{trees_of, IsTable}
use Rattle.lp_term.proofs.ColumnLaws.{trees_from-append, length-trees_of, trees_of-Holds, node_of-same, tree_of_node-same}
use Rattle.lp_binding_laws.specs.LookUps.{slice_get-last, slice_get-one_more}

-- a tree that the table lacks may stand last
IsDistinct-more : (ts : List Tree) (u : Tree) → IsDistinct ts → ((i : ℕ) → Holds ts i u → ⊥) → IsDistinct (ts ++ u ∷ [])
IsDistinct-more ts u d absent = record {
  each = λ i j t hi hj. ⊎_elim
      (λ a. ⊎_elim (λ b. d.each i j t a b) (λ b. absurd (absent i (a ∙ ap Some (sym b.1)))) (slice_get-one_more ts u t j hj))
      (λ a. ⊎_elim (λ b. absurd (absent j (b ∙ ap Some (sym a.1)))) (λ b. a.0 ∙ sym b.0) (slice_get-one_more ts u t j hj))
      (slice_get-one_more ts u t i hi);
}

-- a shape of a table is under the number of its tree
pub Holds-found : (ss : List Shape) (ms : List Measures) (s : Shape) (i : ℕ) → IsTable ss ms → slice_get ss i ≡ Some s
    → Holds (trees_of ss) i (tree_of_node (trees_of ss) (node_of s))
Holds-found ss ms s i t at = trees_of-Holds ss i s (t.lower i s at) at

-- a shape that the table lacks, over parts that it has
module _ (ss : List Shape) (ms : List Measures) (s : Shape) (t : IsTable ss ms) (p : PartsBelow (length (trees_of ss)) (node_of s))
    (none : (j : ℕ) → slice_get ss j ≡ Some s → ⊥) where
  lower : (i : ℕ) (o : Shape) → slice_get (ss ++ s ∷ []) i ≡ Some o → PartsBelow i (node_of o)
  lower i o at = ⊎_elim (λ h. t.lower i o h) (λ h. subst₂ (λ n w. PartsBelow n (node_of w)) (length-trees_of ss ∙ sym h.0) h.1 p)
      (slice_get-one_more ss s o i at)

  clash : (i : ℕ) → Holds (trees_of ss) i (tree_of_node (trees_of ss) (node_of s)) → ⊥
  clash i held =
      let lt : i < length ss = omega (arith, length-trees_of ss, Holds-within (trees_of ss) i (tree_of_node (trees_of ss) (node_of s)) held) in
      let at = slice_get-get_or ss i s lt in
      let o = get_or ss i s in
      let below = t.lower i o at in
      let same = node_of-same o s
      (tree_of_node-same t.distinct (node_of o) (node_of s) (PartsBelow-more (omega (arith, length-trees_of ss)) (node_of o) below) p
      (same_Some _ _ (sym (trees_of-Holds ss i o below at) ∙ held))) in
      none i (at ∙ ap Some same)

  -- with the measures of its tree it leaves a table
  pub IsTable-more : (more : List Measures) → AreMeasured more (trees_of ss ++ tree_of_node (trees_of ss) (node_of s) ∷ []) → IsTable (ss ++ s ∷ []) more
  IsTable-more more a =
      let g = sym (trees_from-append [] ss s) in
      record {
        lower = lower;
        distinct = subst IsDistinct g (IsDistinct-more (trees_of ss) (tree_of_node (trees_of ss) (node_of s)) t.distinct clash);
        measured = subst (AreMeasured more) g a;
      }

-- the last tree of a table that grew
pub Holds-last : (ss : List Shape) (s : Shape) → Holds (trees_of (ss ++ s ∷ [])) (length ss) (tree_of_node (trees_of ss) (node_of s))
Holds-last ss s = ap₂ slice_get (trees_from-append [] ss s) (sym (length-trees_of ss)) ∙ slice_get-last (trees_of ss) (tree_of_node (trees_of ss) (node_of s))
