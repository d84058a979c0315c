-- The row of subst: the premise stands in the scope of the images.
use Rattle.std.proofs.Common.{ℕ, false, List, sym, subst}
use Rattle.std.specs.List.{AllByRecursion, flat_map}
use Rattle.hol_spec.specs.NameEquality.{name_eq}
use Rattle.hol_laws.specs.NameEqualityLaws.{name_eq-Decides}
use Rattle.hol_spec.specs.Substitution.{TypePairs, image, substitute}
use Rattle.hol_spec.specs.Terms.{Term, variable_eq, type_variable_places, free_places}
use Rattle.hol_laws.specs.TermLaws.{variable_eq-Decides}
use Rattle.hol_spec.specs.TermSubstitution.{TermPairs, term_image, sub, AreFitting}
use Rattle.hol_spec.specs.Sequents.{Sequent, terms_of, type_variables_of, free_variables_of}
use Rattle.lp_spec.specs.Trees.{Tree}
use Rattle.lp_spec.specs.Modules.{Declaration, proof_of}
use Rattle.lp_typing_laws.specs.ConversionLaws.{IsClosed}
use Rattle.lp_spec.specs.Shaped.{IsTerm, IsProof}
use Rattle.hol_spec.specs.Lists.{IsIn}
use Rattle.hol_laws.specs.Members.{IsIn-distinct_of, All-each, All-at}
use Rattle.translate_spec.specs.Scopes.{SymbolMap, Scope, term_tree, images}
use Rattle.translate_laws.specs.ScopeLaws.{type_tree-substitute}
use Rattle.translate_laws.specs.TermScopeLaws.{term_tree-substitution}
use Rattle.translate_laws.specs.ScopeTyping.{TermOver, AreInstances-over}
use Rattle.translate_laws.specs.SubstitutionBody.{image_of-type, AreFitting-closed, all_types-over, all_terms-over}
use Rattle.translate_spec.specs.ProofTrees.{subst_tree}
use Rattle.translate_laws.specs.SequentScope.{SequentOver, SequentOver-instances, IsPremise}
use Rattle.translate_laws.specs.ShapeLaws as laws
use Rattle.translate_laws.specs.ShapeLaws.{entry-proof, Argument}
use Rattle.translate_laws.specs.ShapedTheorems.{ShapedFits, theorem_tree-shaped}
use Rattle.translate_laws.specs.ShapedRows.{HasHypotheses, term-here, type-here}

module _ (m : List Declaration) (closed : IsClosed m) (symbols : SymbolMap) (G : List Tree) (scope : Scope) (hypotheses : List Term)
    (stands : HasHypotheses m symbols G scope hypotheses) where
  -- the images fit the premise
  images-fit : (pairs : TypePairs) (terms : TermPairs) → AreFitting terms → (one : Sequent) → SequentOver m symbols one
      → AllByRecursion (λ t. TermOver m symbols (sub pairs terms t)) (terms_of one)
      → ((h : Term) → IsIn one.hypotheses h → IsIn hypotheses (sub pairs terms h)) → ShapedFits m symbols G (images symbols pairs terms scope) one
  images-fit pairs terms fitting one own over i = record {
    types = All-each _ (type_variables_of one) (λ n k. type-here m closed symbols G scope hypotheses stands (image pairs n)
        (All-at _ (flat_map type_variable_places (terms_of one)) n (all_types-over m symbols pairs terms fitting (terms_of one) over)
        (IsIn-distinct_of name_eq name_eq-Decides (flat_map type_variable_places (terms_of one)) n k)));
    terms = All-each _ (free_variables_of one) (λ v k.
        subst (λ w. IsTerm m G (term_tree symbols scope (term_image terms (v.0, substitute pairs v.1))) w) (type_tree-substitute symbols pairs scope.types v.1)
        (term-here m closed symbols G scope hypotheses stands (term_image terms (v.0, substitute pairs v.1)) (substitute pairs v.1)
        (All-at _ (flat_map free_places (terms_of one)) v (all_terms-over m symbols pairs terms fitting (terms_of one) over)
        (IsIn-distinct_of variable_eq variable_eq-Decides (flat_map free_places (terms_of one)) v k))
        (image_of-type m symbols pairs terms fitting (v.0, substitute pairs v.1))));
    proofs = All-each _ one.hypotheses (λ h k.
        subst (λ w. Argument m G (scope.proofs (sub pairs terms h)) (proof_of w))
        (term_tree-substitution symbols pairs terms (AreFitting-closed m symbols pairs terms fitting) scope h
        (AreInstances-over m symbols h (All-at _ one.hypotheses h own.hypotheses k)))
        (laws.Argument.a_proof (entry-proof m (stands.proofs (sub pairs terms h) (i h k)))));
  }

  pub subst-row : (pairs : TypePairs) (terms : TermPairs) → AreFitting terms → (j : ℕ) (one : Sequent) → IsPremise m symbols j one
      → AllByRecursion (λ t. TermOver m symbols (sub pairs terms t)) (terms_of one)
      → ((h : Term) → IsIn one.hypotheses h → IsIn hypotheses (sub pairs terms h))
      → IsProof m false G (subst_tree symbols scope pairs terms (j, one)) (proof_of (term_tree symbols scope (sub pairs terms one.conclusion)))
  subst-row pairs terms fitting j one p over i =
      subst (λ w. IsProof m false G (subst_tree symbols scope pairs terms (j, one)) (proof_of w))
      (sym (term_tree-substitution symbols pairs terms (AreFitting-closed m symbols pairs terms fitting) scope one.conclusion
      (AreInstances-over m symbols one.conclusion p.over.conclusion)))
      (theorem_tree-shaped m symbols G (images symbols pairs terms scope) one j p.declared p.is (SequentOver-instances m symbols one p.over)
      (images-fit pairs terms fitting one p.over over i))
