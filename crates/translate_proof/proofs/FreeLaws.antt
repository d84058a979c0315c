-- The second law of a type operator in version 5, by the numbers of its parts.
use Rattle.std.proofs.Common.{◌≡◌, ℕ, sym, ap, subst, ◌∙◌, [], ◌∷◌}
use Rattle.hol_spec.specs.Definitions.{TypeNames}
use Rattle.hol_spec.specs.Proofs.{sequent_at}
use Rattle.hol_spec.specs.Terms.{app}
use Rattle.hol_spec.specs.TypeDefinitions.{old_variable}
use Rattle.hol_spec.specs.declared.Version.TheVariants.{Five}
use Rattle.hol_term.specs.declared.TermId.{TermId}
use Rattle.hol_term.specs.Tables.{term_at, type_at}
use Rattle.hol_rules.specs.Kept.{Kept}
use Rattle.lp_spec.specs.Modules.{applied, sub_rep_abs_symbol}
use Rattle.lp_spec.specs.Trees.{Sym, App}
use Rattle.translate_spec.specs.ProofTrees.{predicate, witness, part_tree, second_law_free_tree, sym_symbol}
use Rattle.translate_spec.specs.Rows.{equated_type, left_side, right_side}
use Rattle.translate_spec.specs.Scopes.{SymbolMap, Scope, filled, term_tree, type_tree}
use Rattle.translate_proof.specs.declared.rows.Equated.{Equated}
use Rattle.translate_proof.specs.Environments.{Given, IsTold}
use Rattle.translate_proof.specs.Equations.{IsEquated}
use Rattle.translate_proof.specs.Parts.{whole_type, IsSecondLaw}
use Rattle.translate_proof.specs.Told.{TellsStep}
use Rattle.translate_proof.proofs.LawEquations.{second-equation}
use Rattle.translate_proof.proofs.PartLaws.{argument-told}
use Rattle.translate_proof.proofs.SequentLaws.{equated-type, equated-left, equated-right, left-told}

module _ (k : Kept) (id one : ℕ) (names : TypeNames) (h : IsSecondLaw Five k id one names) (e : Equated) (is : IsEquated k id e) where
  -- its left side is the predicate at the variable
  pub free-left : term_at k.trees e.left.0 ≡ app (predicate (sequent_at k.made one).conclusion) (old_variable (whole_type k one))
  free-left = equated-left k id e is ∙ ap left_side (second-equation k id one names h)

  module _ (x : TermId) (argument : term_at k.trees x.0 ≡ witness (term_at k.trees e.left.0)) where
    free-variable : term_at k.trees x.0 ≡ old_variable (whole_type k one)
    free-variable = argument ∙ ap witness free-left

    pub variable-told : (given : Given) → TellsStep given k id → IsTold given (term_at k.trees x.0)
    variable-told given told = subst (IsTold given) (sym free-variable) (argument-told given _ _ _ free-left (left-told k id e is given told))

    -- its proof, by what its arguments are
    pub second_free-made : (symbols : SymbolMap) (scope : Scope) (j : ℕ)
        → applied (Sym sym_symbol)
        (type_tree symbols scope.types (type_at k.trees e.ty.0) ∷ term_tree symbols scope (term_at k.trees e.right.0) ∷ term_tree symbols scope
        (term_at k.trees e.left.0)
        ∷ App (part_tree symbols (filled symbols scope.types) sub_rep_abs_symbol (whole_type k one) (j, sequent_at k.made one))
        (term_tree symbols scope (term_at k.trees x.0)) ∷ [])
        ≡ second_law_free_tree symbols scope names (whole_type k one) (j, sequent_at k.made one)
    second_free-made symbols scope j =
        let equation = second-equation k id one names h in
        let a = equated-type k id e is ∙ ap equated_type equation in
        let r = equated-right k id e is ∙ ap right_side equation in
        λ i. applied (Sym sym_symbol) (type_tree symbols scope.types (a i) ∷ term_tree symbols scope (r i) ∷ term_tree symbols scope (free-left i)
        ∷ App (part_tree symbols (filled symbols scope.types) sub_rep_abs_symbol (whole_type k one) (j, sequent_at k.made one))
        (term_tree symbols scope (free-variable i)) ∷ [])
