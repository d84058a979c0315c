-- A substitution, at its end.
use Rattle.std.proofs.Common.{◌≡◌, ℕ, ◌<◌, refl, sym, ap, subst, ◌∙◌, List, [], ◌∷◌, length, Bool, true, false, ◌↔◌, IsTrue, Err}
use Rattle.common.specs.declared.faults.Kind.TheVariants.{BadSubst}
use Rattle.article_spec.specs.Conditions.{demand}
use Rattle.hol_spec.specs.Names.{Name}
use Rattle.hol_spec.specs.Substitution.{TypePairs}
use Rattle.hol_spec.specs.TermSubstitution.{TermPairs}
use Rattle.hol_spec.specs.Rules as rule
use Rattle.hol_spec.specs.Proofs.{steps_of, sequent_at}
use Rattle.hol_spec.specs.declared.StepKind.TheVariants as by_rule
use Rattle.hol_type.specs.declared.table.TypeId.{TypeId}
use Rattle.hol_type.specs.Tables.{pairs_at}
use Rattle.hol_term.specs.declared.TermId.{TermId}
use Rattle.hol_term.specs.declared.Variable.{Variable}
use Rattle.hol_term.specs.Substitutions.{term_pairs_at, AreKnownPairs, ArePairsFitting}
use Rattle.sequent.specs.declared.Sequent.{Sequent}
use Rattle.hol_rules.specs.declared.made.Parameters.TheVariants as parameters
use Rattle.hol_rules.specs.declared.made.Substitution.{Substitution}
use Rattle.hol_rules.specs.Kept.{Kept, Grows}
use Rattle.hol_rules.specs.Views.{parameters_view, new_step}
use Rattle.hol_rules.specs.Premises.{IsStated}
use Rattle.article_spec.specs.RuleSteps.{pairs_fit, subst_step, substituted}
use Rattle.hol_rules.proofs.MoreSteps.{subst-makes}
use Rattle.hol_rules.proofs.PairLaws.{AreKnownPairs-Keeps, type_pairs-Keeps, term_pairs-Keeps, ArePairsFitting-at, are_fitting-same}
use Rattle.hol_rules.proofs.Ends.{Ends, ends_by}
use Rattle.std.proofs.Math.Path.{ap₂}

module _ (k : Kept) (types : List (Name × TypeId)) (terms : List (Variable × TermId)) (i : ℕ) where
  abbrev T : TypePairs
  T = pairs_at k.trees.types types

  abbrev U : TermPairs
  U = term_pairs_at k.trees terms

  -- pairs that don't fit are refused
  pub pairs-unfit : (r : Bool) → (IsTrue r ↔ ArePairsFitting k.trees terms) → r ≡ false → pairs_fit U ≡ Err BadSubst
  pairs-unfit r d e = ap (λ b. demand b BadSubst) (are_fitting-same k.trees terms r d ∙ e)

  module _ (h : AreKnownPairs k.trees types terms) (mid : Kept) (g : Grows k mid) (given : Substitution) (e : given.types.items ≡ types)
      (f : given.terms.items ≡ terms) where
    pub given_known : AreKnownPairs mid.trees given.types.items given.terms.items
    given_known = subst (λ qs. AreKnownPairs mid.trees given.types.items qs) (sym f)
        (subst (λ ps. AreKnownPairs mid.trees ps terms) (sym e) (AreKnownPairs-Keeps g.trees types terms h))

    given_is : parameters_view mid.trees (parameters.Subst given) ≡ rule.Parameters.substitution T U
    given_is =
        ap₂ rule.Parameters.substitution (ap (pairs_at mid.trees.types) e ∙ sym (type_pairs-Keeps g.trees types terms h))
        (ap (term_pairs_at mid.trees) f ∙ sym (term_pairs-Keeps g.trees types terms h))

    pub subst-ends : ArePairsFitting k.trees terms → i < length (steps_of k.made) → (s : Sequent) → IsStated mid.trees s (substituted T U (sequent_at k.made i))
        → Ends k (subst_step k.made T U i) mid (new_step mid.trees by_rule.Subst (i ∷ []) (parameters.Subst given) s)
    subst-ends fits l s n =
        ends_by g (subst-makes k.made T U i l (ArePairsFitting-at k.trees terms fits) (are_fitting-same k.trees terms true (λ _. fits, λ _. refl))) _
        (λ x. record { kind = by_rule.Subst; premises = i ∷ []; parameters = given_is x; sequent = n.is x })
