-- The same of the rules over binders, of applications, and of those that state a sequent.
use Rattle.std.proofs.Common.{◌≡◌, ℕ, ◌<◌, refl, ap, ◌∙◌, List, [], ◌∷◌, length, Bool, true, false, not, Some, Ok}
use Rattle.std.specs.List.{AllByRecursion, list_all}
use Rattle.common.specs.declared.faults.Kind.TheVariants.{VarInHyps, NotBool, NotTheSequent, BadSubst}
use Rattle.hol_spec.specs.Types.{HolType}
use Rattle.hol_laws.specs.ListLaws.{union-All, distinct-IsDistinct}
use Rattle.hol_spec.specs.Primitives.{bool, function}
use Rattle.hol_spec.specs.Terms.{Term, Variable, app, lam, term_eq, HasType, equation, application_type}
use Rattle.hol_laws.specs.TermLaws.{term_eq-Decides}
use Rattle.hol_laws.specs.TermSubstitutionLaws.{application_type-is}
use Rattle.hol_spec.specs.TermBinding.{put}
use Rattle.hol_spec.specs.Substitution.{TypePairs}
use Rattle.hol_spec.specs.TermSubstitution.{TermPairs, AreFitting}
use Rattle.hol_spec.specs.Equations.{Equation}
use Rattle.hol_spec.specs.Sequents.{IsSequent, within}
use Rattle.hol_spec.specs.Rules.{Parameters, Rule, nothing, derived, joined, removed, abstraction, is_free_in}
use Rattle.hol_spec.specs.Rules as rule
use Rattle.hol_spec.specs.Proofs.{Made, steps_of, sequent_at, IsProof}
use Rattle.hol_spec.specs.declared.StepKind.TheVariants as by_rule
use Rattle.hol_proof_laws.specs.SymbolGrowth.{symmetric}
use Rattle.article_spec.specs.Conditions.{equation_of, is_of_type}
use Rattle.article_spec.specs.RuleSteps.{step_by, stated, restatement, abs_thm_step, app_thm_step, deduct_antisym_step, beta_conv_step, prove_hyp_step, subst_step, substituted, axiom_step, restate_step}
use Rattle.hol_rules.proofs.RuleSteps.{Makes, met, equation_is, on_none, on_one, on_two}
use Rattle.std.proofs.lemmas.Option.{same_Some}

not-false : (b : Bool) → b ≡ false → not b ≡ true
not-false b e = ap not e

module _ (m : List Made) (p : IsProof m) (i : ℕ) (l : i < length (steps_of m)) (e : Equation) (parts : equation_of (sequent_at m i) ≡ Ok e) where
  pub abs_thm-makes : (v : Variable) → is_free_in v (sequent_at m i).hypotheses ≡ false
      → Makes m (abs_thm_step m v i)
      (step_by by_rule.AbsThm (i ∷ []) (Parameters.variable v)
      (derived (sequent_at m i).hypotheses (equation (function v.1 e.ty) (abstraction v e.left) (abstraction v e.right))))
  abs_thm-makes v fresh = record {
    is = rw parts (met (not (is_free_in v (sequent_at m i).hypotheses)) VarInHyps _ (not-false (is_free_in v (sequent_at m i).hypotheses) fresh));
    follows = on_one m _ i l refl (rule.Rule.abs_thm (equation_is (sequent_at m i) e parts) fresh refl) refl (tt {0});
  }

  pub app_thm-makes : (j : ℕ) → j < length (steps_of m) → (x : Equation) → equation_of (sequent_at m j) ≡ Ok x → (b : HolType)
      → application_type (Some e.ty) (Some x.ty) ≡ Some b
      → Makes m (app_thm_step m i j)
      (step_by by_rule.AppThm (i ∷ j ∷ []) nothing
      (derived (joined (sequent_at m i).hypotheses (sequent_at m j).hypotheses) (equation b (app e.left x.left) (app e.right x.right))))
  app_thm-makes j k x more b fits =
      let ab = application_type-is (Some e.ty) (Some x.ty) b fits in
      let functions : e.ty ≡ function ab.0 b = same_Some _ _ ab.1.0 in
      let arguments : x.ty ≡ ab.0 = same_Some _ _ ab.1.1 in
      record {
        is = rw (parts, more, fits) refl;
        follows = on_two m _ i j l k refl
            (rule.Rule.app_thm (equation_is (sequent_at m i) e parts ∙ ap (λ a. equation a e.left e.right) functions)
            (equation_is (sequent_at m j) x more ∙ ap (λ a. equation a x.left x.right) arguments) refl) refl (tt {0});
      }

module _ (m : List Made) (i j : ℕ) (l : i < length (steps_of m)) (k : j < length (steps_of m)) where
  pub deduct_antisym-makes : Makes m (deduct_antisym_step m i j)
      (step_by by_rule.DeductAntisym (i ∷ j ∷ []) nothing
      (derived (joined (removed (sequent_at m i).hypotheses (sequent_at m j).conclusion) (removed (sequent_at m j).hypotheses (sequent_at m i).conclusion))
      (equation bool (sequent_at m i).conclusion (sequent_at m j).conclusion)))
  deduct_antisym-makes = record { is = refl; follows = on_two m _ i j l k refl (rule.Rule.deduct_antisym refl) refl (tt {0}) }

  pub prove_hyp-makes : Makes m (prove_hyp_step m i j)
      (step_by by_rule.ProveHyp (i ∷ j ∷ []) nothing
      (derived (joined (sequent_at m i).hypotheses (removed (sequent_at m j).hypotheses (sequent_at m i).conclusion)) (sequent_at m j).conclusion))
  prove_hyp-makes = record { is = refl; follows = on_two m _ i j l k refl (rule.Rule.prove_hyp refl) refl (tt {0}) }

pub beta_conv-makes : (m : List Made) (a b : HolType) (t u : Term) → HasType (app (lam a t) u) b
    → Makes m (beta_conv_step (app (lam a t) u))
    (step_by by_rule.BetaConv [] (Parameters.term (app (lam a t) u)) (derived [] (equation b (app (lam a t) u) (put u t))))
beta_conv-makes m a b t u h = record { is = rw h refl; follows = on_none m _ refl (rule.Rule.beta_conv h refl) refl (tt {0}) }

pub subst-makes : (m : List Made) (types : TypePairs) (terms : TermPairs) (i : ℕ) → i < length (steps_of m) → AreFitting terms
    → list_all (λ p. is_of_type p.0.1 p.1) terms ≡ true
    → Makes m (subst_step m types terms i) (step_by by_rule.Subst (i ∷ []) (Parameters.substitution types terms) (substituted types terms (sequent_at m i)))
subst-makes m types terms i l fit e = record
    { is = met (list_all (λ p. is_of_type p.0.1 p.1) terms) BadSubst _ e; follows = on_one m _ i l refl (rule.Rule.subst fit refl) refl (tt {0}) }

-- what is stated of truth values is a sequent
module _ (hs : List Term) (c : Term) (truths : AllByRecursion (λ h. HasType h bool) hs) (truth : HasType c bool) where
  pub stated-IsSequent : IsSequent (stated hs c)
  stated-IsSequent = record {
    no_repeats = distinct-IsDistinct term_eq (symmetric term_eq term_eq-Decides) hs;
    hypotheses = union-All (λ h. HasType h bool) term_eq hs [] (tt {0}) truths;
    conclusion = truth;
  }

  pub axiom-makes : (m : List Made) → list_all (is_of_type bool) (c ∷ hs) ≡ true
      → Makes m (axiom_step hs c) (step_by by_rule.Axiom [] (Parameters.sequent (stated hs c)) (stated hs c))
  axiom-makes m all = record
      { is = met (list_all (is_of_type bool) (c ∷ hs)) NotBool _ all; follows = on_none m _ refl (rule.Rule.recorded stated-IsSequent) refl (tt {0}) }

  pub restate-makes : (m : List Made) (i : ℕ) → i < length (steps_of m) → list_all (is_of_type bool) (c ∷ hs) ≡ true → within (sequent_at m i) (stated hs c)
      ≡ true → Makes m (restate_step m i hs c) (restatement i (stated hs c))
  restate-makes m i l all w = record {
    is = met (list_all (is_of_type bool) (c ∷ hs)) NotBool _ all ∙ met (within (sequent_at m i) (stated hs c)) NotTheSequent _ w;
    follows = on_one m _ i l refl (rule.Rule.restate stated-IsSequent w) refl (tt {0});
  }
