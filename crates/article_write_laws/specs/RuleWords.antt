-- Where a rule gives a sequent from theorems, its step is that sequent's.
use Rattle.std.proofs.Common.{◌≡◌, ℕ, true, false, cond, List, [], ◌∷◌, None, Some, Ok, refl, ap, ◌∙◌}
use Rattle.std.specs.Option.{ok_or}
use Rattle.std.specs.List.{list_all}
use Rattle.common.specs.declared.faults.Kind.TheVariants.{NotEquation, TypeMismatch}
use Rattle.hol_spec.specs.Types.{HolType}
use Rattle.hol_spec.specs.Primitives.{bool, function, equality_type}
use Rattle.hol_spec.specs.Terms.{Term, app, lam, Variable, HasType, term_eq, equation, application_type}
use Rattle.hol_spec.specs.TermBinding.{put}
use Rattle.hol_spec.specs.TermSubstitution.{TermPairs, AreFitting}
use Rattle.hol_spec.specs.Substitution.{TypePairs}
use Rattle.hol_spec.specs.Sequents.{Sequent}
use Rattle.hol_spec.specs.Limits.{SequentWithin}
use Rattle.hol_spec.specs.Equations.{equation_parts}
use Rattle.hol_spec.specs.Rules.{Parameters, nothing, variable, substitution, derived, joined, abstraction, is_free_in}
use Rattle.hol_spec.specs.Proofs.{Made, Step, sequent_at}
use Rattle.hol_spec.specs.declared.StepKind.TheVariants as by_rule
use Rattle.hol_laws.specs.TermLaws.{term_eq-Decides, type_eq-refl}
use Rattle.hol_laws.specs.TypeLaws.{type_eq-Decides}
use Rattle.article_spec.specs.State.{State}
use Rattle.article_spec.specs.Conditions.{equation_of, typed, has_type, is_of_type}
use Rattle.article_spec.specs.Changes.{with_theorem, conclude}
use Rattle.article_spec.specs.RuleSteps.{step_by, refl_step, assume_step, eq_mp_step, abs_thm_step, app_thm_step, beta_conv_step, sym_step, trans_step, subst_step, substituted}
use Rattle.article_write_laws.specs.TypeWriting.{sequent-in_limits}

equation_parts-equation : (a : HolType) (l r : Term) → equation_parts (equation a l r) ≡ Some (record { ty = a; left = l; right = r })
equation_parts-equation a l r = ap (λ b. cond b (Some (record { ty = a; left = l; right = r })) None)
    ((type_eq-Decides (equality_type a) (equality_type a)).1 refl)

pub equation_of-is : (s : Sequent) (a : HolType) (l r : Term) → s.conclusion ≡ equation a l r → equation_of s ≡ Ok (record { ty = a; left = l; right = r })
equation_of-is s a l r e = ap (λ t. ok_or (equation_parts t) NotEquation) e ∙ ap (λ o. ok_or o NotEquation) (equation_parts-equation a l r)

alike : (t u : Term) → t ≡ u → term_eq t u ≡ true
alike t u e = (term_eq-Decides t u).1 e

pub concluded : (s : State) (x : Step) → SequentWithin x.sequent → conclude s x ≡ Ok (with_theorem s x)
concluded s x h = rw (sequent-in_limits x.sequent h) refl

pub typed-is : (t : Term) (a : HolType) → HasType t a → typed t ≡ Ok a
typed-is t a h = ap (λ o. ok_or o TypeMismatch) h

pub is_of_type-is : (t : Term) (a : HolType) → HasType t a → is_of_type a t ≡ true
is_of_type-is t a h = ap (λ o. has_type o a) h ∙ type_eq-refl a

pub refl-step : (t : Term) (a : HolType) → HasType t a → refl_step t ≡ Ok (step_by by_rule.Refl [] (Parameters.term t) (derived [] (equation a t t)))
refl-step t a h = rw (typed-is t a h) refl

pub assume-step : (p : Term) → HasType p bool → assume_step p ≡ Ok (step_by by_rule.Assume [] (Parameters.term p) (derived (p ∷ []) p))
assume-step p h = rw (is_of_type-is p bool h) refl

pub beta_conv-step : (a b : HolType) (t u : Term) → HasType (app (lam a t) u) b
    → beta_conv_step (app (lam a t) u) ≡ Ok
    (step_by by_rule.BetaConv [] (Parameters.term (app (lam a t) u)) (derived [] (equation b (app (lam a t) u) (put u t))))
beta_conv-step a b t u h = rw (typed-is (app (lam a t) u) b h) refl

application_type-is : (a b : HolType) → application_type (Some (function a b)) (Some a) ≡ Some b
application_type-is a b = ap (λ x. cond x (Some b) None) (type_eq-refl a)

-- each term has the type of its variable
fitting-test : (terms : TermPairs) → AreFitting terms → list_all (λ p. is_of_type p.0.1 p.1) terms ≡ true
fitting-test [] h = refl
fitting-test (p ∷ ps) h = rw (is_of_type-is p.1 p.0.1 h.0, fitting-test ps h.1) refl

module _ (m : List Made) where
  pub eq_mp-step : (i j : ℕ) (p q : Term) → (sequent_at m i).conclusion ≡ equation bool p q → (sequent_at m j).conclusion ≡ p
      → eq_mp_step m i j ≡ Ok (step_by by_rule.EqMp (i ∷ j ∷ []) nothing (derived (joined (sequent_at m i).hypotheses (sequent_at m j).hypotheses) q))
  eq_mp-step i j p q e f = rw (equation_of-is (sequent_at m i) bool p q e, alike (sequent_at m j).conclusion p f) refl

  pub abs_thm-step : (i : ℕ) (v : Variable) (b : HolType) (t u : Term) → (sequent_at m i).conclusion ≡ equation b t u
      → is_free_in v (sequent_at m i).hypotheses ≡ false
      → abs_thm_step m v i ≡ Ok
      (step_by by_rule.AbsThm (i ∷ []) (variable v) (derived (sequent_at m i).hypotheses (equation (function v.1 b) (abstraction v t) (abstraction v u))))
  abs_thm-step i v b t u e f = rw (equation_of-is (sequent_at m i) b t u e, f) refl

  pub app_thm-step : (i j : ℕ) (a b : HolType) (f g x y : Term) → (sequent_at m i).conclusion ≡ equation (function a b) f g
      → (sequent_at m j).conclusion ≡ equation a x y
      → app_thm_step m i j ≡ Ok
      (step_by by_rule.AppThm (i ∷ j ∷ []) nothing
      (derived (joined (sequent_at m i).hypotheses (sequent_at m j).hypotheses) (equation b (app f x) (app g y))))
  app_thm-step i j a b f g x y e k = rw (equation_of-is (sequent_at m i) (function a b) f g e, equation_of-is (sequent_at m j) a x y k, application_type-is a b)
      refl

  pub sym-step : (i : ℕ) (a : HolType) (x y : Term) → (sequent_at m i).conclusion ≡ equation a x y
      → sym_step m i ≡ Ok (step_by by_rule.Sym (i ∷ []) nothing (derived (sequent_at m i).hypotheses (equation a y x)))
  sym-step i a x y e = rw (equation_of-is (sequent_at m i) a x y e) refl

  pub trans-step : (i j : ℕ) (a : HolType) (x y z : Term) → (sequent_at m i).conclusion ≡ equation a x y → (sequent_at m j).conclusion ≡ equation a y z
      → trans_step m i j ≡ Ok
      (step_by by_rule.Trans (i ∷ j ∷ []) nothing (derived (joined (sequent_at m i).hypotheses (sequent_at m j).hypotheses) (equation a x z)))
  trans-step i j a x y z e f = rw (equation_of-is (sequent_at m i) a x y e, equation_of-is (sequent_at m j) a y z f, alike y y refl) refl

  pub subst-step : (i : ℕ) (types : TypePairs) (terms : TermPairs) → AreFitting terms
      → subst_step m types terms i ≡ Ok (step_by by_rule.Subst (i ∷ []) (substitution types terms) (substituted types terms (sequent_at m i)))
  subst-step i types terms h = rw (fitting-test terms h) refl
