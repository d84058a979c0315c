-- A beta step, at its end.
use Rattle.std.proofs.Common.{◌≡◌, ◌<◌, refl, sym, ap, subst, ◌∙◌, List, [], length, None, IsSome, Err}
use Rattle.common.specs.declared.faults.Kind.TheVariants.{NotRedex}
use Rattle.hol_spec.specs.Types.{HolType}
use Rattle.hol_spec.specs.TermBinding.{put}
use Rattle.hol_spec.specs.Terms.{type_of, HasType, equation}
use Rattle.hol_spec.specs.Rules.{derived}
use Rattle.hol_spec.specs.Rules as rule
use Rattle.hol_spec.specs.declared.StepKind.TheVariants as by_rule
use Rattle.article_spec.specs.RuleSteps.{step_by, contracted, beta_conv_step}
use Rattle.hol_term.specs.declared.TermId.{TermId}
use Rattle.hol_term.specs.Tables.{term_at, IsTermAt}
use Rattle.hol_rules.specs.declared.beta.Redex.{Redex}
use Rattle.hol_rules.specs.declared.made.Parameters.TheVariants as parameters
use Rattle.hol_rules.specs.Kept.{Kept, Grows}
use Rattle.hol_rules.specs.Views.{new_step}
use Rattle.hol_rules.specs.Premises.{AreNumbersOf, IsNumberOf, AreRedexParts}
use Rattle.hol_rules.proofs.Concluded.{Grows-trans}
use Rattle.hol_rules.proofs.RuleSteps.{Makes}
use Rattle.hol_rules.proofs.MoreSteps.{beta_conv-makes}
use Rattle.hol_rules.proofs.SideLaws.{known_term}
use Rattle.hol_rules.proofs.Ends.{Ends, ends_by, stepped, some_of}
use Rattle.hol_rules.proofs.FunctionEnds.{number-grown}
use Rattle.std.proofs.Math.Path.{ap₂}

module _ (k : Kept) (t : TermId) (h : IsTermAt k.trees t.0) where
  pub beta_conv-none : contracted (term_at k.trees t.0) ≡ None → beta_conv_step (term_at k.trees t.0) ≡ Err NotRedex
  beta_conv-none e = rw e refl

  module _ (a : Kept) (g : Grows k a) where
    own : IsNumberOf a.trees t (term_at k.trees t.0)
    own = number-grown g (record { known = known_term k.trees t.0 h; is = refl })

    pub own_known : t.0 < length a.trees.terms
    own_known = own.known

    pub own_term : IsTermAt a.trees t.0
    own_term = subst (λ u. IsSome (type_of u)) (sym own.is) h

    pub beta_conv-typed : (ty : HolType) × HasType (term_at a.trees t.0) ty
    beta_conv-typed = some_of (type_of (term_at a.trees t.0)) own_term

    module _ (redex : Redex) (parts : AreRedexParts k.trees t redex) (reduced : TermId)
        (n : IsNumberOf a.trees reduced (put (term_at k.trees redex.arg.0) (term_at k.trees redex.body.0))) where
      pub beta_conv-ends : (mid : Kept) → Grows a mid → (concl : TermId)
          → ((ty : HolType) → HasType (term_at a.trees t.0) ty → IsNumberOf mid.trees concl (equation ty (term_at a.trees t.0) (term_at a.trees reduced.0)))
          → (hyps : List TermId) → AreNumbersOf mid.trees hyps []
          → Ends k (beta_conv_step (term_at k.trees t.0)) mid
          (new_step mid.trees by_rule.BetaConv [] (parameters.Term t) (record { hyps = hyps; concl = concl }))
      beta_conv-ends mid o concl c hyps hs =
          let tree = term_at k.trees t.0 in
          let body = term_at k.trees redex.body.0 in
          let arg = term_at k.trees redex.arg.0 in
          let all = Grows-trans g o in
          let b = some_of (type_of tree) h in
          let typed : HasType (term_at a.trees t.0) b.0 = ap type_of own.is ∙ b.1 in
          let made : IsNumberOf mid.trees concl (equation b.0 tree (put arg body)) =
          subst (IsNumberOf mid.trees concl) (ap₂ (equation b.0) own.is n.is) (c b.0 typed) in
          let stays : term_at mid.trees t.0 ≡ tree = (number-grown o own).is in
          let makes = subst
          (λ w. Makes k.made (beta_conv_step w) (step_by by_rule.BetaConv [] (rule.Parameters.term w) (derived [] (equation b.0 w (put arg body)))))
          (sym parts.is) (beta_conv-makes k.made parts.ty b.0 body arg (ap type_of (sym parts.is) ∙ b.1)) in
          ends_by all makes _ (stepped mid.trees by_rule.BetaConv [] (parameters.Term t) _ (ap rule.Parameters.term stays) hyps [] hs concl _ made)
