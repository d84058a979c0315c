-- The rules that change hypotheses, at their ends.
use Rattle.std.proofs.Common.{ℕ, ◌<◌, refl, sym, subst, List, [], ◌∷◌, length}
use Rattle.hol_spec.specs.Types.{HolType}
use Rattle.hol_spec.specs.Primitives.{bool}
use Rattle.hol_spec.specs.Terms.{HasType, equation}
use Rattle.hol_spec.specs.Rules.{joined, removed}
use Rattle.hol_spec.specs.Proofs.{steps_of, sequent_at}
use Rattle.hol_spec.specs.declared.StepKind.TheVariants as by_rule
use Rattle.hol_term.specs.declared.TermId.{TermId}
use Rattle.hol_term.specs.Tables.{term_at}
use Rattle.hol_rules.specs.declared.made.Parameters.TheVariants as parameters
use Rattle.hol_rules.specs.Kept.{Kept, Grows}
use Rattle.hol_rules.specs.Views.{new_step}
use Rattle.hol_rules.specs.Premises.{AreNumbersOf, IsNumberOf}
use Rattle.article_spec.specs.RuleSteps.{deduct_antisym_step, prove_hyp_step}
use Rattle.hol_rules.proofs.Concluded.{Grows-refl}
use Rattle.hol_rules.proofs.MoreSteps.{deduct_antisym-makes, prove_hyp-makes}
use Rattle.hol_rules.proofs.Ends.{Ends, ends_by, stepped}
use Rattle.std.proofs.Math.Path.{ap₂}

module _ (k : Kept) (i j : ℕ) (l : i < length (steps_of k.made)) (m : j < length (steps_of k.made)) where
  pub deduct_antisym-ends : (p q : TermId) → IsNumberOf k.trees p (sequent_at k.made i).conclusion → HasType (sequent_at k.made i).conclusion bool
      → IsNumberOf k.trees q (sequent_at k.made j).conclusion
      → (mid : Kept) → Grows k mid → (concl : TermId)
      → ((a : HolType) → HasType (term_at k.trees p.0) a → IsNumberOf mid.trees concl (equation a (term_at k.trees p.0) (term_at k.trees q.0)))
      → (hyps : List TermId) → AreNumbersOf mid.trees hyps
      (joined (removed (sequent_at mid.made i).hypotheses (sequent_at mid.made j).conclusion)
      (removed (sequent_at mid.made j).hypotheses (sequent_at mid.made i).conclusion))
      → Ends k (deduct_antisym_step k.made i j) mid
      (new_step mid.trees by_rule.DeductAntisym (i ∷ j ∷ []) parameters.Nothing (record { hyps = hyps; concl = concl }))
  deduct_antisym-ends p q n typed o mid g concl c hyps h =
      let one = sequent_at k.made i in
      let two = sequent_at k.made j in
      let truth : HasType (term_at k.trees p.0) bool = subst (λ t. HasType t bool) (sym n.is) typed in
      let made : IsNumberOf mid.trees concl (equation bool one.conclusion two.conclusion) =
      subst (IsNumberOf mid.trees concl) (ap₂ (equation bool) n.is o.is) (c bool truth) in
      let hs : AreNumbersOf mid.trees hyps (joined (removed one.hypotheses two.conclusion) (removed two.hypotheses one.conclusion)) =
      subst (λ m. AreNumbersOf mid.trees hyps
      (joined (removed (sequent_at m i).hypotheses (sequent_at m j).conclusion) (removed (sequent_at m j).hypotheses (sequent_at m i).conclusion))) g.made h
      in
      ends_by g (deduct_antisym-makes k.made i j l m) _ (stepped mid.trees by_rule.DeductAntisym (i ∷ j ∷ []) parameters.Nothing _ refl hyps _ hs concl _ made)

  pub prove_hyp-ends : (hyps : List TermId) → AreNumbersOf k.trees hyps
      (joined (sequent_at k.made i).hypotheses (removed (sequent_at k.made j).hypotheses (sequent_at k.made i).conclusion)) → (concl : TermId)
      → IsNumberOf k.trees concl (sequent_at k.made j).conclusion
      → Ends k (prove_hyp_step k.made i j) k (new_step k.trees by_rule.ProveHyp (i ∷ j ∷ []) parameters.Nothing (record { hyps = hyps; concl = concl }))
  prove_hyp-ends hyps h concl n = ends_by (Grows-refl k) (prove_hyp-makes k.made i j l m) _
      (stepped k.trees by_rule.ProveHyp (i ∷ j ∷ []) parameters.Nothing _ refl hyps _ h concl _ n)
