-- The rule of substitution, by what its step was given.
use Rattle.std.proofs.Common.{◌≡◌, ℕ, refl, sym, ap, subst, List, [], ◌∷◌}
use Rattle.hol_spec.specs.Proofs.{sequent_at}
use Rattle.hol_spec.specs.Rules.{Rule, Parameters}
use Rattle.hol_spec.specs.Rules as rule
use Rattle.hol_spec.specs.Sequents.{Sequent}
use Rattle.hol_spec.specs.declared.StepKind.TheVariants as kinds
use Rattle.hol_rules.specs.declared.made.Substitution.{Substitution}
use Rattle.hol_rules.specs.Kept.{Kept}
use Rattle.hol_rules.specs.Views.{step_at, parameters_view}
use Rattle.hol_rules.specs.declared.made.Parameters.{Parameters as Given}
use Rattle.hol_rules.specs.declared.made.Parameters.TheVariants as given
use Rattle.hol_term.specs.Tables.{Trees}
use Rattle.translate_proof.specs.Images.{type_pairs, term_pairs, IsSubstituted}

substituted-rule : (k : Kept) (put : Substitution) (id one : ℕ)
    → Rule kinds.Subst (sequent_at k.made one ∷ []) (Parameters.substitution (type_pairs k.trees put) (term_pairs k.trees put)) (sequent_at k.made id)
    → IsSubstituted k put id one
substituted-rule k put id one (rule.subst fitting e) =
    record { fitting = fitting; hypotheses = ap (λ (s : Sequent). s.hypotheses) e; conclusion = ap (λ (s : Sequent). s.conclusion) e }

pub substituted-by : (k : Kept) (put : Substitution) (id one : ℕ)
    → Rule kinds.Subst (sequent_at k.made one ∷ []) (step_at k.made id).parameters (sequent_at k.made id)
    → Parameters.substitution (type_pairs k.trees put) (term_pairs k.trees put) ≡ (step_at k.made id).parameters → IsSubstituted k put id one
substituted-by k put id one r e = substituted-rule k put id one (subst (λ g. Rule kinds.Subst (sequent_at k.made one ∷ []) g (sequent_at k.made id)) (sym e) r)

-- such a step was given a substitution
pub subst-given : (trees : Trees) (p : Given) (g : Parameters) (one s : Sequent) → Rule kinds.Subst (one ∷ []) g s → parameters_view trees p ≡ g
    → ((x : Substitution) → p ≡ given.Subst x → ⊥) → ⊥
subst-given trees p g one s (rule.subst {types = ps} {terms = ts} f e) is other = go p is other
  where
    go : (p : Given) → parameters_view trees p ≡ Parameters.substitution ps ts → ((x : Substitution) → p ≡ given.Subst x → ⊥) → ⊥
    go given.Nothing e o = absurd (cc)
    go (given.Term t) e o = absurd (cc)
    go (given.Variable v) e o = absurd (cc)
    go (given.Sequent q) e o = absurd (cc)
    go (given.Subst x) e o = o x refl
    go (given.Const n t) e o = absurd (cc)
    go (given.List ps) e o = absurd (cc)
    go (given.TypeOp new) e o = absurd (cc)
