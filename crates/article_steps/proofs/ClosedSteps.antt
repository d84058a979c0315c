-- The steps of a proof: what their rules were given is closed.
use Rattle.std.proofs.Common.{◌≡◌, ℕ, ◌<◌, List, [], ◌∷◌, ◌++◌, length, sym, ap, subst}
use Rattle.std.specs.Prelude.{is_some}
use Rattle.std.specs.List.{AllByRecursion}
use Rattle.std.proofs.ByRecursion.{All-get_or}
use Rattle.hol_spec.specs.Primitives.{bool}
use Rattle.hol_spec.specs.Types.{HolType}
use Rattle.hol_spec.specs.Terms.{Term, Variable, IsTerm, HasType}
use Rattle.hol_spec.specs.TermSubstitution.{TermPairs, AreFitting}
use Rattle.hol_spec.specs.Sequents.{Sequent, IsSequent}
use Rattle.hol_spec.specs.Rules.{Parameters, Rule}
use Rattle.hol_spec.specs.Proofs.{Made, Step, steps_of, IsProof}
use Rattle.hol_spec.specs.Proofs as made
use Rattle.hol_spec.specs.declared.StepKind.{StepKind}
use Rattle.hol_laws.specs.Members.{All-append, All-weaker}
use Rattle.hol_proof_laws.specs.ProofGrowth.{steps_of-append}
use Rattle.hol_rules.specs.Views.{step_at}
use Rattle.article_steps.specs.Given.{AreClosed, IsClosed}

-- Rules
is-term : (t : Term) (a : HolType) → HasType t a → IsTerm t
is-term t a e = ap is_some e

fitting-closed : (terms : TermPairs) → AreFitting terms → AllByRecursion (λ (p : Variable × Term). IsTerm p.1) terms
fitting-closed [] h = tt
fitting-closed (p ∷ terms) h = (is-term p.1 p.0.1 h.0, fitting-closed terms h.1)

sequent-closed : (s : Sequent) → IsSequent s → IsClosed s
sequent-closed s h = record {
  hypotheses = All-weaker (λ t. HasType t bool) IsTerm (λ t k. is-term t bool k) s.hypotheses h.hypotheses;
  conclusion =
      is-term s.conclusion bool h.conclusion;
}

rule-closed : (kind : StepKind) (premises : List Sequent) (given : Parameters) (s : Sequent) → Rule kind premises given s → AreClosed given
rule-closed kind ss g s (Rule.refl {t = t} {a = a} typed is) = is-term t a typed
rule-closed kind ss g s (Rule.assume {p = p} typed is) = is-term p bool typed
rule-closed kind ss g s (Rule.eq_mp e f is) = tt
rule-closed kind ss g s (Rule.abs_thm e f is) = tt
rule-closed kind ss g s (Rule.app_thm e f is) = tt
rule-closed kind ss g s (Rule.deduct_antisym is) = tt
rule-closed kind ss g s (Rule.beta_conv {a = a} {b = b} {t = t} {u = u} typed is) = is-term (Term.app (Term.lam a t) u) b typed
rule-closed kind ss g s (Rule.sym e is) = tt
rule-closed kind ss g s (Rule.trans e f is) = tt
rule-closed kind ss g s (Rule.prove_hyp is) = tt
rule-closed kind ss g s (Rule.subst {terms = terms} fits is) = fitting-closed terms fits
rule-closed kind ss g s (Rule.recorded h) = sequent-closed s h
rule-closed kind ss g s (Rule.restate h within) = sequent-closed s h
rule-closed kind ss g s (Rule.define_const {t = t} {a = a} h is) = is-term t a h.typed
rule-closed kind ss g s (Rule.define_const_list h k is) = tt
rule-closed kind ss g s (Rule.first_law h is) = tt
rule-closed kind ss g s (Rule.second_law h is) = tt
rule-closed kind ss g s (Rule.first_law_free h is) = tt
rule-closed kind ss g s (Rule.second_law_free h is) = tt

-- Proofs
-- what the last step has, and those before it have, all have
steps-more : (P : Step → Type 0) (before m : List Made) (x : Made) → m ≡ before ++ x ∷ [] → AllByRecursion P (steps_of before)
    → AllByRecursion P (steps_of (x ∷ [])) → AllByRecursion P (steps_of m)
steps-more P before m x is h k =
    subst (λ (w : List Made). AllByRecursion P (steps_of w)) (sym is)
    (subst (AllByRecursion P) (sym (steps_of-append before (x ∷ []))) (All-append P (steps_of before) (steps_of (x ∷ [])) h k))

proof-given : (m : List Made) → IsProof m → AllByRecursion (λ (x : Step). AreClosed x.parameters) (steps_of m)
proof-given m made.Each.empty = tt
proof-given m (made.Each.more {made = before} x p h is) = steps-more (λ (y : Step). AreClosed y.parameters) before m x is (proof-given before p) (last x h)
  where
    last : (x : Made) → made.IsMade before x → AllByRecursion (λ (y : Step). AreClosed y.parameters) (steps_of (x ∷ []))
    last (Made.symbol y) h = tt
    last (Made.type_definition names c f i) h = tt
    last (Made.step y) h = (rule-closed y.kind h.premises y.parameters y.sequent h.follows.rule, tt {0})

-- A step at its number
pub given-closed : (m : List Made) (i : ℕ) → IsProof m → i < length (steps_of m) → AreClosed (step_at m i).parameters
given-closed m i p low = All-get_or (λ (x : Step). AreClosed x.parameters) (steps_of m) i _ low (proof-given m p)
