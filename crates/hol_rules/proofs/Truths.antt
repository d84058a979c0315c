-- Truth values among numbers, and what is stated of them.
use Rattle.std.proofs.Common.{◌≡◌, ℕ, ◌<◌, refl, sym, ap, subst, ◌∙◌, List, [], ◌∷◌, length, Bool, true, false, ◌&&◌, Err}
use Rattle.std.specs.List.{AllByRecursion, list_all}
use Rattle.common.specs.declared.faults.Fault.{Fault}
use Rattle.common.specs.declared.faults.Kind.TheVariants.{NotBool}
use Rattle.hol_spec.specs.Lists.{distinct}
use Rattle.hol_spec.specs.Primitives.{bool}
use Rattle.hol_spec.specs.Terms.{Term, term_eq, HasType}
use Rattle.hol_spec.specs.Sequents.{Sequent as ASequent, within}
use Rattle.hol_spec.specs.Rules as rule
use Rattle.hol_spec.specs.Proofs.{steps_of, sequent_at}
use Rattle.hol_spec.specs.declared.StepKind.TheVariants as by_rule
use Rattle.article_spec.specs.Conditions.{demand, all_bool, follows, is_of_type}
use Rattle.article_spec.specs.Results.{Fails}
use Rattle.article_spec.specs.RuleSteps.{stated, axiom_step, restate_step}
use Rattle.hol_term.specs.declared.TermId.{TermId}
use Rattle.hol_term.specs.Tables.{Trees, term_at, terms_at, AreKnown, IsDistinct}
use Rattle.sequent.specs.declared.Sequent.{Sequent}
use Rattle.sequent.specs.Sequents as numbers
use Rattle.hol_rules.specs.declared.made.Parameters.TheVariants as parameters
use Rattle.hol_rules.specs.Kept.{Kept}
use Rattle.hol_rules.specs.Views.{new_step}
use Rattle.hol_rules.specs.Premises.{AreNumbersOf, AreTermsAt, IsStated}
use Rattle.hol_rules.proofs.Concluded.{Grows-refl, fails-both}
use Rattle.hol_rules.proofs.RuleSteps.{met, of_type}
use Rattle.hol_rules.proofs.MoreSteps.{axiom-makes, restate-makes}
use Rattle.hol_rules.proofs.SideLaws.{known_term}
use Rattle.hol_rules.proofs.Ends.{Ends, ends_by}

pub AreTermsAt-known : (trees : Trees) (ids : List TermId) → AreTermsAt trees ids → AreKnown trees ids
AreTermsAt-known trees [] h = tt
AreTermsAt-known trees (id ∷ ids) h = (known_term trees id.0 h.0, AreTermsAt-known trees ids h.1)

abbrev truths : Trees → List TermId → Bool
truths trees ids = list_all (is_of_type bool) (terms_at trees ids)

-- what is left to be judged decides
pub record AreLeft (trees : Trees) (ids rest : List TermId) : Type 0 where
  pub terms : AreTermsAt trees rest
  pub decide : truths trees rest ≡ truths trees ids

module _ (trees : Trees) (ids rest : List TermId) (id : TermId) (h : AreLeft trees ids (id ∷ rest)) where
  pub left_goes_on : is_of_type bool (term_at trees id.0) ≡ true → AreLeft trees ids rest
  left_goes_on e = record { terms = h.terms.1; decide = sym (ap (λ b. b && truths trees rest) e) ∙ h.decide }

  pub left_fails : (c : Term) → is_of_type bool (term_at trees id.0) ≡ false → all_bool (c ∷ terms_at trees ids) ≡ Err NotBool
  left_fails c e = ap (λ b. demand b NotBool) (ap (λ b. is_of_type bool c && b) (sym h.decide ∙ ap (λ b. b && truths trees rest) e)
      ∙ neither (is_of_type bool c))
    where
      neither : (b : Bool) → (b && false) ≡ false
      neither true = refl
      neither false = refl

pub first_fails : (c : Term) (ts : List Term) → is_of_type bool c ≡ false → all_bool (c ∷ ts) ≡ Err NotBool
first_fails c ts e = ap (λ b. demand (b && list_all (is_of_type bool) ts) NotBool) e

pub all_left : (trees : Trees) (ids : List TermId) (c : Term) → is_of_type bool c ≡ true → AreLeft trees ids []
    → list_all (is_of_type bool) (c ∷ terms_at trees ids) ≡ true
all_left trees ids c e h = ap (λ b. b && truths trees ids) e ∙ sym h.decide

both : (a b : Bool) → (a && b) ≡ true → (a ≡ true) × (b ≡ true)
both true b e = (refl, e)
both false b e = absurd (cc)

are_truths : (ts : List Term) → list_all (is_of_type bool) ts ≡ true → AllByRecursion (λ t. HasType t bool) ts
are_truths [] e = tt
are_truths (t ∷ ts) e = let h = both (is_of_type bool t) (list_all (is_of_type bool) ts) e in (of_type bool t h.0, are_truths ts h.1)

pub stated_is : (trees : Trees) (ids : List TermId) (concl : TermId) → concl.0 < length trees.terms → (hyps : List TermId)
    → AreNumbersOf trees hyps (distinct term_eq (terms_at trees ids))
    → IsStated trees (record { hyps = hyps; concl = concl }) (stated (terms_at trees ids) (term_at trees concl.0))
stated_is trees ids concl known hyps h = record
    { known = (h.known, known); is = ap (λ hs. record { hypotheses = hs; conclusion = term_at trees concl.0 }) h.are }

module _ (k : Kept) (ids : List TermId) (concl : TermId) (all : list_all (is_of_type bool) (term_at k.trees concl.0 ∷ terms_at k.trees ids) ≡ true) where
  abbrev hs : List Term
  hs = terms_at k.trees ids

  abbrev c : Term
  c = term_at k.trees concl.0

  -- what was stated is given, and is what is concluded
  module _ (given s : Sequent) (same : given ≡ s) (h : IsStated k.trees s (stated hs c)) where
    pub given_stated : IsStated k.trees given (stated hs c)
    given_stated = subst (λ x. IsStated k.trees x (stated hs c)) (sym same) h

    apart_truths : (HasType c bool) × AllByRecursion (λ t. HasType t bool) hs
    apart_truths = let p = both (is_of_type bool c) (list_all (is_of_type bool) hs) all in (of_type bool c p.0, are_truths hs p.1)

    pub axiom-ends : Ends k (axiom_step hs c) k (new_step k.trees by_rule.Axiom [] (parameters.Sequent given) s)
    axiom-ends = ends_by (Grows-refl k) (axiom-makes hs c apart_truths.1 apart_truths.0 k.made all) _
        (λ i. record { kind = by_rule.Axiom; premises = []; parameters = rule.Parameters.sequent (given_stated.is i); sequent = h.is i })

    pub restate-ends : (j : ℕ) → j < length (steps_of k.made) → within (sequent_at k.made j) (stated hs c) ≡ true
        → Ends k (restate_step k.made j hs c) k (new_step k.trees by_rule.Restate (j ∷ []) (parameters.Sequent given) s)
    restate-ends j l w = ends_by (Grows-refl k) (restate-makes hs c apart_truths.1 apart_truths.0 k.made j l all w) _
        (λ i. record { kind = by_rule.Restate; premises = j ∷ []; parameters = rule.Parameters.sequent (given_stated.is i); sequent = h.is i })

  pub restate-fails : (j : ℕ) (fault : Fault) → Fails fault (follows (sequent_at k.made j) (stated hs c)) → Fails fault (restate_step k.made j hs c)
  restate-fails j fault f = subst (Fails fault) (sym (met (list_all (is_of_type bool) (c ∷ hs)) NotBool _ all))
      (fails-both (follows (sequent_at k.made j) (stated hs c)) _ fault f)

-- what a comparison of numbers says of the sequents
pub stated_within : (trees : Trees) → IsDistinct trees.terms → (a b : Sequent) (s t : ASequent) → numbers.IsKnown trees a → numbers.sequent_at trees a ≡ s
    → IsStated trees b t → (r : Bool)
    → ((ts : Trees) → IsDistinct ts.terms → numbers.IsKnown ts a → numbers.IsKnown ts b → r ≡ within (numbers.sequent_at ts a) (numbers.sequent_at ts b))
    → within s t ≡ r
stated_within trees d a b s t k e h r f = sym (f trees d k h.known ∙ (λ i. within (e i) (h.is i)))
