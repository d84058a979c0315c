-- A step with the premises that its proof needs is a step: where the first premise of `proveHyp` proves no hypothesis of the second, the
-- second premise is restated.
use Rattle.std.proofs.Common.{◌≡◌, ℕ, List, [], ◌∷◌, Bool, true, false, ◌&&◌, ◌||◌, cond, inl, inr, ◌⊎◌, refl, sym, ap, subst, ◌∙◌}
use Rattle.std.specs.Prelude.{IsTrue, drop}
use Rattle.std.specs.List.{AllByRecursion, list_all}
use Rattle.std.proofs.lemmas.Bool.{not-true}
use Rattle.hol_spec.specs.Lists.{IsIn, is_in, union, without}
use Rattle.hol_spec.specs.Terms.{Term, term_eq}
use Rattle.hol_laws.specs.TermLaws.{term_eq-Decides}
use Rattle.hol_laws.specs.Members.{IsIn-union_right}
use Rattle.hol_spec.specs.Sequents.{Sequent, IsSequent, within}
use Rattle.hol_spec.specs.Rules.{Parameters, Rule}
use Rattle.hol_spec.specs.Rules as rule
use Rattle.hol_spec.specs.Proofs.{Made, Step, sequents_of, ArePremises, IsStep}
use Rattle.hol_spec.specs.Over.{IsStepOver}
use Rattle.hol_spec.specs.declared.StepKind.{StepKind}
use Rattle.hol_spec.specs.declared.StepKind.TheVariants as kinds
use Rattle.hol_proof_laws.specs.RuleSequents.{rule-IsSequent}
use Rattle.translate_spec.specs.Rows.{has_row}
use Rattle.translate_spec.specs.MadeItems.{proves_nothing, restated, needed}
use Rattle.translate_laws.specs.BodyTyping.{IsIn-without}

-- what is in a list passes the test
in-list : (hs : List Term) (h : Term) → IsIn hs h → is_in term_eq h hs ≡ true
in-list [] h k = absurd k
in-list (g ∷ gs) h (inl e) = ap (λ b. b || is_in term_eq h gs) ((term_eq-Decides h g).1 e)
in-list (g ∷ gs) h (inr k) = go (term_eq h g) (in-list gs h k)
  where
    go : (b : Bool) → is_in term_eq h gs ≡ true → (b || is_in term_eq h gs) ≡ true
    go true e = refl
    go false e = e

all-in : (gs hs : List Term) → ((h : Term) → IsIn hs h → IsIn gs h) → list_all (λ h. is_in term_eq h gs) hs ≡ true
all-in gs [] f = refl
all-in gs (h ∷ hs) f = ap (λ b. b && list_all (λ h. is_in term_eq h gs) hs) (in-list gs h (f h (inl refl))) ∙ all-in gs hs (λ k i. f k (inr i))

-- the second premise is within what `proveHyp` makes of it, where it lacks the hypothesis
second-within : (one two s : Sequent) → is_in term_eq one.conclusion two.hypotheses ≡ false
    → s ≡ record { hypotheses = union term_eq one.hypotheses (without term_eq two.hypotheses one.conclusion); conclusion = two.conclusion }
    → IsTrue (within two s)
second-within one two s lacks e =
    let other : (h : Term) → IsIn two.hypotheses h → h ≡ one.conclusion → ⊥ =
    λ h i is. differ (is_in term_eq one.conclusion two.hypotheses) (in-list two.hypotheses one.conclusion (subst (IsIn two.hypotheses) is i)) lacks in
    let stays : (h : Term) → IsIn two.hypotheses h → IsIn (union term_eq one.hypotheses (without term_eq two.hypotheses one.conclusion)) h =
    λ h i. IsIn-union_right term_eq term_eq-Decides (without term_eq two.hypotheses one.conclusion) one.hypotheses h
    (left_out h (other h i) (IsIn-without two.hypotheses one.conclusion h i)) in
    subst (λ (t : Sequent). IsTrue (within two t)) (sym e)
    (ap (λ b. b && term_eq two.conclusion two.conclusion)
    (all-in (union term_eq one.hypotheses (without term_eq two.hypotheses one.conclusion)) two.hypotheses stays)
    ∙ (term_eq-Decides two.conclusion two.conclusion).1 refl)
  where
    differ : (b : Bool) → b ≡ true → b ≡ false → ⊥
    differ b e f = let g : true ≡ false = sym e ∙ f in absurd (cc)

    left_out : (h : Term) → (h ≡ one.conclusion → ⊥) → (h ≡ one.conclusion) ⊎ IsIn (without term_eq two.hypotheses one.conclusion) h
        → IsIn (without term_eq two.hypotheses one.conclusion) h
    left_out h other (inl is) = absurd (other is)
    left_out h other (inr i) = i

-- what proves nothing by its first premise follows from the others
restated-rule : (kind : StepKind) (ss : List Sequent) (g : Parameters) (s : Sequent) → Rule kind ss g s → AllByRecursion IsSequent ss
    → proves_nothing kind ss ≡ true → Rule kinds.Restate (drop 1 ss) (Parameters.sequent s) s
restated-rule kind ss g s (rule.prove_hyp {one = one} {two = two} e) are n =
    rule.restate (rule-IsSequent kinds.ProveHyp (one ∷ two ∷ []) g s (rule.prove_hyp e) are)
    (second-within one two s (not-true (is_in term_eq one.conclusion two.hypotheses) n) e)
restated-rule kind ss g s (rule.refl h e) are n = absurd (cc)
restated-rule kind ss g s (rule.assume h e) are n = absurd (cc)
restated-rule kind ss g s (rule.eq_mp e f i) are n = absurd (cc)
restated-rule kind ss g s (rule.abs_thm e f i) are n = absurd (cc)
restated-rule kind ss g s (rule.app_thm e f i) are n = absurd (cc)
restated-rule kind ss g s (rule.deduct_antisym e) are n = absurd (cc)
restated-rule kind ss g s (rule.beta_conv h e) are n = absurd (cc)
restated-rule kind ss g s (rule.sym e f) are n = absurd (cc)
restated-rule kind ss g s (rule.trans e f i) are n = absurd (cc)
restated-rule kind ss g s (rule.subst h e) are n = absurd (cc)
restated-rule kind ss g s (rule.recorded h) are n = absurd (cc)
restated-rule kind ss g s (rule.restate h w) are n = absurd (cc)
restated-rule kind ss g s (rule.define_const h e) are n = absurd (cc)
restated-rule kind ss g s (rule.define_const_list d l e) are n = absurd (cc)
restated-rule kind ss g s (rule.first_law d e) are n = absurd (cc)
restated-rule kind ss g s (rule.first_law_free d e) are n = absurd (cc)
restated-rule kind ss g s (rule.second_law d e) are n = absurd (cc)
restated-rule kind ss g s (rule.second_law_free d e) are n = absurd (cc)

fewer-premises : (sequents : List Sequent) (ns : List ℕ) (ss : List Sequent) → ArePremises sequents ns ss → ArePremises sequents (drop 1 ns) (drop 1 ss)
fewer-premises sequents [] [] h = tt
fewer-premises sequents (n ∷ ns) (s ∷ ss) h = h.1
fewer-premises sequents [] (s ∷ ss) h = absurd h
fewer-premises sequents (n ∷ ns) [] h = absurd h

-- A step with the premises that it needs is a step
pub needed-IsStep : (before : List Made) (x : Step) (h : IsStep before x) → AllByRecursion IsSequent h.premises → IsStep before (needed h.premises x)
needed-IsStep before x h are = go (proves_nothing x.kind h.premises) refl
  where
    go : (b : Bool) → proves_nothing x.kind h.premises ≡ b → IsStep before (cond b (restated x) x)
    go true e = record {
      premises = drop 1 h.premises;
      earlier = fewer-premises (sequents_of before) x.premises h.premises h.earlier;
      follows = record { rule = restated-rule x.kind h.premises x.parameters x.sequent h.follows.rule are e; defined = tt {0} };
      law = tt {0};
    }
    go false e = h

pub needed-IsStepOver : (before : List Made) (ss : List Sequent) (x : Step) → IsStepOver before x → IsStepOver before (needed ss x)
needed-IsStepOver before ss x h = go (proves_nothing x.kind ss)
  where
    go : (b : Bool) → IsStepOver before (cond b (restated x) x)
    go true = record { parameters = h.sequent; sequent = h.sequent; within = h.within }
    go false = h

pub needed-sequent : (ss : List Sequent) (x : Step) → (needed ss x).sequent ≡ x.sequent
needed-sequent ss x = go (proves_nothing x.kind ss)
  where
    go : (b : Bool) → (cond b (restated x) x).sequent ≡ x.sequent
    go true = refl
    go false = refl

-- only a step with a proof proves nothing by its first premise
nothing-row : (kind : StepKind) (ss : List Sequent) → proves_nothing kind ss ≡ true → has_row kind ≡ true
nothing-row kinds.ProveHyp ss e = refl
nothing-row kinds.Refl ss e = refl
nothing-row kinds.Assume ss e = refl
nothing-row kinds.EqMp ss e = refl
nothing-row kinds.AbsThm ss e = refl
nothing-row kinds.AppThm ss e = refl
nothing-row kinds.DeductAntisym ss e = refl
nothing-row kinds.BetaConv ss e = refl
nothing-row kinds.Sym ss e = refl
nothing-row kinds.Trans ss e = refl
nothing-row kinds.Subst ss e = refl
nothing-row kinds.Restate ss e = refl
nothing-row kinds.DefineConst ss e = refl
nothing-row kinds.DefineConstList ss e = refl
nothing-row kinds.Axiom ss e = absurd (cc)
nothing-row kinds.FirstLaw ss e = refl
nothing-row kinds.SecondLaw ss e = refl

pub needed-row : (ss : List Sequent) (x : Step) → has_row (needed ss x).kind ≡ has_row x.kind
needed-row ss x = go (proves_nothing x.kind ss) refl
  where
    go : (b : Bool) → proves_nothing x.kind ss ≡ b → has_row (cond b (restated x) x).kind ≡ has_row x.kind
    go true e = sym (nothing-row x.kind ss e)
    go false e = refl
