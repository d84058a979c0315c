-- What states a sequent keeps a run sound.
use Rattle.std.proofs.Common.{◌≡◌, ℕ, ◌<◌, ◌≤◌, inl, inr, List, [], ◌∷◌, ◌++◌, length, Bool, true, false, cond, Option, None, Some, Ok, refl, sym, ap, subst, ◌∙◌, Result}
use Rattle.std.specs.Option.{option_or}
use Rattle.std.specs.List.{AllByRecursion, list_all, find}
use Rattle.std.proofs.lemmas.List.{get_or_past, length-map}
use Rattle.std.proofs.lemmas.Bool.{and_parts, cases_lt}
use Rattle.hol_spec.specs.Primitives.{bool}
use Rattle.hol_spec.specs.Terms.{Term, term_eq, HasType}
use Rattle.hol_laws.specs.TermLaws.{term_eq-Decides}
use Rattle.hol_laws.specs.ListLaws.{distinct-IsDistinct, union-All}
use Rattle.hol_spec.specs.Sequents.{Sequent, IsSequent, within, same}
use Rattle.common.specs.declared.faults.Kind.TheVariants.{NotBool, NotTheSequent}
use Rattle.hol_spec.specs.Taken.{TermTaken, TermsTaken}
use Rattle.hol_proof_laws.specs.SymbolGrowth.{symmetric}
use Rattle.hol_laws.specs.Members.{All-weaker}
use Rattle.hol_spec.specs.Limits.{SequentWithin}
use Rattle.hol_spec.specs.Derivations.{infers}
use Rattle.hol_spec.specs.Rules.{Parameters}
use Rattle.hol_spec.specs.Rules as rule
use Rattle.hol_spec.specs.declared.StepKind.TheVariants as by_rule
use Rattle.hol_spec.specs.Proofs.{Made, symbols_of, steps_of, sequents_of, sequent_at, Step}
use Rattle.article_spec.specs.State.{State}
use Rattle.article_spec.specs.Conditions.{is_of_type, all_bool, follows}
use Rattle.article_spec.specs.Changes.{with_step, next_step, first_same}
use Rattle.article_spec.specs.RuleSteps.{stated, restatement, step_by, axiom_step, restate_step}
use Rattle.article_laws.specs.Soundness.{IsTermObject, HasSoundRun}
use Rattle.article_laws.specs.SoundStates.{passed, demanded, list_all-All, IsNext, infer-more, assume-more, new-theorem, pushed, at_step}
use Rattle.article_laws.specs.SoundInference.{of_type}
use Rattle.common.specs.declared.faults.Kind.{Kind}

-- what is stated of truth values is a sequent, over what is taken
stated-IsSequent : (conclusion : Term) (hypotheses : List Term) → list_all (is_of_type bool) (conclusion ∷ hypotheses) ≡ true
    → IsSequent (stated hypotheses conclusion)
stated-IsSequent conclusion hypotheses e =
    let h = and_parts (is_of_type bool conclusion) (list_all (is_of_type bool) hypotheses) e in
    record {
      no_repeats = distinct-IsDistinct term_eq (symmetric term_eq term_eq-Decides) hypotheses;
      hypotheses = union-All (λ t. HasType t bool) term_eq hypotheses [] (tt {0})
          (list_all-All (is_of_type bool) (λ t. HasType t bool) (of_type bool) hypotheses h.1);
      conclusion = of_type bool conclusion h.0;
    }

stated-taken : (m : List Made) (conclusion : Term) (hypotheses : List Term) → IsTermObject m conclusion → AllByRecursion (IsTermObject m) hypotheses
    → TermsTaken (symbols_of m) (stated hypotheses conclusion)
stated-taken m conclusion hypotheses c hs = record {
  hypotheses = union-All (TermTaken (symbols_of m)) term_eq hypotheses [] (tt {0})
      (All-weaker (IsTermObject m) (TermTaken (symbols_of m)) (λ t h. h.taken) hypotheses hs);
  conclusion = c.taken;
}

-- Past its last step a proof has no sequent, so a typed conclusion is that of a step.
past : (m : List Made) (i : ℕ) (s : Sequent) → HasType s.conclusion bool → within (sequent_at m i) s ≡ true → length (steps_of m) ≤ i → ⊥
past m i s h e l =
    let nothing : Sequent = record { hypotheses = []; conclusion = Term.bound 0 } in
    let is : sequent_at m i ≡ nothing = get_or_past (sequents_of m) i nothing (rw (length-map) l) in
    let alike : term_eq (Term.bound 0) s.conclusion ≡ true = subst (λ r. within r s ≡ true) is e in
    let loose : HasType (Term.bound 0) bool = subst (λ t. HasType t bool) (sym ((term_eq-Decides (Term.bound 0) s.conclusion).0 alike)) h in
    absurd (cc)

early : (m : List Made) (i : ℕ) (s : Sequent) → HasType s.conclusion bool → within (sequent_at m i) s ≡ true → i < length (steps_of m)
early m i s h e = elim (cases_lt i (length (steps_of m))) [ inl l ↦ l | inr l ↦ absurd (past m i s h e l) ]

find-passes : (p : ℕ → Bool) (xs : List ℕ) (x : ℕ) → find p xs ≡ Some x → p x ≡ true
find-passes p [] x e = absurd (cc)
find-passes p (y ∷ ys) x e = go (p y) refl (λ f. find-passes p ys x f) e
  where
    go : (b : Bool) → p y ≡ b → (find p ys ≡ Some x → p x ≡ true) → cond b (Some y) (find p ys) ≡ Some x → p x ≡ true
    go true q later e = let same : y ≡ x = cc in ap p (sym same) ∙ q
    go false q later e = later e

first-passes : (p : ℕ → Bool) (xs ys : List ℕ) (i : ℕ) → option_or (find p xs) (find p ys) ≡ Some i → p i ≡ true
first-passes p xs ys i e = go (find p xs) refl e
  where
    go : (o : Option ℕ) → find p xs ≡ o → option_or o (find p ys) ≡ Some i → p i ≡ true
    go None q e = find-passes p ys i e
    go (Some j) q e = find-passes p xs i (q ∙ e)

-- a restatement of a step follows
restated : (s : State) (i : ℕ) (sequent : Sequent) → IsSequent sequent → within (sequent_at s.made i) sequent ≡ true → TermsTaken (symbols_of s.made) sequent
    → IsNext s.made (restatement i sequent)
restated s i sequent is w t =
    let l = early s.made i sequent is.conclusion w in
    record {
      premises = sequent_at s.made i ∷ [];
      earlier = (at_step s.made i l, tt {0});
      rule = rule.Rule.restate is w;
      defined = tt {0};
      parameters = t;
      law =
          tt {0};
    }

-- the step of an assumption
abbrev pub assumption : Sequent → Step
assumption sequent = step_by by_rule.Axiom [] (Parameters.sequent sequent) sequent

-- what is assumed, and what is restated, with what is judged of it
pub record Assumed (hypotheses : List Term) (conclusion : Term) (x : Step) : Type 0 where
  pub bools : list_all (is_of_type bool) (conclusion ∷ hypotheses) ≡ true
  pub is : x ≡ assumption (stated hypotheses conclusion)

pub record Restated (made : List Made) (i : ℕ) (hypotheses : List Term) (conclusion : Term) (x : Step) : Type 0 where
  pub bools : list_all (is_of_type bool) (conclusion ∷ hypotheses) ≡ true
  pub weaker : within (sequent_at made i) (stated hypotheses conclusion) ≡ true
  pub is : x ≡ restatement i (stated hypotheses conclusion)

the_step : (x y : Step) → ◌≡◌ {A = Result Step Kind} (Ok y) (Ok x) → x ≡ y
the_step x y e = cc

pub axiom_step-made : (hypotheses : List Term) (conclusion : Term) (x : Step) → axiom_step hypotheses conclusion ≡ Ok x → Assumed hypotheses conclusion x
axiom_step-made hypotheses conclusion x e =
    let bools = passed (all_bool (conclusion ∷ hypotheses)) _ x e in
    record { bools = demanded (list_all (is_of_type bool) (conclusion ∷ hypotheses)) NotBool bools.0 bools.1; is = the_step x _ bools.2 }

pub restate_step-made : (made : List Made) (i : ℕ) (hypotheses : List Term) (conclusion : Term) (x : Step) → restate_step made i hypotheses conclusion ≡ Ok x
    → Restated made i hypotheses conclusion x
restate_step-made made i hypotheses conclusion x e =
    let bools = passed (all_bool (conclusion ∷ hypotheses)) _ x e in
    let weaker = passed (follows (sequent_at made i) (stated hypotheses conclusion)) _ x bools.2 in
    record {
      bools = demanded (list_all (is_of_type bool) (conclusion ∷ hypotheses)) NotBool bools.0 bools.1;
      weaker = demanded (within (sequent_at made i) (stated hypotheses conclusion)) NotTheSequent weaker.0 weaker.1;
      is = the_step x _ weaker.2;
    }

-- what meets a step, of those that are known
abbrev pub meeting : State → Step → Option ℕ
meeting s x = option_or (first_same s s.pool x.sequent) (first_same s s.assumptions x.sequent)

pub meet-sound : (s : State) (hypotheses : List Term) (conclusion : Term) (x : Step) (i : ℕ) → HasSoundRun s → AllByRecursion (IsTermObject s.made) hypotheses
    → IsTermObject s.made conclusion → axiom_step hypotheses conclusion ≡ Ok x → meeting s x ≡ Some i → SequentWithin x.sequent
    → HasSoundRun (with_step s (restatement i x.sequent))
meet-sound s hypotheses conclusion x i g h k e m within =
    let y = axiom_step-made hypotheses conclusion x e in
    let sequent = stated hypotheses conclusion in
    let known : ℕ → Bool = λ i. same (sequent_at s.made i) sequent in
    let weaker = (and_parts _ _ (first-passes known s.pool s.assumptions i (subst (λ z. meeting s z ≡ Some i) y.is m))).0 in
    subst (λ (z : Step). HasSoundRun (with_step s (restatement i z.sequent))) (sym y.is) (infer-more s.made s.exports s.assumptions (restatement i sequent) g
    (restated s i sequent (stated-IsSequent conclusion hypotheses y.bools) weaker (stated-taken s.made conclusion hypotheses k h)) refl
    (subst (λ (z : Step). SequentWithin z.sequent) y.is within))

pub assume-sound : (s : State) (hypotheses : List Term) (conclusion : Term) (x : Step) → HasSoundRun s → AllByRecursion (IsTermObject s.made) hypotheses
    → IsTermObject s.made conclusion → axiom_step hypotheses conclusion ≡ Ok x → SequentWithin x.sequent
    → HasSoundRun (record (with_step s x) { assumptions = s.assumptions ++ next_step s ∷ [] })
assume-sound s hypotheses conclusion x g h k e within =
    let y = axiom_step-made hypotheses conclusion x e in
    let is = stated-IsSequent conclusion hypotheses y.bools in
    let next : IsNext s.made (assumption (stated hypotheses conclusion)) =
    record {
      premises = [];
      earlier = tt {0};
      rule = rule.Rule.recorded is;
      defined = tt {0};
      parameters = stated-taken s.made conclusion hypotheses k h;
      law =
          tt {0};
    } in
    assume-more s.made s.exports s.assumptions x g (subst (IsNext s.made) (sym y.is) next) (ap (λ (z : Step). infers z.kind) y.is) within

pub export-sound : (s : State) (i : ℕ) (hypotheses : List Term) (conclusion : Term) (x : Step) → HasSoundRun s → AllByRecursion (IsTermObject s.made) hypotheses
    → IsTermObject s.made conclusion → restate_step s.made i hypotheses conclusion ≡ Ok x → SequentWithin x.sequent
    → HasSoundRun (record (with_step s x) { exports = s.exports ++ next_step s ∷ [] })
export-sound s i hypotheses conclusion x g h k e within =
    let y = restate_step-made s.made i hypotheses conclusion x e in
    let next = restated s i (stated hypotheses conclusion) (stated-IsSequent conclusion hypotheses y.bools) y.weaker
    (stated-taken s.made conclusion hypotheses k h) in
    let m = infer-more s.made s.exports s.assumptions x g (subst (IsNext s.made) (sym y.is) next) (ap (λ (z : Step). infers z.kind) y.is) within in
    record {
      proof = m.proof;
      over = m.over;
      exports = pushed 0 (next_step s) (length (steps_of (s.made ++ Made.step x ∷ []))) s.exports (new-theorem s.made x) g.exports;
      assumptions = m.assumptions;
    }
