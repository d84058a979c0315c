-- Each inference rule's word concludes what the rule gives, from what is written before it.
use Rattle.std.proofs.Common.{◌≡◌, ℕ, Bool, true, false, List, [], ◌∷◌, map, Ok, refl, sym, ap, ap₂, subst, ◌∙◌, Result}
use Rattle.hol_spec.specs.Primitives.{bool, function}
use Rattle.hol_spec.specs.Terms.{Term, equation}
use Rattle.hol_spec.specs.Sequents.{Sequent}
use Rattle.hol_spec.specs.Limits.{SequentWithin}
use Rattle.hol_spec.specs.Rules.{Parameters, Rule, derived}
use Rattle.hol_spec.specs.Rules as rule
use Rattle.hol_spec.specs.Proofs.{Made, sequent_at, Step}
use Rattle.hol_spec.specs.declared.StepKind.{StepKind}
use Rattle.hol_spec.specs.declared.StepKind.TheVariants.{Refl, Assume, EqMp, AbsThm, AppThm, DeductAntisym, BetaConv, Sym, Trans, ProveHyp, Subst, Axiom, Restate, DefineConst, DefineConstList, FirstLaw, SecondLaw}
use Rattle.article_spec.specs.State.{Object}
use Rattle.article_spec.specs.Changes.{with_theorem, by_step}
use Rattle.article_spec.specs.RuleSteps.{step_by, refl_step, assume_step, eq_mp_step, abs_thm_step, app_thm_step, deduct_antisym_step, beta_conv_step, sym_step, trans_step, prove_hyp_step, subst_step, substituted}
use Rattle.article_spec.specs.Step.{obey}
use Rattle.article_trial_laws.specs.TrialSteps.{Dictionary}
use Rattle.article_write_spec.specs.WrittenSteps.{word_of}
use Rattle.article_write_laws.specs.Scenes.{Scene, body_state}
use Rattle.article_write_laws.specs.Listings.{pushed}
use Rattle.article_write_laws.specs.GivenWriting.{given_stack, substitution-read}
use Rattle.article_write_laws.specs.RuleWords.{concluded, refl-step, assume-step, eq_mp-step, abs_thm-step, app_thm-step, beta_conv-step, sym-step, trans-step, subst-step}
use Rattle.common.specs.declared.faults.Kind.{Kind}

-- the rules that have a word of their own and define nothing
abbrev pub is_inference : StepKind → Bool
is_inference Axiom = false
is_inference Restate = false
is_inference DefineConst = false
is_inference DefineConstList = false
is_inference FirstLaw = false
is_inference SecondLaw = false
is_inference kind = true

-- theorems that say one sequent, or two
record One (says : ℕ → Sequent) (one : Sequent) (is : List ℕ) : Type 0 where
  i : ℕ
  numbers : is ≡ i ∷ []
  first : says i ≡ one

record Two (says : ℕ → Sequent) (one two : Sequent) (is : List ℕ) : Type 0 where
  i : ℕ
  j : ℕ
  numbers : is ≡ i ∷ j ∷ []
  first : says i ≡ one
  second : says j ≡ two

none-of : (says : ℕ → Sequent) (is : List ℕ) → [] ≡ map says is → is ≡ []
none-of says [] e = refl
none-of says (i ∷ is) e = absurd (cc)

one-of : (says : ℕ → Sequent) (one : Sequent) (is : List ℕ) → one ∷ [] ≡ map says is → One says one is
one-of says one [] e = absurd (cc)
one-of says one (i ∷ []) e = record { i = i; numbers = refl; first = cc }
one-of says one (i ∷ j ∷ is) e = absurd (cc)

two-of : (says : ℕ → Sequent) (one two : Sequent) (is : List ℕ) → one ∷ two ∷ [] ≡ map says is → Two says one two is
two-of says one two [] e = absurd (cc)
two-of says one two (i ∷ []) e = absurd (cc)
two-of says one two (i ∷ j ∷ []) e = record { i = i; j = j; numbers = refl; first = cc; second = cc }
two-of says one two (i ∷ j ∷ k ∷ is) e = absurd (cc)

module _ (c : Scene) (d : Dictionary) (m : List Made) (stack : List Object) where
  -- the word of a rule, on theorems and what it is given, concludes a sequent
  abbrev Concludes : StepKind → Parameters → List ℕ → Sequent → Type 0
  Concludes kind g is s = SequentWithin s → obey (body_state c d m (pushed (map Object.theorem is) (given_stack g stack))) (word_of kind) ≡ Ok
      (with_theorem (body_state c d m stack) (step_by kind is g s))

  -- it does so where its rule makes the step of the sequent
  by_step-word : (kind : StepKind) (g : Parameters) (is : List ℕ) (s : Sequent) (rule : Result Step Kind)
      → obey (body_state c d m (pushed (map Object.theorem is) (given_stack g stack))) (word_of kind) ≡ by_step rule (body_state c d m stack)
      → rule ≡ Ok (step_by kind is g s) → Concludes kind g is s
  by_step-word kind g is s rule e f w = e ∙ ap (λ r. by_step r (body_state c d m stack)) f ∙ concluded (body_state c d m stack) (step_by kind is g s) w

  pub inference-word : (kind : StepKind) (ss : List Sequent) (g : Parameters) (s : Sequent) → is_inference kind ≡ true → Rule kind ss g s → (is : List ℕ)
      → ss ≡ map (sequent_at m) is → Concludes kind g is s
  inference-word kind ss g s k (Rule.refl {t = t} {a = a} h e) is p =
      subst (λ l. Concludes Refl (Parameters.term t) l s) (sym (none-of (sequent_at m) is p))
      (subst (Concludes Refl (Parameters.term t) []) (sym e) (by_step-word Refl _ [] _ (refl_step t) refl (refl-step t a h)))
  inference-word kind ss g s k (Rule.assume {p = t} h e) is p =
      subst (λ l. Concludes Assume (Parameters.term t) l s) (sym (none-of (sequent_at m) is p))
      (subst (Concludes Assume (Parameters.term t) []) (sym e) (by_step-word Assume _ [] _ (assume_step t) refl (assume-step t h)))
  inference-word kind ss g s k (Rule.eq_mp {p = u} {q = v} {one = one} {two = two} f h e) is p =
      let w = two-of (sequent_at m) one two is p in
      subst (λ l. Concludes EqMp Parameters.nothing l s) (sym w.numbers)
      (subst (Concludes EqMp Parameters.nothing (w.i ∷ w.j ∷ [])) (ap₂ (λ a b. derived (rule.joined a.hypotheses b.hypotheses) v) w.first w.second ∙ sym e)
      (by_step-word EqMp Parameters.nothing (w.i ∷ w.j ∷ []) _ (eq_mp_step m w.i w.j) refl
      (eq_mp-step m w.i w.j u v (ap (λ a. a.conclusion) w.first ∙ f) (ap (λ a. a.conclusion) w.second ∙ h))))
  inference-word kind ss g s k (Rule.abs_thm {v = v} {b = b} {t = t} {u = u} {one = one} f h e) is p =
      let w = one-of (sequent_at m) one is p in
      subst (λ l. Concludes AbsThm (Parameters.variable v) l s) (sym w.numbers)
      (subst (Concludes AbsThm (Parameters.variable v) (w.i ∷ []))
      (ap (λ a. derived a.hypotheses (equation (function v.1 b) (rule.abstraction v t) (rule.abstraction v u))) w.first ∙ sym e)
      (by_step-word AbsThm (Parameters.variable v) (w.i ∷ []) _ (abs_thm_step m v w.i) refl
      (abs_thm-step m w.i v b t u (ap (λ a. a.conclusion) w.first ∙ f) (ap (λ a. rule.is_free_in v a.hypotheses) w.first ∙ h))))
  inference-word kind ss g s k (Rule.app_thm {a = a} {b = b} {f = f} {g = h} {x = x} {y = y} {one = one} {two = two} i j e) is p =
      let w = two-of (sequent_at m) one two is p in
      subst (λ l. Concludes AppThm Parameters.nothing l s) (sym w.numbers)
      (subst (Concludes AppThm Parameters.nothing (w.i ∷ w.j ∷ []))
      (ap₂ (λ z r. derived (rule.joined z.hypotheses r.hypotheses) (equation b (Term.app f x) (Term.app h y))) w.first w.second ∙ sym e)
      (by_step-word AppThm Parameters.nothing (w.i ∷ w.j ∷ []) _ (app_thm_step m w.i w.j) refl
      (app_thm-step m w.i w.j a b f h x y (ap (λ z. z.conclusion) w.first ∙ i) (ap (λ z. z.conclusion) w.second ∙ j))))
  inference-word kind ss g s k (Rule.deduct_antisym {one = one} {two = two} e) is p =
      let w = two-of (sequent_at m) one two is p in
      subst (λ l. Concludes DeductAntisym Parameters.nothing l s) (sym w.numbers)
      (subst (Concludes DeductAntisym Parameters.nothing (w.i ∷ w.j ∷ []))
      (ap₂ (λ a b. derived (rule.joined (rule.removed a.hypotheses b.conclusion) (rule.removed b.hypotheses a.conclusion))
      (equation bool a.conclusion b.conclusion)) w.first w.second ∙ sym e)
      (by_step-word DeductAntisym Parameters.nothing (w.i ∷ w.j ∷ []) _ (deduct_antisym_step m w.i w.j) refl refl))
  inference-word kind ss g s k (Rule.beta_conv {a = a} {b = b} {t = t} {u = u} h e) is p =
      subst (λ l. Concludes BetaConv (Parameters.term (Term.app (Term.lam a t) u)) l s) (sym (none-of (sequent_at m) is p))
      (subst (Concludes BetaConv (Parameters.term (Term.app (Term.lam a t) u)) []) (sym e)
      (by_step-word BetaConv _ [] _ (beta_conv_step (Term.app (Term.lam a t) u)) refl (beta_conv-step a b t u h)))
  inference-word kind ss g s k (Rule.sym {a = a} {x = x} {y = y} {one = one} f e) is p =
      let w = one-of (sequent_at m) one is p in
      subst (λ l. Concludes Sym Parameters.nothing l s) (sym w.numbers)
      (subst (Concludes Sym Parameters.nothing (w.i ∷ [])) (ap (λ z. derived z.hypotheses (equation a y x)) w.first ∙ sym e)
      (by_step-word Sym Parameters.nothing (w.i ∷ []) _ (sym_step m w.i) refl (sym-step m w.i a x y (ap (λ z. z.conclusion) w.first ∙ f))))
  inference-word kind ss g s k (Rule.trans {a = a} {x = x} {y = y} {z = z} {one = one} {two = two} f h e) is p =
      let w = two-of (sequent_at m) one two is p in
      subst (λ l. Concludes Trans Parameters.nothing l s) (sym w.numbers)
      (subst (Concludes Trans Parameters.nothing (w.i ∷ w.j ∷ []))
      (ap₂ (λ r t. derived (rule.joined r.hypotheses t.hypotheses) (equation a x z)) w.first w.second ∙ sym e)
      (by_step-word Trans Parameters.nothing (w.i ∷ w.j ∷ []) _ (trans_step m w.i w.j) refl
      (trans-step m w.i w.j a x y z (ap (λ r. r.conclusion) w.first ∙ f) (ap (λ r. r.conclusion) w.second ∙ h))))
  inference-word kind ss g s k (Rule.prove_hyp {one = one} {two = two} e) is p =
      let w = two-of (sequent_at m) one two is p in
      subst (λ l. Concludes ProveHyp Parameters.nothing l s) (sym w.numbers)
      (subst (Concludes ProveHyp Parameters.nothing (w.i ∷ w.j ∷ []))
      (ap₂ (λ a b. derived (rule.joined a.hypotheses (rule.removed b.hypotheses a.conclusion)) b.conclusion) w.first w.second ∙ sym e)
      (by_step-word ProveHyp Parameters.nothing (w.i ∷ w.j ∷ []) _ (prove_hyp_step m w.i w.j) refl refl))
  inference-word kind ss g s k (Rule.subst {types = types} {terms = terms} {one = one} h e) is p =
      let w = one-of (sequent_at m) one is p in
      subst (λ l. Concludes Subst (Parameters.substitution types terms) l s) (sym w.numbers)
      (subst (Concludes Subst (Parameters.substitution types terms) (w.i ∷ [])) (ap (substituted types terms) w.first ∙ sym e)
      (by_step-word Subst (Parameters.substitution types terms) (w.i ∷ []) _ (subst_step m types terms w.i) (rw (substitution-read types terms) refl)
      (subst-step m w.i types terms h)))
  inference-word kind ss g s k (Rule.recorded h) is p = absurd (cc)
  inference-word kind ss g s k (Rule.restate h w) is p = absurd (cc)
  inference-word kind ss g s k (Rule.define_const h e) is p = absurd (cc)
  inference-word kind ss g s k (Rule.define_const_list h l e) is p = absurd (cc)
  inference-word kind ss g s k (Rule.first_law h e) is p = absurd (cc)
  inference-word kind ss g s k (Rule.second_law h e) is p = absurd (cc)
  inference-word kind ss g s k (Rule.first_law_free h e) is p = absurd (cc)
  inference-word kind ss g s k (Rule.second_law_free h e) is p = absurd (cc)
