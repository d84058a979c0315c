-- The words that infer keep a state sound: each makes an instance of its rule.
use Rattle.std.proofs.Common.{◌≡◌, ℕ, ◌<◌, List, [], ◌∷◌, length, true, Option, None, Some, Ok, refl, sym, ap, subst, ◌∙◌, option_to_list, option_map, Result}
use Rattle.std.specs.Prelude.{not}
use Rattle.std.specs.Option.{ok_or}
use Rattle.std.specs.List.{AllByRecursion, IsAmong, list_all}
use Rattle.std.proofs.lemmas.Option.{same_Some}
use Rattle.std.proofs.lemmas.Bool.{not-true}
use Rattle.hol_spec.specs.Types.{HolType}
use Rattle.hol_laws.specs.TypeLaws.{type_eq-Decides}
use Rattle.hol_spec.specs.Primitives.{bool, function}
use Rattle.hol_spec.specs.Terms.{Term, Variable, app, lam, term_eq, type_of, HasType, equation, application_type}
use Rattle.hol_laws.specs.TermLaws.{term_eq-Decides}
use Rattle.hol_spec.specs.TermSubstitution.{TermPairs, AreFitting}
use Rattle.hol_laws.specs.TermSubstitutionLaws.{application_type-is}
use Rattle.hol_spec.specs.Sequents.{Sequent, IsSequent}
use Rattle.common.specs.declared.faults.Kind.TheVariants.{NotBool, NotEquation, TypeMismatch, NotAlike, VarInHyps, NotRedex, BadSubst}
use Rattle.hol_spec.specs.Equations.{Equation, equation_parts}
use Rattle.hol_proof_laws.specs.EquationLaws.{equation_parts-is, equation-sides}
use Rattle.hol_spec.specs.Taken.{TypeTaken, TermTaken, ParametersTaken}
use Rattle.hol_spec.specs.Derivations.{definitions_used, infers, type_definition_in}
use Rattle.hol_laws.specs.Members.{All-weaker}
use Rattle.hol_spec.specs.Rules.{Parameters, derived, is_free_in, Rule}
use Rattle.hol_spec.specs.Rules as rule
use Rattle.hol_spec.specs.Proofs.{Step, symbols_of, steps_of, sequents_of, sequent_at, definitions_of, ArePremises, Made, IsLawOfDefinition}
use Rattle.hol_proof_laws.specs.ProofGrowth.{All-get, proof-sequents}
use Rattle.hol_spec.specs.declared.StepKind.TheVariants as by_rule
use Rattle.article_spec.specs.State.{State}
use Rattle.article_spec.specs.Conditions.{demand, typed, has_type, is_of_type, equation_of}
use Rattle.article_spec.specs.RuleSteps.{contracted, refl_step, assume_step, eq_mp_step, abs_thm_step, app_thm_step, deduct_antisym_step, beta_conv_step, sym_step, trans_step, prove_hyp_step, subst_step}
use Rattle.article_laws.specs.OperandParts.{IsTypePair, IsTermPair}
use Rattle.article_laws.specs.Soundness.{IsTermObject, sound_parts, HasSoundRun, IsStepNumber}
use Rattle.article_laws.specs.SoundStates.{bound, passed, demanded, found, list_all-All, at_step, IsNext}
use Rattle.hol_spec.specs.Definitions.{TypeNames, Definition}
use Rattle.hol_spec.specs.declared.StepKind.{StepKind}
use Rattle.hol_spec.specs.TypeDefinitions.{IsTypeDefinition}
use Rattle.hol_spec.specs.Substitution.{TypePairs}
use Rattle.common.specs.declared.faults.Kind.{Kind}
use Rattle.article_laws.specs.Inferred.{Inferred}
use Rattle.article_laws.specs.Inferred.Inferred.{by_refl, by_assume, by_eq_mp, by_abs_thm, by_app_thm, by_deduct_antisym, by_beta_conv, by_sym, by_trans, by_prove_hyp, by_subst}

-- a theorem on the stack says a sequent
pub sequent_at-IsSequent : (s : State) (i : ℕ) → HasSoundRun s → i < length (steps_of s.made) → IsSequent (sequent_at s.made i)
sequent_at-IsSequent s i g l = All-get IsSequent (sequents_of s.made) i (sequent_at s.made i) (proof-sequents s.made g.proof) (at_step s.made i l)

pub typed-is : (t : Term) (a : HolType) → typed t ≡ Ok a → HasType t a
typed-is t a e = found (type_of t) TypeMismatch a e

pub of_type : (a : HolType) (t : Term) → is_of_type a t ≡ true → HasType t a
of_type a t e = go (type_of t) e
  where
    go : (o : Option HolType) → has_type o a ≡ true → o ≡ Some a
    go None e = absurd (cc)
    go (Some b) e = ap Some ((type_eq-Decides b a).0 e)

pub equation_is : (s : Sequent) (e : Equation) → equation_of s ≡ Ok e → s.conclusion ≡ equation e.ty e.left e.right
equation_is s e h = equation_parts-is s.conclusion e (found (equation_parts s.conclusion) NotEquation e h)

-- what rests on no definition is no law of a type definition
no_definition : (names : TypeNames) (c : HolType) (f : Term) (one : Sequent) → IsTypeDefinition names c f one → type_definition_in names one.conclusion ≡ [] → ⊥
no_definition names c f one d u =
    let e : option_to_list (option_map (λ b. Definition.type_operator names b f) (Some c)) ≡ [] =
    ap (λ o. option_to_list (option_map (λ b. Definition.type_operator names b f) o)) (sym d.typed) ∙ ap (type_definition_in names) (sym d.holds) ∙ u in
    absurd (cc)

lawless : (before : List Made) (kind : StepKind) (ks : List ℕ) (ss : List Sequent) (p : Parameters) (s : Sequent) → Rule kind ss p s
    → definitions_used kind ss p ≡ [] → IsLawOfDefinition before kind ks p
lawless before kind ks ss p s (rule.Rule.refl h e) u = tt
lawless before kind ks ss p s (rule.Rule.assume h e) u = tt
lawless before kind ks ss p s (rule.Rule.eq_mp e f i) u = tt
lawless before kind ks ss p s (rule.Rule.abs_thm e f i) u = tt
lawless before kind ks ss p s (rule.Rule.app_thm e f i) u = tt
lawless before kind ks ss p s (rule.Rule.deduct_antisym e) u = tt
lawless before kind ks ss p s (rule.Rule.beta_conv h e) u = tt
lawless before kind ks ss p s (rule.Rule.sym e f) u = tt
lawless before kind ks ss p s (rule.Rule.trans e f i) u = tt
lawless before kind ks ss p s (rule.Rule.prove_hyp e) u = tt
lawless before kind ks ss p s (rule.Rule.subst h e) u = tt
lawless before kind ks ss p s (rule.Rule.recorded h) u = tt
lawless before kind ks ss p s (rule.Rule.restate h w) u = tt
lawless before kind ks ss p s (rule.Rule.define_const h e) u = tt
lawless before kind ks ss p s (rule.Rule.define_const_list d l e) u = tt
lawless before kind ks ss p s (rule.Rule.first_law {names = names} {c = c} {f = f} {one = one} d e) u = absurd (no_definition names c f one d u)
lawless before kind ks ss p s (rule.Rule.second_law {names = names} {c = c} {f = f} {one = one} d e) u = absurd (no_definition names c f one d u)
lawless before kind ks ss p s (rule.Rule.first_law_free {names = names} {c = c} {f = f} {one = one} d e) u = absurd (no_definition names c f one d u)
lawless before kind ks ss p s (rule.Rule.second_law_free {names = names} {c = c} {f = f} {one = one} d e) u = absurd (no_definition names c f one d u)

-- a step infers, and what it asks is so
pub record Follows (m : List Made) (x : Step) : Type 0 where
  pub next : IsNext m x
  pub inference : infers x.kind ≡ true

pub the_step : (m : List Made) (x y : Step) → ◌≡◌ {A = Result Step Kind} (Ok x) (Ok y) → Follows m x → Follows m y
the_step m x y e h = let f : x ≡ y = cc in subst (Follows m) f h

contracted-rule : (t u : Term) (a : HolType) → contracted t ≡ Some u → HasType t a → Rule by_rule.BetaConv [] (Parameters.term t) (derived [] (equation a t u))
contracted-rule (app (lam b c) x) u a e h = rule.Rule.beta_conv h (ap (λ w. derived [] (equation a (app (lam b c) x) w)) (sym (same_Some _ _ e)))
contracted-rule t u a e h = absurd (cc)

fitting : (terms : TermPairs) → AllByRecursion (λ (p : Variable × Term). HasType p.1 p.0.1) terms → AreFitting terms
fitting [] h = tt
fitting (p ∷ ps) h = (h.0, fitting ps h.1)

-- each rule's step follows
module _ (s : State) (g : HasSoundRun s) where
  -- on no premise, on one and on two
  on_none : (x y : Step) → ◌≡◌ {A = Result Step Kind} (Ok x) (Ok y) → infers x.kind ≡ true → x.premises ≡ [] → Rule x.kind [] x.parameters x.sequent
      → definitions_used x.kind [] x.parameters ≡ [] → ParametersTaken (symbols_of s.made) x.parameters → Follows s.made y
  on_none x y e inference none r u p = the_step s.made x y e (record {
    next = record {
      premises = [];
      earlier = subst (λ ns. ArePremises (sequents_of s.made) ns []) (sym none) (tt {0});
      rule = r;
      defined =
          subst (AllByRecursion (IsAmong (definitions_of s.made))) (sym u) (tt {0});
      parameters = p;
      law =
          lawless s.made x.kind x.premises _ x.parameters x.sequent r u;
    };
    inference = inference;
  })

  on_one : (x y : Step) → ◌≡◌ {A = Result Step Kind} (Ok x) (Ok y) → infers x.kind ≡ true → (i : ℕ) → i < length (steps_of s.made) → x.premises ≡ i ∷ []
      → Rule x.kind (sequent_at s.made i ∷ []) x.parameters x.sequent → definitions_used x.kind (sequent_at s.made i ∷ []) x.parameters ≡ []
      → ParametersTaken (symbols_of s.made) x.parameters → Follows s.made y
  on_one x y e inference i l one r u p = the_step s.made x y e (record {
    next = record {
      premises = sequent_at s.made i ∷ [];
      earlier =
          subst (λ ns. ArePremises (sequents_of s.made) ns (sequent_at s.made i ∷ [])) (sym one) (at_step s.made i l, tt {0});
      rule = r;
      defined =
          subst (AllByRecursion (IsAmong (definitions_of s.made))) (sym u) (tt {0});
      parameters = p;
      law =
          lawless s.made x.kind x.premises _ x.parameters x.sequent r u;
    };
    inference = inference;
  })

  on_two : (x y : Step) → ◌≡◌ {A = Result Step Kind} (Ok x) (Ok y) → infers x.kind ≡ true → (i j : ℕ) → i < length (steps_of s.made)
      → j < length (steps_of s.made) → x.premises ≡ i ∷ j ∷ []
      → Rule x.kind (sequent_at s.made i ∷ sequent_at s.made j ∷ []) x.parameters x.sequent
      → definitions_used x.kind (sequent_at s.made i ∷ sequent_at s.made j ∷ []) x.parameters ≡ [] → ParametersTaken (symbols_of s.made) x.parameters
      → Follows s.made y
  on_two x y e inference i j l k two r u p = the_step s.made x y e (record {
    next = record {
      premises = sequent_at s.made i ∷ sequent_at s.made j ∷ [];
      earlier = subst (λ ns. ArePremises (sequents_of s.made) ns (sequent_at s.made i ∷ sequent_at s.made j ∷ [])) (sym two)
          (at_step s.made i l, (at_step s.made j k, tt {0}));
      rule = r;
      defined = subst (AllByRecursion (IsAmong (definitions_of s.made))) (sym u) (tt {0});
      parameters = p;
      law = lawless s.made x.kind x.premises _ x.parameters x.sequent r u;
    };
    inference = inference;
  })

  refl-follows : (t : Term) (x : Step) → IsTermObject s.made t → refl_step t ≡ Ok x → Follows s.made x
  refl-follows t x h e =
      let a = bound (typed t) _ x e in
      on_none _ x a.2 refl refl (rule.Rule.refl (typed-is t a.0 a.1) refl) refl h.taken

  assume-follows : (p : Term) (x : Step) → IsTermObject s.made p → assume_step p ≡ Ok x → Follows s.made x
  assume-follows p x h e =
      let b = passed (demand (is_of_type bool p) NotBool) _ x e in
      on_none _ x b.2 refl refl (rule.Rule.assume (of_type bool p (demanded (is_of_type bool p) NotBool b.0 b.1)) refl) refl h.taken

  eq_mp-follows : (j i : ℕ) (x : Step) → IsStepNumber s.made j → IsStepNumber s.made i → eq_mp_step s.made i j ≡ Ok x → Follows s.made x
  eq_mp-follows j i x k l e =
      let one = sequent_at s.made i in
      let two = sequent_at s.made j in
      let q = bound (equation_of one) _ x e in
      let alike = passed (demand (term_eq two.conclusion q.0.left) NotAlike) _ x q.2 in
      let is = equation_is one q.0 q.1 in
      let same : two.conclusion ≡ q.0.left = (term_eq-Decides two.conclusion q.0.left).0 (demanded (term_eq two.conclusion q.0.left) NotAlike alike.0 alike.1)
      in
      let left_type : HasType q.0.left q.0.ty = (equation-sides q.0.ty q.0.left q.0.right one.conclusion is (sequent_at-IsSequent s i g l).conclusion).left in
      let truth : HasType q.0.left bool = subst (λ u. HasType u bool) same (sequent_at-IsSequent s j g k).conclusion in
      let ty : q.0.ty ≡ bool = same_Some _ _ (sym left_type ∙ truth) in
      on_two _ x alike.2 refl i j l k refl (rule.Rule.eq_mp (is ∙ ap (λ a. equation a q.0.left q.0.right) ty) same refl) refl (tt {0})

  abs_thm-follows : (i : ℕ) (v : Variable) (x : Step) → IsStepNumber s.made i → (sound_parts s.made).variable v → abs_thm_step s.made v i ≡ Ok x
      → Follows s.made x
  abs_thm-follows i v x l h e =
      let one = sequent_at s.made i in
      let q = bound (equation_of one) _ x e in
      let fresh = passed (demand (not (is_free_in v one.hypotheses)) VarInHyps) _ x q.2 in
      on_one _ x fresh.2 refl i l refl
      (rule.Rule.abs_thm (equation_is one q.0 q.1)
      (not-true (is_free_in v one.hypotheses) (demanded (not (is_free_in v one.hypotheses)) VarInHyps fresh.0 fresh.1)) refl) refl h.0

  app_thm-follows : (j i : ℕ) (x : Step) → IsStepNumber s.made j → IsStepNumber s.made i → app_thm_step s.made i j ≡ Ok x → Follows s.made x
  app_thm-follows j i x k l e =
      let one = sequent_at s.made i in
      let two = sequent_at s.made j in
      let f = bound (equation_of one) _ x e in
      let a = bound (equation_of two) _ x f.2 in
      let b = bound (ok_or (application_type (Some f.0.ty) (Some a.0.ty)) TypeMismatch) _ x a.2 in
      let parts = application_type-is (Some f.0.ty) (Some a.0.ty) b.0 (found (application_type (Some f.0.ty) (Some a.0.ty)) TypeMismatch b.0 b.1) in
      let functions : f.0.ty ≡ function parts.0 b.0 = same_Some _ _ parts.1.0 in
      let arguments : a.0.ty ≡ parts.0 = same_Some _ _ parts.1.1 in
      on_two _ x b.2 refl i j l k refl
      (rule.Rule.app_thm (equation_is one f.0 f.1 ∙ ap (λ a. equation a f.0.left f.0.right) functions)
      (equation_is two a.0 a.1 ∙ ap (λ b. equation b a.0.left a.0.right) arguments) refl) refl (tt {0})

  deduct_antisym-follows : (j i : ℕ) (x : Step) → IsStepNumber s.made j → IsStepNumber s.made i → deduct_antisym_step s.made i j ≡ Ok x → Follows s.made x
  deduct_antisym-follows j i x k l e = on_two _ x e refl i j l k refl (rule.Rule.deduct_antisym refl) refl (tt {0})

  beta_conv-follows : (t : Term) (x : Step) → IsTermObject s.made t → beta_conv_step t ≡ Ok x → Follows s.made x
  beta_conv-follows t x h e =
      let u = bound (ok_or (contracted t) NotRedex) _ x e in
      let a = bound (typed t) _ x u.2 in
      on_none _ x a.2 refl refl (contracted-rule t u.0 a.0 (found (contracted t) NotRedex u.0 u.1) (typed-is t a.0 a.1)) refl h.taken

  sym-follows : (i : ℕ) (x : Step) → IsStepNumber s.made i → sym_step s.made i ≡ Ok x → Follows s.made x
  sym-follows i x l e =
      let one = sequent_at s.made i in
      let q = bound (equation_of one) _ x e in
      on_one _ x q.2 refl i l refl (rule.Rule.sym (equation_is one q.0 q.1) refl) refl (tt {0})

  trans-follows : (j i : ℕ) (x : Step) → IsStepNumber s.made j → IsStepNumber s.made i → trans_step s.made i j ≡ Ok x → Follows s.made x
  trans-follows j i x k l e =
      let one = sequent_at s.made i in
      let two = sequent_at s.made j in
      let p = bound (equation_of one) _ x e in
      let q = bound (equation_of two) _ x p.2 in
      let alike = passed (demand (term_eq q.0.left p.0.right) NotAlike) _ x q.2 in
      let same : q.0.left ≡ p.0.right = (term_eq-Decides q.0.left p.0.right).0 (demanded (term_eq q.0.left p.0.right) NotAlike alike.0 alike.1) in
      let first = equation_is one p.0 p.1 in
      let second = equation_is two q.0 q.1 in
      let middle : HasType p.0.right p.0.ty = (equation-sides p.0.ty p.0.left p.0.right one.conclusion first (sequent_at-IsSequent s i g l).conclusion).right in
      let again : HasType q.0.left q.0.ty = (equation-sides q.0.ty q.0.left q.0.right two.conclusion second (sequent_at-IsSequent s j g k).conclusion).left in
      let ty : q.0.ty ≡ p.0.ty = same_Some _ _ (sym again ∙ ap type_of same ∙ middle) in
      on_two _ x alike.2 refl i j l k refl (rule.Rule.trans first (second ∙ (λ n. equation (ty n) (same n) q.0.right)) refl) refl (tt {0})

  prove_hyp-follows : (j i : ℕ) (x : Step) → IsStepNumber s.made j → IsStepNumber s.made i → prove_hyp_step s.made i j ≡ Ok x → Follows s.made x
  prove_hyp-follows j i x k l e = on_two _ x e refl i j l k refl (rule.Rule.prove_hyp refl) refl (tt {0})

  subst-follows : (i : ℕ) (p : TypePairs × TermPairs) (x : Step) → IsStepNumber s.made i → AllByRecursion (IsTypePair (sound_parts s.made)) p.0
      × AllByRecursion (IsTermPair (sound_parts s.made)) p.1
      → subst_step s.made p.0 p.1 i ≡ Ok x → Follows s.made x
  subst-follows i p x l h e =
      let fits = passed (demand (list_all (λ (q : Variable × Term). is_of_type q.0.1 q.1) p.1) BadSubst) _ x e in
      let all = list_all-All (λ (q : Variable × Term). is_of_type q.0.1 q.1) (λ q. HasType q.1 q.0.1) (λ q e. of_type q.0.1 q.1 e) p.1
      (demanded _ BadSubst fits.0 fits.1) in
      on_one _ x fits.2 refl i l refl (rule.Rule.subst (fitting p.1 all) refl) refl (
        All-weaker (IsTypePair (sound_parts s.made)) (λ q. TypeTaken (symbols_of s.made) q.1) (λ q h. h.1.0) p.0 h.0,
        All-weaker (IsTermPair (sound_parts s.made)) (λ q. TypeTaken (symbols_of s.made) q.0.1 × TermTaken (symbols_of s.made) q.1)
            (λ q h. (h.0.0, h.1.taken)) p.1 h.1,
      )

  -- so does each step that a word concludes by a rule
  pub follows : (x : Step) → Inferred (sound_parts s.made) s.made x → Follows s.made x
  follows x (by_refl t h e) = refl-follows t x h e
  follows x (by_assume t h e) = assume-follows t x h e
  follows x (by_eq_mp j i k l e) = eq_mp-follows j i x k l e
  follows x (by_abs_thm i v l h e) = abs_thm-follows i v x l h e
  follows x (by_app_thm j i k l e) = app_thm-follows j i x k l e
  follows x (by_deduct_antisym j i k l e) = deduct_antisym-follows j i x k l e
  follows x (by_beta_conv t h e) = beta_conv-follows t x h e
  follows x (by_sym i l e) = sym-follows i x l e
  follows x (by_trans j i k l e) = trans-follows j i x k l e
  follows x (by_prove_hyp j i k l e) = prove_hyp-follows j i x k l e
  follows x (by_subst i p l h e) = subst-follows i p x l h e
