-- The words that infer, define and state tell how what was made came about, where the objects are good.
use Rattle.std.proofs.Common.{◌≡◌, ℕ, Bool, true, false, not, cond, List, [], ◌∷◌, ◌++◌, map, Option, None, Some, Ok, refl, sym, inl, inr, Result, subst, ◌∙◌}
use Rattle.std.specs.Option.{ok_or, option_or}
use Rattle.std.specs.List.{AllByRecursion, list_any, list_all, find}
use Rattle.common.specs.declared.faults.Kind.{Kind}
use Rattle.common.specs.declared.faults.Kind.TheVariants.{NotBool, TypeMismatch, NotAlike, VarInHyps, NotRedex, BadSubst, NameTaken, NotClosed, ExtraTypeVars, BadDefinitionList}
use Rattle.hol_spec.specs.Names.{Name}
use Rattle.hol_spec.specs.Lists.{IsIn, distinct}
use Rattle.hol_spec.specs.Primitives.{bool}
use Rattle.hol_spec.specs.Terms.{Term, Variable, type_of, term_eq, application_type}
use Rattle.hol_spec.specs.Limits.{TypeWithin}
use Rattle.hol_spec.specs.Sequents.{Sequent, same}
use Rattle.hol_spec.specs.TermSubstitution.{TermPairs}
use Rattle.hol_spec.specs.Substitution.{TypePairs}
use Rattle.hol_spec.specs.Definitions.{Definition}
use Rattle.hol_spec.specs.DefinitionLists.{ConstantPairs, names_of, defining_equations, definitions_in, is_definition_list}
use Rattle.hol_spec.specs.Defining.{is_closed, has_type_variables_of}
use Rattle.hol_spec.specs.Symbols.{defined, is_taken_constant}
use Rattle.hol_spec.specs.Taken.{TypeTaken}
use Rattle.hol_spec.specs.Rules.{Parameters, is_free_in}
use Rattle.hol_spec.specs.Proofs.{Step, symbols_of, sequent_at, Made}
use Rattle.hol_laws.specs.ListLaws.{union-All}
use Rattle.hol_laws.specs.Members.{All-weaker}
use Rattle.article_spec.specs.State.{State}
use Rattle.article_spec.specs.Conditions.{demand, typed, is_of_type, equation_of}
use Rattle.article_spec.specs.Changes.{first_same}
use Rattle.article_spec.specs.RuleSteps.{contracted, stated, refl_step, assume_step, eq_mp_step, abs_thm_step, app_thm_step, deduct_antisym_step, beta_conv_step, sym_step, trans_step, prove_hyp_step, subst_step, define_const_step, define_const_list_step, restatement}
use Rattle.article_laws.specs.Binds.{bound, passed, demanded, found}
use Rattle.article_laws.specs.Inferred.{Inferred}
use Rattle.article_laws.specs.Inferred.Inferred.{by_refl, by_assume, by_eq_mp, by_abs_thm, by_app_thm, by_deduct_antisym, by_beta_conv, by_sym, by_trans, by_prove_hyp, by_subst}
use Rattle.article_laws.specs.OperandParts.{IsTypePair, IsTermPair, IsConstantPair}
use Rattle.article_write_laws.specs.ItemLaws.{IsWritableName}
use Rattle.article_write_laws.specs.BuiltSteps.{IsBuiltTerm, IsBuiltPair}
use Rattle.article_write_laws.specs.WritableDrafts.{TermNamed}
use Rattle.article_write_laws.specs.InferenceWords.{is_inference}
use Rattle.article_write_laws.specs.Histories.{History, IsGood}
use Rattle.article_write_laws.specs.Histories as histories
use Rattle.article_write_laws.specs.GoodStates.{IsGoodVariable, IsGoodTerm, told_parts}

nothing-good : IsGood Parameters.nothing
nothing-good = record { built = tt {0}; named = tt {0} }

term-is_good : (t : Term) → IsGoodTerm t → IsGood (Parameters.term t)
term-is_good t h = record { built = h.built; named = h.named }

-- a rule's step infers, and is given what is good
pub record InfersGood (x : Step) : Type 0 where
  pub kind : is_inference x.kind ≡ true
  pub given : IsGood x.parameters

the_step : (x y : Step) → ◌≡◌ {A = Result Step Kind} (Ok x) (Ok y) → x ≡ y
the_step x y e = cc

inferred : (x y : Step) → ◌≡◌ {A = Result Step Kind} (Ok x) (Ok y) → is_inference x.kind ≡ true → IsGood x.parameters → InfersGood y
inferred x y e kind good = subst InfersGood (the_step x y e) (record { kind = kind; given = good })

refl-good : (t : Term) (x : Step) → IsGoodTerm t → refl_step t ≡ Ok x → InfersGood x
refl-good t x h e = inferred _ x (bound (typed t) _ x e).2 refl (term-is_good t h)

assume-good : (p : Term) (x : Step) → IsGoodTerm p → assume_step p ≡ Ok x → InfersGood x
assume-good p x h e = inferred _ x (passed (demand (is_of_type bool p) NotBool) _ x e).2 refl (term-is_good p h)

beta_conv-good : (t : Term) (x : Step) → IsGoodTerm t → beta_conv_step t ≡ Ok x → InfersGood x
beta_conv-good t x h e =
    let u = bound (ok_or (contracted t) NotRedex) _ x e in
    inferred _ x (bound (typed t) _ x u.2).2 refl (term-is_good t h)

module _ (made : List Made) where
  eq_mp-good : (i j : ℕ) (x : Step) → eq_mp_step made i j ≡ Ok x → InfersGood x
  eq_mp-good i j x e =
      let q = bound (equation_of (sequent_at made i)) _ x e in
      inferred _ x (passed (demand (term_eq (sequent_at made j).conclusion q.0.left) NotAlike) _ x q.2).2 refl nothing-good

  abs_thm-good : (v : Variable) (i : ℕ) (x : Step) → IsGoodVariable v → abs_thm_step made v i ≡ Ok x → InfersGood x
  abs_thm-good v i x h e =
      let q = bound (equation_of (sequent_at made i)) _ x e in
      inferred _ x (passed (demand (not (is_free_in v (sequent_at made i).hypotheses)) VarInHyps) _ x q.2).2 refl (record { built = h.within; named = h.named })

  app_thm-good : (i j : ℕ) (x : Step) → app_thm_step made i j ≡ Ok x → InfersGood x
  app_thm-good i j x e =
      let f = bound (equation_of (sequent_at made i)) _ x e in
      let a = bound (equation_of (sequent_at made j)) _ x f.2 in
      inferred _ x (bound (ok_or (application_type (Some f.0.ty) (Some a.0.ty)) TypeMismatch) _ x a.2).2 refl nothing-good

  deduct_antisym-good : (i j : ℕ) (x : Step) → deduct_antisym_step made i j ≡ Ok x → InfersGood x
  deduct_antisym-good i j x e = inferred _ x e refl nothing-good

  sym-good : (i : ℕ) (x : Step) → sym_step made i ≡ Ok x → InfersGood x
  sym-good i x e = inferred _ x (bound (equation_of (sequent_at made i)) _ x e).2 refl nothing-good

  trans-good : (i j : ℕ) (x : Step) → trans_step made i j ≡ Ok x → InfersGood x
  trans-good i j x e =
      let p = bound (equation_of (sequent_at made i)) _ x e in
      let q = bound (equation_of (sequent_at made j)) _ x p.2 in
      inferred _ x (passed (demand (term_eq q.0.left p.0.right) NotAlike) _ x q.2).2 refl nothing-good

  prove_hyp-good : (i j : ℕ) (x : Step) → prove_hyp_step made i j ≡ Ok x → InfersGood x
  prove_hyp-good i j x e = inferred _ x e refl nothing-good

-- what `subst` puts is good
abbrev ArePairs : List Made → TypePairs × TermPairs → Type 0
ArePairs made p = AllByRecursion (IsTypePair (told_parts made)) p.0 × AllByRecursion (IsTermPair (told_parts made)) p.1

subst-good : (made : List Made) (p : TypePairs × TermPairs) (i : ℕ) (x : Step) → ArePairs made p → subst_step made p.0 p.1 i ≡ Ok x → InfersGood x
subst-good made p i x h e =
    let types = IsTypePair (told_parts made) in
    let terms = IsTermPair (told_parts made) in
    inferred _ x (passed (demand (list_all (λ (q : Variable × Term). is_of_type q.0.1 q.1) p.1) BadSubst) _ x e).2 refl (record {
      built = (
        All-weaker types (λ q. TypeWithin q.1) (λ q h. h.1.1.within) p.0 h.0,
        All-weaker terms IsBuiltPair (λ q h. record { variable = h.0.1.within; term = h.1.1.built }) p.1 h.1,
      );
      named = (All-weaker types _ (λ q h. (h.0, h.1.1.named)) p.0 h.0, All-weaker terms _ (λ q h. (h.0.1.named, h.1.1.named)) p.1 h.1);
    })

-- Each rule's step.
pub infers-good : (made : List Made) (x : Step) → Inferred (told_parts made) made x → InfersGood x
infers-good made x (by_refl t h e) = refl-good t x h.1 e
infers-good made x (by_assume t h e) = assume-good t x h.1 e
infers-good made x (by_eq_mp j i h k e) = eq_mp-good made i j x e
infers-good made x (by_abs_thm i v h k e) = abs_thm-good made v i x k.1 e
infers-good made x (by_app_thm j i h k e) = app_thm-good made i j x e
infers-good made x (by_deduct_antisym j i h k e) = deduct_antisym-good made i j x e
infers-good made x (by_beta_conv t h e) = beta_conv-good t x h.1 e
infers-good made x (by_sym i h e) = sym-good made i x e
infers-good made x (by_trans j i h k e) = trans-good made i j x e
infers-good made x (by_prove_hyp j i h k e) = prove_hyp-good made i j x e
infers-good made x (by_subst i p h k e) = subst-good made p i x k e

not-true : (b : Bool) → not b ≡ true → b ≡ false
not-true true e = absurd (cc)
not-true false e = refl

-- Definitions
module _ (made : List Made) (ax ex : List ℕ) (h : History made ax ex) where
  pub constant-told : (n : Name) (t : Term) (x : Step) → IsWritableName n → IsGoodTerm t → define_const_step made n t ≡ Ok x
      → History ((made ++ Made.symbol (defined (Definition.constant n t)) ∷ []) ++ Made.step x ∷ []) ax ex
  constant-told n t x k l e =
      let new = passed (demand (not (is_taken_constant (symbols_of made) n)) NameTaken) _ x e in
      let closed = passed (demand (is_closed t) NotClosed) _ x new.2 in
      let a = bound (typed t) _ x closed.2 in
      let variables = passed (demand (has_type_variables_of a.0 t) ExtraTypeVars) _ x a.2 in
      subst (λ (z : Step). History ((made ++ Made.symbol (defined (Definition.constant n t)) ∷ []) ++ Made.step z ∷ []) ax ex) (the_step _ x variables.2)
      (histories.History.constant n t a.0 h (found (type_of t) TypeMismatch a.0 a.1) (record { built = l.built; named = (k, l.named) }) refl)

  pub constants-told : (pairs : ConstantPairs) (i : ℕ) (x : Step) → AllByRecursion (IsConstantPair (told_parts made)) pairs → (told_parts made).step i
      → define_const_list_step made pairs i ≡ Ok x
      → History ((made ++ map Made.symbol (map defined (definitions_in pairs (sequent_at made i).hypotheses))) ++ Made.step x ∷ []) ax ex
  constants-told pairs i x k l e =
      let one = sequent_at made i in
      let equations = defining_equations pairs one.hypotheses in
      let new = passed (demand (not (list_any (is_taken_constant (symbols_of made)) (names_of pairs))) NameTaken) _ x e in
      let closed = passed (demand (list_all (λ (q : Variable × Term). is_closed q.1) equations) NotClosed) _ x new.2 in
      let variables = passed (demand (list_all (λ (q : Variable × Term). has_type_variables_of q.0.1 q.1) equations) ExtraTypeVars) _ x closed.2 in
      let list = passed (demand (is_definition_list pairs one) BadDefinitionList) _ x variables.2 in
      let own = IsConstantPair (told_parts made) in
      subst (λ (z : Step). History ((made ++ map Made.symbol (map defined (definitions_in pairs one.hypotheses))) ++ Made.step z ∷ []) ax ex)
      (the_step _ x list.2)
      (histories.History.constants i pairs h (not-true _ (demanded _ NameTaken new.0 new.1))
      (All-weaker own (λ (q : Name × Variable). TypeTaken (symbols_of made) q.1.1) (λ q j. j.1.0.0) pairs k) l
      (record {
        built = All-weaker own (λ (q : Name × Variable). TypeWithin q.1.1) (λ q j. j.1.1.within) pairs k;
        named = All-weaker own _ (λ q j. (j.0, j.1.1.named)) pairs k;
      }) refl)

-- What is stated
pub stated-good : (made : List Made) (hs : List Term) (c : Term) → AllByRecursion (told_parts made).term hs → (told_parts made).term c
    → IsGood (Parameters.sequent (stated hs c))
stated-good made hs c h k =
    let own = (told_parts made).term in
    let d : AllByRecursion own (distinct term_eq hs) = union-All own term_eq hs [] (tt {0}) h in
    record {
      built = record { hypotheses = All-weaker own IsBuiltTerm (λ t j. j.1.built) (distinct term_eq hs) d; conclusion = k.1.built };
      named = (All-weaker own TermNamed (λ t j. j.1.named) (distinct term_eq hs) d, k.1.named);
    }

find-in : (p : ℕ → Bool) (is : List ℕ) (i : ℕ) → find p is ≡ Some i → IsIn is i
find-in p [] i e = absurd (cc)
find-in p (j ∷ is) i e = go (p j) e (find-in p is i)
  where
    go : (b : Bool) → cond b (Some j) (find p is) ≡ Some i → (find p is ≡ Some i → IsIn is i) → IsIn (j ∷ is) i
    go true f later = let same : j ≡ i = cc in inl (sym same)
    go false f later = inr (later f)

-- An earlier step says the same: an assumption, or an export of an earlier article
pub met-told : (s : State) (z : Sequent) (j : ℕ) → History s.made s.assumptions s.exports → ((i : ℕ) → IsIn s.pool i → IsIn s.exports i)
    → IsGood (Parameters.sequent z) → (o q : Option ℕ) → first_same s s.pool z ≡ o → first_same s s.assumptions z ≡ q → option_or o q ≡ Some j
    → History (s.made ++ Made.step (restatement j z) ∷ []) s.assumptions s.exports
met-told s z j h pool good None None e f m = absurd (cc)
met-told s z j h pool good None (Some i) e f m = histories.History.met z j h (f ∙ m) good refl
met-told s z j h pool good (Some i) q e f m =
    histories.History.met_export z j h (pool j (find-in (λ k. same (sequent_at s.made k) z) s.pool j (e ∙ m))) good refl

-- no assumption says the same where nothing does
pub not-assumed : (o q : Option ℕ) → option_or o q ≡ None → q ≡ None
not-assumed None q e = e
not-assumed (Some i) q e = absurd (cc)
