-- Every row is shaped: the proof of a step, by its rule, is a shaped proof in the scope of its sequent, or a shaped law there.
use Rattle.std.proofs.Common.{Bool, true, false, ◌⊎◌, ◌∙◌, ◌≡◌, ℕ, List, [], ◌∷◌, map, inl, inr, ⊎_elim, refl, sym, ap, subst}
use Rattle.std.specs.Prelude.{unwrap_or}
use Rattle.std.specs.List.{AllByRecursion, list_all, list_any, flat_map}
use Rattle.std.proofs.lemmas.List.Folds.{list_any-append}
use Rattle.std.proofs.lemmas.Bool.{or_parts, and_parts}
use Rattle.hol_spec.specs.Lists.{is_in, union, without, distinct, IsIn}
use Rattle.hol_spec.specs.Primitives.{bool, function}
use Rattle.hol_spec.specs.Terms.{Term, Variable, variable_eq, free_places, constant, app, lam, HasType, term_eq, equation}
use Rattle.hol_laws.specs.TermLaws.{term_eq-Decides, variable_eq-Decides}
use Rattle.hol_spec.specs.TermBinding.{put, close}
use Rattle.hol_spec.specs.TermSubstitution.{sub}
use Rattle.hol_spec.specs.Sequents.{Sequent, IsSequent}
use Rattle.lp_spec.specs.Trees.{Tree}
use Rattle.lp_spec.specs.Modules.{Declaration}
use Rattle.lp_typing_laws.specs.ConversionLaws.{IsClosed}
use Rattle.hol_laws.specs.Members.{All-each, All-at, All-append, IsIn-union_left, IsIn-union_right, IsIn-distinct}
use Rattle.translate_spec.specs.Scopes.{SymbolMap, Scope, term_tree, scope_of, theorem_tree}
use Rattle.translate_laws.specs.ScopeTyping.{TermOver}
use Rattle.translate_laws.specs.SequentScope.{context_of, SequentOver}
use Rattle.translate_spec.specs.ProofTrees.{refl_tree, eq_mp_tree, fun_ext_tree, app_thm_tree, prop_ext_tree, sym_tree, trans_tree, prove_hyp_tree, subst_tree, constants_scope}
use Rattle.translate_laws.specs.Bodies.{HasLemmas, equation-over}
use Rattle.translate_laws.specs.ComputingBodies.{IsDefinition}
use Rattle.hol_spec.specs.Rules.{Rule, Parameters, is_free_in}
use Rattle.hol_spec.specs.declared.StepKind.{StepKind}
use Rattle.hol_spec.specs.declared.StepKind.TheVariants as kinds
use Rattle.translate_spec.specs.Rows.{type_or, equated_type, left_side, right_side, argument_type, result_type, proof_tree, has_row}
use Rattle.hol_spec.specs.Rules as rule
use Rattle.translate_laws.specs.BodyTyping.{ArePremises, Defined, one_premise, two_premises, IsIn-without, IsIn-map, all_are_in}
use Rattle.translate_laws.specs.ShapedSequents.{own_shape}
use Rattle.translate_laws.specs.ShapedRows.{HasHypotheses, refl-row, assume-row, trans-row, eq_mp-row, sym-row, app_thm-row, restate-row, prop_ext-row, prove_hyp-row}
use Rattle.translate_laws.specs.AbstractionRow.{abs_thm-row}
use Rattle.translate_laws.specs.SubstitutionRow.{subst-row}
use Rattle.translate_laws.specs.ComputingRows.{Shown, shown, beta-row, define_const-row, define_const_list-row}
use Rattle.hol_spec.specs.DefinitionLists.{constants_put}
use Rattle.hol_proof_laws.specs.SymbolGrowth.{symmetric}
use Rattle.hol_proof_laws.specs.RuleSequents.{constants-fit}
use Rattle.translate_laws.specs.AbstractionBody.{IsFresh}
use Rattle.translate_laws.specs.PartRows.{is_law, ShownLaw, first_law-row, second_law-row, first_law_free-row, second_law_free-row}

-- freshness, hypothesis by hypothesis
fresh_places : (v : Variable) (ws : List Variable) → list_any (variable_eq v) ws ≡ false → AllByRecursion (λ w. variable_eq w v ≡ false) ws
fresh_places v [] e = tt
fresh_places v (w ∷ ws) e = let h = or_parts (variable_eq v w) (list_any (variable_eq v) ws) e in
    (symmetric variable_eq variable_eq-Decides v w h.0, fresh_places v ws h.1)

fresh-all : (v : Variable) (hs : List Term) → is_free_in v hs ≡ false → AllByRecursion (IsFresh v) hs
fresh-all v [] e = tt
fresh-all v (h ∷ hs) e =
    let both = or_parts (list_any (variable_eq v) (free_places h)) (list_any (variable_eq v) (flat_map free_places hs))
    (sym (list_any-append (variable_eq v) (free_places h) (flat_map free_places hs)) ∙ e) in
    (fresh_places v (free_places h) both.0, fresh-all v hs both.1)

-- a shaped proof in the scope of its sequent
abbrev pub HasShapedBody : List Declaration → SymbolMap → (Scope → Tree) → Sequent → Type 0
HasShapedBody m symbols t s = Shown m (context_of symbols s) (t (scope_of symbols s)) (term_tree symbols (scope_of symbols s) s.conclusion)

module _ (m : List Declaration) (closed : IsClosed m) (lemmas : HasLemmas m) (symbols : SymbolMap) where
  -- what proves a conclusion wherever the hypotheses are entries proves it in the scope of the sequent
  in_scope : (t : Scope → Tree) (s : Sequent) → IsSequent s → SequentOver m symbols s → (hypotheses : List Term) (conclusion : Term) → s
      ≡ record { hypotheses = hypotheses; conclusion = conclusion }
      → ((G : List Tree) (scope : Scope) → HasHypotheses m symbols G scope hypotheses → TermOver m symbols conclusion → HasType conclusion bool
      → Shown m G (t scope) (term_tree symbols scope conclusion)) → HasShapedBody m symbols t s
  in_scope t s is over hypotheses conclusion e f =
      let own = own_shape m closed symbols s is over in
      let hs : s.hypotheses ≡ hypotheses = ap (λ (x : Sequent). x.hypotheses) e in
      let c : s.conclusion ≡ conclusion = ap (λ (x : Sequent). x.conclusion) e in
      subst (λ p. Shown m (context_of symbols s) (t (scope_of symbols s)) (term_tree symbols (scope_of symbols s) p)) (sym c)
      (f (context_of symbols s) (scope_of symbols s) (record { is = own.scope; proofs = λ h i. own.proofs h (subst (λ l. IsIn l h) (sym hs) i) })
      (subst (TermOver m symbols) c over.conclusion) (subst (λ p. HasType p bool) c is.conclusion))

  row_of : (s : Sequent) (kind : StepKind) (ss : List Sequent) (given : Parameters) (js ks : List ℕ) → js ≡ ks
      → HasShapedBody m symbols (λ scope. proof_tree symbols scope kind ks ss given) s
      → HasShapedBody m symbols (λ scope. proof_tree symbols scope kind js ss given) s
  row_of s kind ss given js ks e h = subst (λ l. HasShapedBody m symbols (λ scope. proof_tree symbols scope kind l ss given) s) (sym e) h

  pub rule-shaped : (kind : StepKind) (js : List ℕ) (premises : List Sequent) (given : Parameters) (s : Sequent) → Rule kind premises given s
      → has_row kind ≡ true → is_law kind ≡ false → ArePremises m symbols js premises → Defined m symbols kind js premises given → IsSequent s
      → SequentOver m symbols s
      → HasShapedBody m symbols (λ scope. proof_tree symbols scope kind js premises given) s
  rule-shaped kind js premises given s (rule.refl {t = t} {a = a} h e) row lawless p d is over =
      in_scope (λ scope. refl_tree symbols scope (type_or t) t) s is over [] (equation a t t) e (λ G scope st o ty.
      subst (λ b. Shown m G (refl_tree symbols scope b t) (term_tree symbols scope (equation a t t))) (sym (ap (λ x. unwrap_or x bool) h))
      (let parts = equation-over m symbols a t t o in shown (refl-row m closed symbols G scope [] st a t parts.ty parts.left h)))
  rule-shaped kind js premises given s (rule.assume {p = q} h e) row lawless p d is over =
      in_scope (λ scope. scope.proofs q) s is over (q ∷ []) q e (λ G scope st o ty. shown (assume-row m closed symbols G scope (q ∷ []) st q (inl refl)))
  rule-shaped kind js premises given s (rule.eq_mp {p = a} {q = b} {one = one} {two = two} e f i) row lawless p d is over =
      let w = two_premises m symbols js one two p in
      row_of s kinds.EqMp (one ∷ two ∷ []) Parameters.nothing js (w.j ∷ w.k ∷ []) w.is
      (in_scope (λ scope. eq_mp_tree symbols scope (left_side one.conclusion) (right_side one.conclusion) (w.j, one) (w.k, two)) s is over
      (union term_eq one.hypotheses two.hypotheses) b i (λ G scope st o ty.
      subst (λ c. Shown m G (eq_mp_tree symbols scope (left_side c) (right_side c) (w.j, one) (w.k, two)) (term_tree symbols scope b)) (sym e)
      (shown (eq_mp-row m closed symbols G scope (union term_eq one.hypotheses two.hypotheses) st a b w.j w.k one two w.first w.second e f
      (λ h k. IsIn-union_left term_eq term_eq-Decides two.hypotheses one.hypotheses h k)
      (λ h k. IsIn-union_right term_eq term_eq-Decides two.hypotheses one.hypotheses h k)))))
  rule-shaped kind js premises given s (rule.abs_thm {v = v} {b = b} {t = t} {u = u} {one = one} e fresh i) row lawless p d is over =
      let w = one_premise m symbols js one p in
      let says = equation (function v.1 b) (lam v.1 (close v t)) (lam v.1 (close v u)) in
      row_of s kinds.AbsThm (one ∷ []) (Parameters.variable v) js (w.j ∷ []) w.is
      (in_scope (λ scope. fun_ext_tree symbols scope v (equated_type one.conclusion) (left_side one.conclusion) (right_side one.conclusion) (w.j, one)) s is
      over one.hypotheses says i (λ G scope st o ty.
      subst (λ c. Shown m G (fun_ext_tree symbols scope v (equated_type c) (left_side c) (right_side c) (w.j, one)) (term_tree symbols scope says)) (sym e)
      (shown (abs_thm-row m closed symbols G scope one.hypotheses st v b t u w.j one w.first e (λ h k. k) (fresh-all v one.hypotheses fresh) o))))
  rule-shaped kind js premises given s (rule.app_thm {a = a} {b = b} {f = f} {g = g} {x = x} {y = y} {one = one} {two = two} e i l) row lawless p d is over =
      let w = two_premises m symbols js one two p in
      row_of s kinds.AppThm (one ∷ two ∷ []) Parameters.nothing js (w.j ∷ w.k ∷ []) w.is
      (in_scope (λ scope. app_thm_tree symbols scope (argument_type (equated_type one.conclusion)) (result_type (equated_type one.conclusion))
      (left_side one.conclusion) (right_side one.conclusion) (left_side two.conclusion) (right_side two.conclusion) (w.j, one) (w.k, two))
      s is over (union term_eq one.hypotheses two.hypotheses) (equation b (app f x) (app g y)) l (λ G scope st o ty.
      subst (λ c. Shown m G
      (app_thm_tree symbols scope (argument_type (equated_type c)) (result_type (equated_type c)) (left_side c) (right_side c) (left_side two.conclusion)
      (right_side two.conclusion) (w.j, one) (w.k, two)) (term_tree symbols scope (equation b (app f x) (app g y)))) (sym e)
      (subst (λ c. Shown m G (app_thm_tree symbols scope a b f g (left_side c) (right_side c) (w.j, one) (w.k, two))
      (term_tree symbols scope (equation b (app f x) (app g y)))) (sym i)
      (shown (app_thm-row m closed symbols G scope (union term_eq one.hypotheses two.hypotheses) st a b f g x y w.j w.k one two w.first w.second e i
      (λ h k. IsIn-union_left term_eq term_eq-Decides two.hypotheses one.hypotheses h k)
      (λ h k. IsIn-union_right term_eq term_eq-Decides two.hypotheses one.hypotheses h k))))))
  rule-shaped kind js premises given s (rule.deduct_antisym {one = one} {two = two} i) row lawless p d is over =
      let w = two_premises m symbols js one two p in
      let G₁ = without term_eq one.hypotheses two.conclusion in
      let D₁ = without term_eq two.hypotheses one.conclusion in
      row_of s kinds.DeductAntisym (one ∷ two ∷ []) Parameters.nothing js (w.j ∷ w.k ∷ []) w.is
      (in_scope (λ scope. prop_ext_tree symbols scope one.conclusion two.conclusion (w.j, one) (w.k, two)) s is over (union term_eq G₁ D₁)
      (equation bool one.conclusion two.conclusion) i (λ G scope st o ty.
      shown (prop_ext-row m closed symbols G scope (union term_eq G₁ D₁) st one.conclusion two.conclusion w.j w.k one two w.first w.second refl refl
      (λ h k. ⊎_elim (λ l. inl l) (λ r. inr (IsIn-union_left term_eq term_eq-Decides D₁ G₁ h r)) (IsIn-without one.hypotheses two.conclusion h k))
      (λ h k. ⊎_elim (λ l. inl l) (λ r. inr (IsIn-union_right term_eq term_eq-Decides D₁ G₁ h r)) (IsIn-without two.hypotheses one.conclusion h k)))))
  rule-shaped kind js premises given s (rule.beta_conv {a = a} {b = b} {t = t} {u = u} h e) row lawless p d is over =
      in_scope (λ scope. refl_tree symbols scope (type_or (app (lam a t) u)) (put u t)) s is over [] (equation b (app (lam a t) u) (put u t)) e
      (λ G scope st o ty.
      subst (λ c. Shown m G (refl_tree symbols scope c (put u t)) (term_tree symbols scope (equation b (app (lam a t) u) (put u t))))
      (sym (ap (λ x. unwrap_or x bool) h))
      (beta-row m closed symbols G scope [] st a b t u o ty))
  rule-shaped kind js premises given s (rule.sym {a = a} {x = x} {y = y} {one = one} e i) row lawless p d is over =
      let w = one_premise m symbols js one p in
      row_of s kinds.Sym (one ∷ []) Parameters.nothing js (w.j ∷ []) w.is
      (in_scope (λ scope. sym_tree symbols scope (equated_type one.conclusion) (left_side one.conclusion) (right_side one.conclusion) (w.j, one)) s is over
      one.hypotheses (equation a y x) i (λ G scope st o ty.
      subst (λ c. Shown m G (sym_tree symbols scope (equated_type c) (left_side c) (right_side c) (w.j, one)) (term_tree symbols scope (equation a y x)))
      (sym e)
      (shown (sym-row m closed symbols G scope one.hypotheses st lemmas a x y w.j one w.first e (λ h k. k)))))
  rule-shaped kind js premises given s (rule.trans {a = a} {x = x} {y = y} {z = z} {one = one} {two = two} e f i) row lawless p d is over =
      let w = two_premises m symbols js one two p in
      row_of s kinds.Trans (one ∷ two ∷ []) Parameters.nothing js (w.j ∷ w.k ∷ []) w.is
      (in_scope (λ scope. trans_tree symbols scope (equated_type one.conclusion) (left_side one.conclusion) (right_side one.conclusion)
      (right_side two.conclusion) (w.j, one) (w.k, two)) s is over (union term_eq one.hypotheses two.hypotheses) (equation a x z) i (λ G scope st o ty.
      subst (λ c. Shown m G (trans_tree symbols scope (equated_type c) (left_side c) (right_side c) (right_side two.conclusion) (w.j, one) (w.k, two))
      (term_tree symbols scope (equation a x z))) (sym e)
      (subst (λ c. Shown m G (trans_tree symbols scope a x y (right_side c) (w.j, one) (w.k, two)) (term_tree symbols scope (equation a x z))) (sym f)
      (shown (trans-row m closed symbols G scope (union term_eq one.hypotheses two.hypotheses) st lemmas a x y z w.j w.k one two w.first w.second e f
      (λ h k. IsIn-union_left term_eq term_eq-Decides two.hypotheses one.hypotheses h k)
      (λ h k. IsIn-union_right term_eq term_eq-Decides two.hypotheses one.hypotheses h k))))))
  rule-shaped kind js premises given s (rule.prove_hyp {one = one} {two = two} i) row lawless p d is over =
      let w = two_premises m symbols js one two p in
      let D₁ = without term_eq two.hypotheses one.conclusion in
      row_of s kinds.ProveHyp (one ∷ two ∷ []) Parameters.nothing js (w.j ∷ w.k ∷ []) w.is
      (in_scope (λ scope. prove_hyp_tree symbols scope one.conclusion (w.j, one) (w.k, two)) s is over (union term_eq one.hypotheses D₁) two.conclusion i
      (λ G scope st o ty.
      shown (prove_hyp-row m closed symbols G scope (union term_eq one.hypotheses D₁) st one.conclusion w.j w.k one two w.first w.second refl
      (λ h k. IsIn-union_left term_eq term_eq-Decides D₁ one.hypotheses h k)
      (λ h k. ⊎_elim (λ l. inl l) (λ r. inr (IsIn-union_right term_eq term_eq-Decides D₁ one.hypotheses h r))
      (IsIn-without two.hypotheses one.conclusion h k)))))
  rule-shaped kind js premises given s (rule.subst {types = pairs} {terms = terms} {one = one} fitting i) row lawless p d is over =
      let w = one_premise m symbols js one p in
      let images = map (sub pairs terms) one.hypotheses in
      let member : (h : Term) → IsIn one.hypotheses h → IsIn (distinct term_eq images) (sub pairs terms h) =
      λ h k. IsIn-distinct term_eq term_eq-Decides images (sub pairs terms h) (IsIn-map (sub pairs terms) one.hypotheses h k) in
      let hs : s.hypotheses ≡ distinct term_eq images = ap (λ (x : Sequent). x.hypotheses) i in
      let over_images : AllByRecursion (λ t. TermOver m symbols (sub pairs terms t)) one.hypotheses =
      All-each _ one.hypotheses
      (λ h k. All-at (TermOver m symbols) (distinct term_eq images) (sub pairs terms h) (subst (AllByRecursion (TermOver m symbols)) hs over.hypotheses)
      (member h k)) in
      row_of s kinds.Subst (one ∷ []) (Parameters.substitution pairs terms) js (w.j ∷ []) w.is
      (in_scope (λ scope. subst_tree symbols scope pairs terms (w.j, one)) s is over (distinct term_eq images) (sub pairs terms one.conclusion) i
      (λ G scope st o ty.
      shown (subst-row m closed symbols G scope (distinct term_eq images) st pairs terms fitting w.j one w.first
      (All-append _ one.hypotheses (one.conclusion ∷ []) over_images (o, tt {0})) member)))
  rule-shaped kind js premises given s (rule.define_const {n = n} {t = t} {a = a} defining e) row lawless p d is over =
      let same : type_or t ≡ a = ap (λ x. unwrap_or x bool) defining.typed in
      in_scope (λ scope. refl_tree symbols scope (type_or t) t) s is over [] (equation a (constant n a) t) e (λ G scope st o ty.
      subst (λ b. Shown m G (refl_tree symbols scope b t) (term_tree symbols scope (equation a (constant n a) t))) (sym same)
      (define_const-row m closed symbols G scope [] st n a t (subst (λ b. IsDefinition m symbols n b t) same d) o ty))
  rule-shaped kind js premises given s (rule.restate {one = one} proper i) row lawless p d is over =
      let w = one_premise m symbols js one p in
      let parts = and_parts (list_all (λ h. is_in term_eq h s.hypotheses) one.hypotheses) (term_eq one.conclusion s.conclusion) i in
      let c : one.conclusion ≡ s.conclusion = (term_eq-Decides one.conclusion s.conclusion).0 parts.1 in
      row_of s kinds.Restate (one ∷ []) (Parameters.sequent s) js (w.j ∷ []) w.is
      (in_scope (λ scope. theorem_tree scope w.j one) s is over s.hypotheses s.conclusion refl (λ G scope st o ty.
      subst (λ q. Shown m G (theorem_tree scope w.j one) (term_tree symbols scope q)) c
      (shown (restate-row m closed symbols G scope s.hypotheses st w.j one w.first (λ h k. all_are_in s.hypotheses one.hypotheses h parts.0 k)))))
  rule-shaped kind js premises given s (rule.define_const_list {pairs = pairs} {one = one} defining list e) row lawless p d is over =
      let w = one_premise m symbols js one p in
      row_of s kinds.DefineConstList (one ∷ []) (Parameters.constants pairs) js (w.j ∷ []) w.is
      (in_scope (λ scope. theorem_tree (constants_scope symbols scope (constants_put pairs)) w.j one) s is over [] (sub [] (constants_put pairs) one.conclusion)
      e (λ G scope st o ty.
      shown (define_const_list-row m closed symbols G scope [] st (constants_put pairs) (constants-fit pairs) w.j one w.first d.0 d.1)))
  rule-shaped kind js premises given s (rule.recorded proper) row lawless p d is over = absurd (cc)
  rule-shaped kind js premises given s (rule.first_law defining e) row lawless p d is over = absurd (cc)
  rule-shaped kind js premises given s (rule.first_law_free defining e) row lawless p d is over = absurd (cc)
  rule-shaped kind js premises given s (rule.second_law defining e) row lawless p d is over = absurd (cc)
  rule-shaped kind js premises given s (rule.second_law_free defining e) row lawless p d is over = absurd (cc)

  -- The laws: a law of a type definition has a law's body
  pub law-shaped : (kind : StepKind) (js : List ℕ) (premises : List Sequent) (given : Parameters) (s : Sequent) → Rule kind premises given s
      → is_law kind ≡ true → ArePremises m symbols js premises → Defined m symbols kind js premises given → IsSequent s → SequentOver m symbols s
      → ShownLaw m (context_of symbols s) (proof_tree symbols (scope_of symbols s) kind js premises given) (term_tree symbols (scope_of symbols s) s.conclusion)
  law-shaped kind [] premises given s (rule.first_law defining e) law p d is over = absurd p
  law-shaped kind [] premises given s (rule.first_law_free defining e) law p d is over = absurd p
  law-shaped kind (j ∷ k ∷ js) premises given s (rule.first_law defining e) law p d is over = absurd p.1
  law-shaped kind (j ∷ k ∷ js) premises given s (rule.first_law_free defining e) law p d is over = absurd p.1
  law-shaped kind (j ∷ []) premises given s (rule.first_law {names = names} {c = c} {f = f} {one = one} defining e) law p d is over =
      first_law-row m closed symbols names j one d s is over c f defining e
  law-shaped kind (j ∷ []) premises given s (rule.first_law_free {names = names} {c = c} {f = f} {one = one} defining e) law p d is over =
      first_law_free-row m closed symbols names j one d s is over c f defining e
  law-shaped kind [] premises given s (rule.second_law defining e) law p d is over = absurd p
  law-shaped kind [] premises given s (rule.second_law_free defining e) law p d is over = absurd p
  law-shaped kind (j ∷ k ∷ js) premises given s (rule.second_law defining e) law p d is over = absurd p.1
  law-shaped kind (j ∷ k ∷ js) premises given s (rule.second_law_free defining e) law p d is over = absurd p.1
  law-shaped kind (j ∷ []) premises given s (rule.second_law {names = names} {c = c} {f = f} {one = one} defining e) law p d is over =
      second_law-row m closed symbols names j one d s is over c f defining e
  law-shaped kind (j ∷ []) premises given s (rule.second_law_free {names = names} {c = c} {f = f} {one = one} defining e) law p d is over =
      second_law_free-row m closed symbols names j one d s is over lemmas.symmetry c f defining e
  law-shaped kind js premises given s (rule.refl h e) law p d is over = absurd (cc)
  law-shaped kind js premises given s (rule.assume h e) law p d is over = absurd (cc)
  law-shaped kind js premises given s (rule.eq_mp e f i) law p d is over = absurd (cc)
  law-shaped kind js premises given s (rule.abs_thm e f i) law p d is over = absurd (cc)
  law-shaped kind js premises given s (rule.app_thm e f i) law p d is over = absurd (cc)
  law-shaped kind js premises given s (rule.deduct_antisym e) law p d is over = absurd (cc)
  law-shaped kind js premises given s (rule.beta_conv h e) law p d is over = absurd (cc)
  law-shaped kind js premises given s (rule.sym e f) law p d is over = absurd (cc)
  law-shaped kind js premises given s (rule.trans e f i) law p d is over = absurd (cc)
  law-shaped kind js premises given s (rule.prove_hyp e) law p d is over = absurd (cc)
  law-shaped kind js premises given s (rule.subst h e) law p d is over = absurd (cc)
  law-shaped kind js premises given s (rule.recorded h) law p d is over = absurd (cc)
  law-shaped kind js premises given s (rule.restate h w) law p d is over = absurd (cc)
  law-shaped kind js premises given s (rule.define_const h e) law p d is over = absurd (cc)
  law-shaped kind js premises given s (rule.define_const_list h l e) law p d is over = absurd (cc)

  -- Every step with a body
  pub step-shaped : (kind : StepKind) (js : List ℕ) (premises : List Sequent) (given : Parameters) (s : Sequent) → Rule kind premises given s
      → has_row kind ≡ true → ArePremises m symbols js premises → Defined m symbols kind js premises given → IsSequent s → SequentOver m symbols s
      → HasShapedBody m symbols (λ scope. proof_tree symbols scope kind js premises given) s
      ⊎ ShownLaw m (context_of symbols s) (proof_tree symbols (scope_of symbols s) kind js premises given) (term_tree symbols (scope_of symbols s) s.conclusion)
  step-shaped kind js premises given s r row p d is over = go (is_law kind) refl
    where
      go : (b : Bool) → is_law kind ≡ b → HasShapedBody m symbols (λ scope. proof_tree symbols scope kind js premises given) s
          ⊎ ShownLaw m (context_of symbols s) (proof_tree symbols (scope_of symbols s) kind js premises given)
          (term_tree symbols (scope_of symbols s) s.conclusion)
      go false e = inl (rule-shaped kind js premises given s r row e p d is over)
      go true e = inr (law-shaped kind js premises given s r e p d is over)
