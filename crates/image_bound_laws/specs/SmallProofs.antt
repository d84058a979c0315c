-- Costs of proofs by their rules: a list of constants that are defined, and each step in the scope of its sequent.
use Rattle.hol_spec.specs.declared.Version.TheVariants.{Five, Six}
use Rattle.std.proofs.Common.{◌≡◌, ℕ, ◌+◌, ◌*◌, ◌≤◌, List, [], ◌∷◌, map, length, inl, refl, sym, ap, subst, ◌∙◌, arith}
use Rattle.std.specs.List.{AllByRecursion}
use Rattle.hol_spec.specs.Types.{HolType, operator, more}
use Rattle.hol_spec.specs.Primitives.{bool, function}
use Rattle.hol_spec.specs.Limits.{type_size, term_size, SequentWithin}
use Rattle.hol_spec.specs.Substitution.{substitute}
use Rattle.hol_spec.specs.Terms.{Term, free, bound, constant, app, lam, Variable, term_eq, HasType, equation, free_places}
use Rattle.hol_spec.specs.TermBinding.{put}
use Rattle.hol_spec.specs.TermSubstitution.{TermPairs, term_image, sub, AreFitting}
use Rattle.hol_spec.specs.DefinitionLists.{ConstantPairs, constants_put}
use Rattle.hol_spec.specs.Sequents.{Sequent, terms_of, type_variables_of, free_variables_of}
use Rattle.hol_spec.specs.Lists.{IsIn}
use Rattle.hol_spec.specs.Rules.{Rule, Parameters}
use Rattle.hol_spec.specs.Rules as rule
use Rattle.hol_spec.specs.declared.StepKind.{StepKind}
use Rattle.hol_spec.specs.declared.StepKind.TheVariants as kinds
use Rattle.hol_laws.specs.TermLaws.{term_eq-Decides}
use Rattle.hol_laws.specs.Members.{All-weaker, All-append, All-left, All-right, All-each, All-at, IsIn-left, IsIn-right, IsIn-distinct}
use Rattle.hol_laws.specs.TermInstances.{substitute-nothing}
use Rattle.hol_proof_laws.specs.RuleSequents.{constants-fit}
use Rattle.lp_spec.specs.Trees.{size}
use Rattle.lp_spec.specs.Modules.{Declaration, types}
use Rattle.translate_spec.specs.Scopes.{SymbolMap, type_tree, Scope, term_tree, images}
use Rattle.translate_spec.specs.ProofTrees.{premise_tree, refl_tree, self_proof, constants_scope}
use Rattle.translate_spec.specs.Rows.{equated_type, left_side, right_side, argument_type, result_type, proof_tree}
use Rattle.translate_laws.specs.TermScopeLaws.{term_tree-substitution}
use Rattle.translate_laws.specs.ScopeTyping.{TypeOver, TermOver, ConstantOver, AreInstances-over}
use Rattle.translate_laws.specs.SequentScope.{SequentOver, term_tree-proofs, variables-over, SequentOver-instances}
use Rattle.translate_laws.specs.TheoremTyping.{term-IsFormula}
use Rattle.translate_laws.specs.SubstitutionBody.{AreFitting-closed}
use Rattle.translate_laws.specs.Bodies.{HasLemmas, equation-over}
use Rattle.translate_laws.specs.BodyTyping.{ArePremises, Defined, one_premise, two_premises, IsIn-map}
use Rattle.translate_laws.specs.ComputingBodies.{StandsForVariable, constant-over}
use Rattle.translate_laws.specs.DefinitionsHeld.{type_or-is}
use Rattle.image_bound_laws.specs.Sums.{sums}
use Rattle.image_bound_laws.specs.TermSizes.{variable_size, variables-size, terms-size, constants_put-size, constants_sub-size}
use Rattle.image_bound_laws.specs.Costs.{Plain, cost, total, plain-cost}
use Rattle.image_bound_laws.specs.SmallScopes.{IsPlainScope, type_tree-size, type_tree-cost, term_tree-cost}
use Rattle.image_bound_laws.specs.SmallTheorems.{variable_sizes, term_sizes, theorem_tree-cost}
use Rattle.image_bound_laws.specs.HeadCosts.{refl_of-cost}
use Rattle.image_bound_laws.specs.SmallPremises.{row_cost, IsSmallTerm, IsSmallType, IsSmallPremise, conclusion-small, hypotheses-small, left_side-small, right_side-small, equated_type-small, argument_type-small, result_type-small, types-total}
use Rattle.image_bound_laws.specs.SmallParts.{first_law-cost, second_law-cost, first_free-cost, second_free-cost}
use Rattle.image_bound_laws.specs.SmallRows.{refl-cost, eq_mp_row-cost, app_thm_row-cost, sym_row-cost, trans_row-cost, fun_ext_row-cost, prop_ext_row-cost, prove_hyp_row-cost, restate_row-cost, subst_row-cost}

-- a term in which constants over the symbols are put for variables
module _ (m : List Declaration) (symbols : SymbolMap) (terms : TermPairs) where
  sub-over : (t : Term) → TermOver m symbols t → AllByRecursion (λ v. TermOver m symbols (term_image terms (v.0, substitute [] v.1))) (free_places t)
      → TermOver m symbols (sub [] terms t)
  sub-over (free n t) o k = k.0
  sub-over (bound i) o k = tt
  sub-over (constant n t) o k = subst (ConstantOver m symbols n) (sym (substitute-nothing t)) o
  sub-over (app f x) o k = (
    sub-over f o.0 (All-left (λ v. TermOver m symbols (term_image terms (v.0, substitute [] v.1))) (free_places f) (free_places x) k),
    sub-over x o.1 (All-right (λ v. TermOver m symbols (term_image terms (v.0, substitute [] v.1))) (free_places f) (free_places x) k),
  )
  sub-over (lam t b) o k = (subst (TypeOver m symbols) (sym (substitute-nothing t)) o.0, sub-over b o.1 k)

module _ (m : List Declaration) (lemmas : HasLemmas m) (symbols : SymbolMap) (scope : Scope) (h : IsPlainScope symbols scope) where
  -- a formula of a sequent, over the symbols
  record IsPut (one : Sequent) (t : Term) : Type 0 where
    over : TermOver m symbols t
    within : IsIn (terms_of one) t
    typed : HasType t bool

  self_proof-cost : (t : Term) → TermOver m symbols t → cost m [] (self_proof symbols scope t) + 1 ≤ 144 * term_size t + 101
  self_proof-cost (app (app (constant n (operator f (more a ts))) x) u) o =
      let b = type_tree-cost m symbols scope.types h.types [] a o.0.0.ty.1.0 in
      let c = term_tree-cost m symbols [] scope h u o.1 in
      let size = term_size (app (app (constant n (operator f (more a ts))) x) u) in
      let whole = refl_of-cost m (24 * size) (type_tree symbols scope.types a) (term_tree symbols scope u) (omega (arith, b)) (omega (arith, c)) in
      omega (arith, whole)
  self_proof-cost t o = let l = plain-cost m [] types Plain.nothing in omega (arith, l)

  self_proofs-total : (ts : List Term) → AllByRecursion (TermOver m symbols) ts
      → total m (map (self_proof symbols scope) ts) ≤ 144 * sums term_size ts + 101 * length ts
  self_proofs-total [] o = omega arith
  self_proofs-total (t ∷ ts) o =
      let one = self_proof-cost t o.0 in
      let rest = self_proofs-total ts o.1 in
      omega (arith, one, rest)

  -- constants that are defined stand for the variables
  list_row-cost : (pairs : ConstantPairs) (i : ℕ) (one : Sequent) → IsSmallPremise m symbols i one
      → AllByRecursion (StandsForVariable m symbols (constants_put pairs)) (free_variables_of one)
      → cost m [] (premise_tree (constants_scope symbols scope (constants_put pairs)) (i, one)) ≤ row_cost
  list_row-cost pairs i one v stand =
      let inner = constants_scope symbols scope terms in
      let whole = theorem_tree-cost m symbols inner one i v.is.declared v.is.is (SequentOver-instances m symbols one v.is.over) in
      let of_types = types-total m symbols scope h (type_variables_of one) in
      let of_variables = put_variables (free_variables_of one) puts in
      let of_hypotheses = formulas one.hypotheses (All-each (IsPut one) one.hypotheses (λ t k. record {
        over = All-at (TermOver m symbols) one.hypotheses t v.is.over.hypotheses k;
        within = IsIn-left one.hypotheses (one.conclusion ∷ []) t k;
        typed = All-at (λ t. HasType t bool) one.hypotheses t v.is.is.hypotheses k;
      })) in
      let of_conclusion = formula one.conclusion
      (record {
        over = v.is.over.conclusion;
        within = IsIn-right one.hypotheses (one.conclusion ∷ []) one.conclusion (inl refl);
        typed =
            v.is.is.conclusion;
      }) in
      let of_proofs = self_proofs-total one.hypotheses v.is.over.hypotheses in
      let variables = variables-size one in
      let sizes = terms-size one in
      let size = v.within.size in
      let most = v.within.parameters in
      omega (arith, whole, of_types, of_variables, of_hypotheses, of_conclusion, of_proofs, variables, sizes, size, most)
    where
      terms : TermPairs
      terms = constants_put pairs

      fitting : AreFitting (constants_put pairs)
      fitting = constants-fit pairs

      put_over : (w : Variable) → IsIn (free_variables_of one) w → TermOver m symbols (term_image (constants_put pairs) (w.0, substitute [] w.1))
      put_over w k =
          let s = All-at (StandsForVariable m symbols (constants_put pairs)) (free_variables_of one) w stand k in
          subst (TermOver m symbols) (sym (ap (λ a. term_image (constants_put pairs) (w.0, a)) (substitute-nothing w.1) ∙ s.image))
          (constant-over m symbols s.name w.1 s.term s.declared s.definition
          (All-at (λ v. TypeOver m symbols v.1) (free_variables_of one) w (variables-over m symbols one v.is.over) k))

      puts : AllByRecursion (λ w. TermOver m symbols (term_image (constants_put pairs) (w.0, substitute [] w.1))) (free_variables_of one)
      puts = All-each (λ w. TermOver m symbols (term_image (constants_put pairs) (w.0, substitute [] w.1))) (free_variables_of one) put_over

      put_variables : (vs : List Variable) → AllByRecursion (λ w. TermOver m symbols (term_image (constants_put pairs) (w.0, substitute [] w.1))) vs
          → total m (map (λ w. term_tree symbols scope (term_image (constants_put pairs) (w.0, substitute [] w.1))) vs) + variable_sizes symbols
          (constants_scope symbols scope (constants_put pairs)) vs ≤ 27 * sums variable_size vs
      put_variables [] o = omega arith
      put_variables (w ∷ ws) o =
          let c = constants_put-size pairs (w.0, substitute [] w.1) in
          let same = ap type_size (substitute-nothing w.1) in
          let cost = term_tree-cost m symbols [] scope h (term_image (constants_put pairs) (w.0, substitute [] w.1)) o.0 in
          let own = type_tree-size symbols scope.types h.types w.1 in
          let rest = put_variables ws o.1 in
          omega (arith, c, same, cost, own, rest)

      formula : (t : Term) → IsPut one t → size (term_tree symbols (constants_scope symbols scope (constants_put pairs)) t) ≤ 24 * term_size t
      formula t p =
          let instances = AreInstances-over m symbols t p.over in
          let free_over = All-weaker (IsIn (free_variables_of one)) (λ w. TermOver m symbols (term_image (constants_put pairs) (w.0, substitute [] w.1)))
          put_over (free_places t) (term-IsFormula one symbols t p.within instances p.typed).free_variables in
          let smaller = constants_sub-size pairs t in
          let l = term_tree-cost m symbols [] scope h (sub [] (constants_put pairs) t) (sub-over m symbols (constants_put pairs) t p.over free_over) in
          let same = ap size
          (term_tree-substitution symbols [] (constants_put pairs) (AreFitting-closed m symbols [] (constants_put pairs) fitting) scope t instances
          ∙ term_tree-proofs symbols (self_proof symbols scope) (images symbols [] (constants_put pairs) scope) t) in
          omega (arith, l, same, smaller)

      formulas : (ts : List Term) → AllByRecursion (IsPut one) ts
          → term_sizes symbols (constants_scope symbols scope (constants_put pairs)) ts ≤ 24 * sums term_size ts
      formulas [] k = omega arith
      formulas (t ∷ ts) k =
          let first = formula t k.0 in
          let rest = formulas ts k.1 in
          omega (arith, first, rest)

  -- reflexivity of a side of an equation that is concluded
  sides_row : (a : HolType) (x y : Term) {c : Term} → c ≡ equation a x y → IsSmallTerm m symbols c → cost m [] (refl_tree symbols scope a y) ≤ row_cost
  sides_row a x y e k =
      let parts = equation-over m symbols a x y (subst (TermOver m symbols) e k.over) in
      let own = k.size in
      let same = ap term_size e in
      refl-cost m lemmas symbols scope h a y (record { over = parts.ty; size = omega (arith, own, same) })
      (record { over = parts.right; size = omega (arith, own, same) })

  -- the type of the variable of an abstraction
  bound_variable : (v : Variable) (b : HolType) (x y : Term) {c : Term} → c ≡ equation (function v.1 b) x y → IsSmallTerm m symbols c
      → IsSmallType m symbols v.1
  bound_variable v b x y e k =
      let parts = equation-over m symbols (function v.1 b) x y (subst (TermOver m symbols) e k.over) in
      let own = k.size in
      let same = ap term_size e in
      record { over = parts.ty.1.0; size = omega (arith, own, same) }

  -- The proof of a step: by its rule, in a plain scope
  pub proof_tree-cost : (kind : StepKind) (js : List ℕ) (premises : List Sequent) (given : Parameters) (s : Sequent) → Rule kind premises given s
      → ArePremises m symbols js premises → Defined m symbols kind js premises given → SequentOver m symbols s
      → AllByRecursion SequentWithin premises → SequentWithin s → cost m [] (proof_tree symbols scope kind js premises given) ≤ row_cost
  proof_tree-cost kind js premises given s (rule.refl {t = t} {a = a} typed e) p d over ws w =
      let c = conclusion-small m symbols s over w in
      let is = ap (λ (x : Sequent). x.conclusion) e in
      subst (λ c. cost m [] (refl_tree symbols scope c t) ≤ row_cost) (sym (type_or-is t a typed)) (sides_row a t t is c)
  proof_tree-cost kind js premises given s (rule.assume {p = q} typed e) p d over ws w = let l =
      plain-cost m [] (scope.proofs q) (h.proofs q) in omega (arith, l)
  proof_tree-cost kind js premises given s (rule.eq_mp {one = one} {two = two} e f i) p d over ws w =
      let n = two_premises m symbols js one two p in
      let c = conclusion-small m symbols one n.first.over ws.0 in
      subst (λ l. cost m [] (proof_tree symbols scope kinds.EqMp l (one ∷ two ∷ []) Parameters.nothing) ≤ row_cost) (sym n.is)
      (eq_mp_row-cost m lemmas symbols scope h (left_side one.conclusion) (right_side one.conclusion) n.j n.k one two
      (left_side-small m symbols one.conclusion c) (right_side-small m symbols one.conclusion c)
      (record { is = n.first; within = ws.0 }) (record { is = n.second; within = ws.1.0 }))
  proof_tree-cost kind js premises given s (rule.abs_thm {v = v} {b = b} {t = t} {u = u} {one = one} e fresh i) p d over ws w =
      let n = one_premise m symbols js one p in
      let c = conclusion-small m symbols one n.first.over ws.0 in
      subst (λ l. cost m [] (proof_tree symbols scope kinds.AbsThm l (one ∷ []) (Parameters.variable v)) ≤ row_cost) (sym n.is)
      (fun_ext_row-cost m lemmas symbols scope h v (equated_type one.conclusion) (left_side one.conclusion) (right_side one.conclusion) n.j one
      (bound_variable v b (rule.abstraction v t) (rule.abstraction v u) (ap (λ (x : Sequent). x.conclusion) i) (conclusion-small m symbols s over w))
      (equated_type-small m symbols one.conclusion c) (left_side-small m symbols one.conclusion c) (right_side-small m symbols one.conclusion c)
      (record { is = n.first; within = ws.0 }))
  proof_tree-cost kind js premises given s (rule.app_thm {one = one} {two = two} e i l) p d over ws w =
      let n = two_premises m symbols js one two p in
      let c = conclusion-small m symbols one n.first.over ws.0 in
      let k = conclusion-small m symbols two n.second.over ws.1.0 in
      let a = equated_type-small m symbols one.conclusion c in
      subst (λ l. cost m [] (proof_tree symbols scope kinds.AppThm l (one ∷ two ∷ []) Parameters.nothing) ≤ row_cost) (sym n.is)
      (app_thm_row-cost m lemmas symbols scope h (argument_type (equated_type one.conclusion)) (result_type (equated_type one.conclusion))
      (left_side one.conclusion) (right_side one.conclusion) (left_side two.conclusion) (right_side two.conclusion) n.j n.k one two
      (argument_type-small m symbols (equated_type one.conclusion) a) (result_type-small m symbols (equated_type one.conclusion) a)
      (left_side-small m symbols one.conclusion c) (right_side-small m symbols one.conclusion c)
      (left_side-small m symbols two.conclusion k) (right_side-small m symbols two.conclusion k) (record { is = n.first; within = ws.0 })
      (record { is = n.second; within = ws.1.0 }))
  proof_tree-cost kind js premises given s (rule.deduct_antisym {one = one} {two = two} i) p d over ws w =
      let n = two_premises m symbols js one two p in
      subst (λ l. cost m [] (proof_tree symbols scope kinds.DeductAntisym l (one ∷ two ∷ []) Parameters.nothing) ≤ row_cost) (sym n.is)
      (prop_ext_row-cost m lemmas symbols scope h one.conclusion two.conclusion n.j n.k one two (conclusion-small m symbols one n.first.over ws.0)
      (conclusion-small m symbols two n.second.over ws.1.0)
      (record { is = n.first; within = ws.0 }) (record { is = n.second; within = ws.1.0 }))
  proof_tree-cost kind js premises given s (rule.beta_conv {a = a} {b = b} {t = t} {u = u} typed e) p d over ws w =
      let c = conclusion-small m symbols s over w in
      let is = ap (λ (x : Sequent). x.conclusion) e in
      subst (λ c. cost m [] (refl_tree symbols scope c (put u t)) ≤ row_cost) (sym (type_or-is (app (lam a t) u) b typed))
      (sides_row b (app (lam a t) u) (put u t) is c)
  proof_tree-cost kind js premises given s (rule.sym {one = one} e i) p d over ws w =
      let n = one_premise m symbols js one p in
      let c = conclusion-small m symbols one n.first.over ws.0 in
      subst (λ l. cost m [] (proof_tree symbols scope kinds.Sym l (one ∷ []) Parameters.nothing) ≤ row_cost) (sym n.is)
      (sym_row-cost m lemmas symbols scope h (equated_type one.conclusion) (left_side one.conclusion) (right_side one.conclusion) n.j one
      (equated_type-small m symbols one.conclusion c) (left_side-small m symbols one.conclusion c) (right_side-small m symbols one.conclusion c)
      (record { is = n.first; within = ws.0 }))
  proof_tree-cost kind js premises given s (rule.trans {one = one} {two = two} e f i) p d over ws w =
      let n = two_premises m symbols js one two p in
      let c = conclusion-small m symbols one n.first.over ws.0 in
      let k = conclusion-small m symbols two n.second.over ws.1.0 in
      subst (λ l. cost m [] (proof_tree symbols scope kinds.Trans l (one ∷ two ∷ []) Parameters.nothing) ≤ row_cost) (sym n.is)
      (trans_row-cost m lemmas symbols scope h (equated_type one.conclusion) (left_side one.conclusion) (right_side one.conclusion) (right_side two.conclusion)
      n.j n.k one two
      (equated_type-small m symbols one.conclusion c) (left_side-small m symbols one.conclusion c) (right_side-small m symbols one.conclusion c)
      (right_side-small m symbols two.conclusion k)
      (record { is = n.first; within = ws.0 }) (record { is = n.second; within = ws.1.0 }))
  proof_tree-cost kind js premises given s (rule.prove_hyp {one = one} {two = two} i) p d over ws w =
      let n = two_premises m symbols js one two p in
      subst (λ l. cost m [] (proof_tree symbols scope kinds.ProveHyp l (one ∷ two ∷ []) Parameters.nothing) ≤ row_cost) (sym n.is)
      (prove_hyp_row-cost m lemmas symbols scope h one.conclusion n.j n.k one two (record { is = n.first; within = ws.0 })
      (record { is = n.second; within = ws.1.0 }))
  proof_tree-cost kind js premises given s (rule.subst {types = pairs} {terms = terms} {one = one} fitting i) p d over ws w =
      let n = one_premise m symbols js one p in
      subst (λ l. cost m [] (proof_tree symbols scope kinds.Subst l (one ∷ []) (Parameters.substitution pairs terms)) ≤ row_cost) (sym n.is)
      (subst_row-cost m lemmas symbols scope h pairs terms n.j one fitting (record { is = n.first; within = ws.0 })
      (All-append (λ t. IsSmallTerm m symbols (sub pairs terms t)) one.hypotheses (one.conclusion ∷ [])
      (All-each (λ t. IsSmallTerm m symbols (sub pairs terms t)) one.hypotheses
      (λ t k. All-at (IsSmallTerm m symbols) s.hypotheses (sub pairs terms t) (hypotheses-small m symbols s over w)
      (subst (λ l. IsIn l (sub pairs terms t)) (sym (ap (λ (x : Sequent). x.hypotheses) i))
      (IsIn-distinct term_eq term_eq-Decides (map (sub pairs terms) one.hypotheses) (sub pairs terms t) (IsIn-map (sub pairs terms) one.hypotheses t k)))))
      (subst (IsSmallTerm m symbols) (ap (λ (x : Sequent). x.conclusion) i) (conclusion-small m symbols s over w), tt {0})))
  proof_tree-cost kind js premises given s (rule.recorded is) p d over ws w = let l = plain-cost m [] types Plain.nothing in omega (arith, l)
  proof_tree-cost kind js premises given s (rule.restate {one = one} is e) p d over ws w =
      let n = one_premise m symbols js one p in
      subst (λ l. cost m [] (proof_tree symbols scope kinds.Restate l (one ∷ []) (Parameters.sequent s)) ≤ row_cost) (sym n.is)
      (restate_row-cost m lemmas symbols scope h n.j one (record { is = n.first; within = ws.0 }))
  proof_tree-cost kind js premises given s (rule.define_const {n = n} {t = t} {a = a} defining e) p d over ws w =
      let c = conclusion-small m symbols s over w in
      let is = ap (λ (x : Sequent). x.conclusion) e in
      subst (λ c. cost m [] (refl_tree symbols scope c t) ≤ row_cost) (sym (type_or-is t a defining.typed)) (sides_row a (constant n a) t is c)
  proof_tree-cost kind js premises given s (rule.define_const_list {pairs = pairs} {one = one} defining good e) p d over ws w =
      let n = one_premise m symbols js one p in
      subst (λ l. cost m [] (proof_tree symbols scope kinds.DefineConstList l (one ∷ []) (Parameters.constants pairs)) ≤ row_cost) (sym n.is)
      (list_row-cost pairs n.j one (record { is = n.first; within = ws.0 }) d.1)
  proof_tree-cost kind js premises given s (rule.first_law {names = names} {c = c} {f = f} {one = one} t e) p d over ws w =
      let n = one_premise m symbols js one p in
      subst (λ l. cost m [] (proof_tree symbols scope kinds.FirstLaw l (one ∷ []) (Parameters.type_operator names Six)) ≤ row_cost) (sym n.is)
      (first_law-cost m symbols names c f n.j one t (record { is = n.first; within = ws.0 }) scope h s e (conclusion-small m symbols s over w))
  proof_tree-cost kind js premises given s (rule.second_law {names = names} {c = c} {f = f} {one = one} t e) p d over ws w =
      let n = one_premise m symbols js one p in
      subst (λ l. cost m [] (proof_tree symbols scope kinds.SecondLaw l (one ∷ []) (Parameters.type_operator names Six)) ≤ row_cost) (sym n.is)
      (second_law-cost m symbols names c f n.j one t (record { is = n.first; within = ws.0 }) scope h s e (conclusion-small m symbols s over w))
  proof_tree-cost kind js premises given s (rule.first_law_free {names = names} {c = c} {f = f} {one = one} t e) p d over ws w =
      let n = one_premise m symbols js one p in
      subst (λ l. cost m [] (proof_tree symbols scope kinds.FirstLaw l (one ∷ []) (Parameters.type_operator names Five)) ≤ row_cost) (sym n.is)
      (first_free-cost m symbols names c f n.j one t (record { is = n.first; within = ws.0 }) scope h s e (conclusion-small m symbols s over w))
  proof_tree-cost kind js premises given s (rule.second_law_free {names = names} {c = c} {f = f} {one = one} t e) p d over ws w =
      let n = one_premise m symbols js one p in
      subst (λ l. cost m [] (proof_tree symbols scope kinds.SecondLaw l (one ∷ []) (Parameters.type_operator names Five)) ≤ row_cost) (sym n.is)
      (second_free-cost m symbols names c f n.j one t (record { is = n.first; within = ws.0 }) scope h lemmas s e (conclusion-small m symbols s over w))
