-- The proof of a step uses each of its premises, where what a hypothesis is proved for is a hypothesis.
use Rattle.std.proofs.Common.{◌≡◌, ℕ, List, [], ◌∷◌, ◌++◌, map, true, ◌||◌, cond, inl, inr, refl, sym, ap, subst, ◌∙◌}
use Rattle.std.specs.Cmp.{unsigned_Decides}
use Rattle.std.specs.List.{list_any}
use Rattle.std.proofs.lemmas.Bool.{or_right}
use Rattle.hol_spec.specs.Terms.{Term, lam, bound, equation, app}
use Rattle.hol_laws.specs.TermLaws.{term_eq-Decides}
use Rattle.hol_spec.specs.DefinitionLists.{constants_put}
use Rattle.hol_spec.specs.Sequents.{Sequent, type_variables_of, free_variables_of}
use Rattle.hol_spec.specs.Rules.{Rule, Parameters}
use Rattle.hol_spec.specs.Rules as rule
use Rattle.hol_spec.specs.declared.StepKind.{StepKind}
use Rattle.hol_spec.specs.declared.StepKind.TheVariants as kinds
use Rattle.hol_spec.specs.Lists.{IsIn}
use Rattle.hol_laws.specs.Members.{IsIn-right}
use Rattle.lp_spec.specs.Trees.{Tree, Sym, Lam, App, Var}
use Rattle.lp_spec.specs.Modules.{applied, term_of, proof_of, eq_mp_symbol, fun_ext_symbol, app_thm_symbol, prop_ext_symbol, sub_abs_rep_symbol, sub_rep_abs_symbol, types}
use Rattle.translate_spec.specs.Scopes.{SymbolMap, Scope, type_tree, term_tree, under_term, under_proof, set_proof, images, lifted, filled}
use Rattle.translate_spec.specs.ProofTrees.{sym_symbol, trans_symbol, premise_tree, prove_hyp_tree, constants_scope, part_tree, law_tree, part_arguments_of, witness, predicate, first_law_free_tree, second_law_free_tree}
use Rattle.translate_spec.specs.Rows.{proof_tree, equated_type, left_side, right_side, argument_type, result_type, type_or}
use Rattle.translate_spec.specs.Items.{Item}
use Rattle.translate_spec.specs.Stands.{occurs}
use Rattle.translate_laws.specs.ItemConditions.{ArePremisesAmong}
use Rattle.image_laws.specs.Uses.{head-occurs, argument-occurs}
use Rattle.hol_spec.specs.Types.{HolType}
use Rattle.hol_spec.specs.NewTypes.{new_type}
use Rattle.hol_spec.specs.TypeDefinitions.{abstracted, represented, new_variable, old_variable}
use Rattle.hol_spec.specs.Primitives.{bool}
use Rattle.hol_spec.specs.Definitions.{TypeNames}

-- the premise that proves a hypothesis proves one of the other premise
abbrev pub ProvesHypothesis : StepKind → List Sequent → Type 0
ProvesHypothesis kinds.ProveHyp (one ∷ two ∷ []) = IsIn two.hypotheses one.conclusion
ProvesHypothesis kind premises = Unit {0}

module _ (before : List Item) where
  no-premises : (js : List ℕ) → ArePremisesAmong before js [] → js ≡ []
  no-premises [] h = refl
  no-premises (j ∷ js) h = absurd h

  one-premise : (js : List ℕ) (one : Sequent) → ArePremisesAmong before js (one ∷ []) → (a : ℕ) × (js ≡ a ∷ [])
  one-premise [] one h = absurd h
  one-premise (a ∷ []) one h = (a, refl)
  one-premise (a ∷ b ∷ js) one h = absurd h.1

  two-premises : (js : List ℕ) (one two : Sequent) → ArePremisesAmong before js (one ∷ two ∷ []) → (a : ℕ) × (b : ℕ) × (js ≡ a ∷ b ∷ [])
  two-premises [] one two h = absurd h
  two-premises (a ∷ []) one two h = absurd h.1
  two-premises (a ∷ b ∷ []) one two h = (a, b, refl)
  two-premises (a ∷ b ∷ c ∷ js) one two h = absurd h.1.1

module _ (j : ℕ) where
  any-at : (xs : List Tree) (x : Tree) → IsIn xs x → occurs j x ≡ true → list_any (occurs j) xs ≡ true
  any-at [] x i e = absurd i
  any-at (y ∷ ys) x (inl is) e = ap (λ b. b || list_any (occurs j) ys) (ap (occurs j) (sym is) ∙ e)
  any-at (y ∷ ys) x (inr i) e = or_right (occurs j y) (list_any (occurs j) ys) (any-at ys x i e)

  premise-occurs : (scope : Scope) (a : ℕ) (q : Sequent) → j ≡ a → occurs j (premise_tree scope (a, q)) ≡ true
  premise-occurs scope a q e = head-occurs j (Sym a)
      (map scope.types (type_variables_of q) ++ map scope.terms (free_variables_of q) ++ map scope.proofs q.hypotheses) ((unsigned_Decides j a).1 e)

  within : (f : ℕ) (xs : List Tree) (x : Tree) → IsIn xs x → occurs j x ≡ true → occurs j (applied (Sym f) xs) ≡ true
  within f xs x i e = argument-occurs j (Sym f) xs (any-at xs x i e)

  under_lam : (a b : Tree) → occurs j b ≡ true → occurs j (Lam a b) ≡ true
  under_lam a b e = or_right (occurs j a) (occurs j b) e

  mapped : (f : Term → Tree) (hs : List Term) (h : Term) → IsIn hs h → IsIn (map f hs) (f h)
  mapped f [] h i = absurd i
  mapped f (g ∷ hs) h (inl e) = inl (ap f e)
  mapped f (g ∷ hs) h (inr i) = inr (mapped f hs h i)

  module _ (symbols : SymbolMap) (scope : Scope) where
    -- the proof of a hypothesis
    hypothesis-occurs : (a b : ℕ) (one two : Sequent) → IsIn two.hypotheses one.conclusion → j ≡ a
        → occurs j (prove_hyp_tree symbols scope one.conclusion (a, one) (b, two)) ≡ true
    hypothesis-occurs a b one two i e =
        let inner = set_proof one.conclusion (premise_tree scope (a, one)) scope in
        let own : inner.proofs one.conclusion ≡ premise_tree scope (a, one) =
        ap (λ t. cond t (premise_tree scope (a, one)) (scope.proofs one.conclusion)) ((term_eq-Decides one.conclusion one.conclusion).1 refl) in
        within b (map inner.types (type_variables_of two) ++ map inner.terms (free_variables_of two) ++ map inner.proofs two.hypotheses)
        (inner.proofs one.conclusion)
        (IsIn-right (map inner.types (type_variables_of two) ++ map inner.terms (free_variables_of two)) (map inner.proofs two.hypotheses)
        (inner.proofs one.conclusion) (mapped inner.proofs two.hypotheses one.conclusion i))
        (ap (occurs j) own ∙ premise-occurs scope a one e)

    abbrev Uses : StepKind → List Sequent → Parameters → List ℕ → Type 0
    Uses kind premises given js = IsIn js j → occurs j (proof_tree symbols scope kind js premises given) ≡ true

    none : (before : List Item) (kind : StepKind) (given : Parameters) (js : List ℕ) → ArePremisesAmong before js [] → Uses kind [] given js
    none before kind given js h = subst (Uses kind [] given) (sym (no-premises before js h)) (λ i. absurd i)

    -- a part uses the theorem that it is made from, and so does a law
    pub part-used : (inner : Scope) (s : ℕ) (c : HolType) (a : ℕ) (one : Sequent) → j ≡ a → occurs j (part_tree symbols inner s c (a, one)) ≡ true
    part-used inner s c a one e = within s (part_arguments_of symbols inner c (a, one)) (premise_tree inner (a, one)) (inr (inr (inr (inl refl))))
        (premise-occurs inner a one e)

    law-used : (b d : HolType) (t u : Term) (s : ℕ) (c : HolType) (a : ℕ) (one : Sequent) → IsIn (a ∷ []) j
        → occurs j (law_tree symbols scope b d t u s c (a, one)) ≡ true
    law-used b d t u s c a one (inr none) = absurd none
    law-used b d t u s c a one (inl same) =
        let D = term_of (type_tree symbols scope.types b) in
        let part = part_tree symbols (lifted scope) s c (a, one) in
        within fun_ext_symbol
        (type_tree symbols scope.types b ∷ type_tree symbols scope.types d ∷ term_tree symbols scope (lam b t) ∷ term_tree symbols scope (lam b u) ∷ Lam D
        (App part (Var 0)) ∷ [])
        (Lam D (App part (Var 0))) (inr (inr (inr (inr (inl refl)))))
        (under_lam D (App part (Var 0)) (ap (λ x. x || occurs j (Var 0)) (part-used (lifted scope) s c a one same)))

    -- and so do the laws in version 5
    first-used : (names : TypeNames) (c : HolType) (a : ℕ) (one : Sequent) → IsIn (a ∷ []) j
        → occurs j (first_law_free_tree symbols scope names c (a, one)) ≡ true
    first-used names c a one (inr none) = absurd none
    first-used names c a one (inl same) = ap (λ b. b || occurs j (term_tree symbols scope (new_variable names)))
        (part-used (filled symbols scope.types) sub_abs_rep_symbol c a one same)

    second-used : (names : TypeNames) (c : HolType) (a : ℕ) (one : Sequent) → IsIn (a ∷ []) j
        → occurs j (second_law_free_tree symbols scope names c (a, one)) ≡ true
    second-used names c a one (inr none) = absurd none
    second-used names c a one (inl same) =
        let x = term_tree symbols scope (old_variable c) in
        let last = App (part_tree symbols (filled symbols scope.types) sub_rep_abs_symbol c (a, one)) x in
        within sym_symbol
        (type_tree symbols scope.types bool ∷ term_tree symbols scope (equation c (represented names c (abstracted names c (old_variable c))) (old_variable c))
        ∷ term_tree symbols scope (app (predicate one.conclusion) (old_variable c)) ∷ last ∷ [])
        last (inr (inr (inr (inl refl)))) (ap (λ b. b || occurs j x) (part-used (filled symbols scope.types) sub_rep_abs_symbol c a one same))

    -- The proof of a step uses its premises
    pub premises-used : (before : List Item) (kind : StepKind) (js : List ℕ) (premises : List Sequent) (given : Parameters) (s : Sequent)
        → Rule kind premises given s → ArePremisesAmong before js premises → ProvesHypothesis kind premises → Uses kind premises given js
    premises-used before kind js premises given s (rule.refl h e) among used = none before kind given js among
    premises-used before kind js premises given s (rule.assume h e) among used = none before kind given js among
    premises-used before kind js premises given s (rule.beta_conv h e) among used = none before kind given js among
    premises-used before kind js premises given s (rule.define_const h e) among used = none before kind given js among
    premises-used before kind js premises given s (rule.recorded is) among used = none before kind given js among
    premises-used before kind js premises given s (rule.first_law {names = names} {one = one} d e) among used =
        let w = one-premise before js one among in
        subst (Uses kind premises given) (sym w.1)
        (law-used (new_type names) (new_type names)
        (abstracted names (type_or (witness one.conclusion)) (represented names (type_or (witness one.conclusion)) (bound 0))) (bound 0) sub_abs_rep_symbol
        (type_or (witness one.conclusion)) w.0 one)
    premises-used before kind js premises given s (rule.second_law {names = names} {one = one} d e) among used =
        let w = one-premise before js one among in
        let c = type_or (witness one.conclusion) in
        subst (Uses kind premises given) (sym w.1)
        (law-used c bool (equation c (represented names c (abstracted names c (bound 0))) (bound 0)) (app (predicate one.conclusion) (bound 0))
        sub_rep_abs_symbol c w.0 one)
    premises-used before kind js premises given s (rule.first_law_free {names = names} {one = one} d e) among used =
        let w = one-premise before js one among in
        subst (Uses kind premises given) (sym w.1) (first-used names (type_or (witness one.conclusion)) w.0 one)
    premises-used before kind js premises given s (rule.second_law_free {names = names} {one = one} d e) among used =
        let w = one-premise before js one among in
        subst (Uses kind premises given) (sym w.1) (second-used names (type_or (witness one.conclusion)) w.0 one)
    premises-used before kind js premises given s (rule.eq_mp {one = one} {two = two} e p i) among used =
        let w = two-premises before js one two among in
        let xs : List Tree = term_tree symbols scope (left_side one.conclusion) ∷ term_tree symbols scope (right_side one.conclusion) ∷ premise_tree scope
        (w.0, one) ∷ premise_tree scope (w.1, two) ∷ [] in
        subst (Uses kind premises given) (sym w.2) (λ k. elim k [
          | inl same ↦ within eq_mp_symbol xs (premise_tree scope (w.0, one)) (inr (inr (inl refl))) (premise-occurs scope w.0 one same)
          | inr (inl same) ↦ within eq_mp_symbol xs (premise_tree scope (w.1, two)) (inr (inr (inr (inl refl)))) (premise-occurs scope w.1 two same)
          | inr (inr no_more) ↦ absurd no_more
        ])
    premises-used before kind js premises given s (rule.abs_thm {v = v} {one = one} e p i) among used =
        let w = one-premise before js one among in
        let xs : List Tree = type_tree symbols scope.types (v.1) ∷ type_tree symbols scope.types (equated_type one.conclusion) ∷ Lam
        (term_of (type_tree symbols scope.types (v.1))) (term_tree symbols (under_term v scope) (left_side one.conclusion)) ∷ Lam
        (term_of (type_tree symbols scope.types (v.1))) (term_tree symbols (under_term v scope) (right_side one.conclusion)) ∷ Lam
        (term_of (type_tree symbols scope.types (v.1))) (premise_tree (under_term v scope) (w.0, one)) ∷ [] in
        subst (Uses kind premises given) (sym w.1) (λ k. elim k [
          | inl same ↦ within fun_ext_symbol xs _ (inr (inr (inr (inr (inl refl)))))
              (under_lam (term_of (type_tree symbols scope.types v.1)) (premise_tree (under_term v scope) (w.0, one))
              (premise-occurs (under_term v scope) w.0 one same))
          | inr no_more ↦ absurd no_more
        ])
    premises-used before kind js premises given s (rule.app_thm {one = one} {two = two} e p i) among used =
        let w = two-premises before js one two among in
        let xs : List Tree = type_tree symbols scope.types (argument_type (equated_type one.conclusion)) ∷ type_tree symbols scope.types
        (result_type (equated_type one.conclusion)) ∷ term_tree symbols scope (left_side one.conclusion) ∷ term_tree symbols scope
        (right_side one.conclusion) ∷ term_tree symbols scope (left_side two.conclusion) ∷ term_tree symbols scope (right_side two.conclusion) ∷
        premise_tree scope (w.0, one) ∷ premise_tree scope (w.1, two) ∷ [] in
        subst (Uses kind premises given) (sym w.2) (λ k. elim k [
          | inl same ↦ within app_thm_symbol xs (premise_tree scope (w.0, one)) (inr (inr (inr (inr (inr (inr (inl refl)))))))
              (premise-occurs scope w.0 one same)
          | inr (inl same) ↦ within app_thm_symbol xs (premise_tree scope (w.1, two)) (inr (inr (inr (inr (inr (inr (inr (inl refl))))))))
              (premise-occurs scope w.1 two same)
          | inr (inr no_more) ↦ absurd no_more
        ])
    premises-used before kind js premises given s (rule.deduct_antisym {one = one} {two = two} e) among used =
        let w = two-premises before js one two among in
        let xs : List Tree = term_tree symbols scope (one.conclusion) ∷ term_tree symbols scope (two.conclusion) ∷ Lam
        (proof_of (term_tree symbols scope (one.conclusion))) (premise_tree (under_proof one.conclusion scope) (w.1, two)) ∷ Lam
        (proof_of (term_tree symbols scope (two.conclusion))) (premise_tree (under_proof two.conclusion scope) (w.0, one)) ∷ [] in
        let p = one.conclusion in
        let q = two.conclusion in
        subst (Uses kind premises given) (sym w.2) (λ k. elim k [
          | inl same ↦ within prop_ext_symbol xs _ (inr (inr (inr (inl refl))))
              (under_lam (proof_of (term_tree symbols scope q)) (premise_tree (under_proof q scope) (w.0, one))
              (premise-occurs (under_proof q scope) w.0 one same))
          | inr (inl same) ↦ within prop_ext_symbol xs _ (inr (inr (inl refl)))
              (under_lam (proof_of (term_tree symbols scope p)) (premise_tree (under_proof p scope) (w.1, two))
              (premise-occurs (under_proof p scope) w.1 two same))
          | inr (inr no_more) ↦ absurd no_more
        ])
    premises-used before kind js premises given s (rule.sym {one = one} e p) among used =
        let w = one-premise before js one among in
        let xs : List Tree = type_tree symbols scope.types (equated_type one.conclusion) ∷ term_tree symbols scope (left_side one.conclusion) ∷ term_tree
        symbols scope (right_side one.conclusion) ∷ premise_tree scope (w.0, one) ∷ [] in
        subst (Uses kind premises given) (sym w.1) (λ k. elim k [
          | inl same ↦ within sym_symbol xs (premise_tree scope (w.0, one)) (inr (inr (inr (inl refl)))) (premise-occurs scope w.0 one same)
          | inr no_more ↦ absurd no_more
        ])
    premises-used before kind js premises given s (rule.trans {one = one} {two = two} e p i) among used =
        let w = two-premises before js one two among in
        let xs : List Tree = type_tree symbols scope.types (equated_type one.conclusion) ∷ term_tree symbols scope (left_side one.conclusion) ∷ term_tree
        symbols scope (right_side one.conclusion) ∷ term_tree symbols scope (right_side two.conclusion) ∷ premise_tree scope (w.0, one) ∷ premise_tree scope
        (w.1, two) ∷ [] in
        subst (Uses kind premises given) (sym w.2) (λ k. elim k [
          | inl same ↦ within trans_symbol xs (premise_tree scope (w.0, one)) (inr (inr (inr (inr (inl refl))))) (premise-occurs scope w.0 one same)
          | inr (inl same) ↦ within trans_symbol xs (premise_tree scope (w.1, two)) (inr (inr (inr (inr (inr (inl refl)))))) (premise-occurs scope w.1 two same)
          | inr (inr no_more) ↦ absurd no_more
        ])
    premises-used before kind js premises given s (rule.prove_hyp {one = one} {two = two} e) among used =
        let w = two-premises before js one two among in
        subst (Uses kind premises given) (sym w.2) (λ k. elim k [
          | inl same ↦ hypothesis-occurs w.0 w.1 one two used same
          | inr (inl same) ↦ premise-occurs (set_proof one.conclusion (premise_tree scope (w.0, one)) scope) w.1 two same
          | inr (inr no_more) ↦ absurd no_more
        ])
    premises-used before kind js premises given s (rule.subst {types = types} {terms = terms} {one = one} h e) among used =
        let w = one-premise before js one among in
        subst (Uses kind premises given) (sym w.1) (λ k. elim k [
          | inl same ↦ premise-occurs (images symbols types terms scope) w.0 one same
          | inr no_more ↦ absurd no_more
        ])
    premises-used before kind js premises given s (rule.restate {one = one} is l) among used =
        let w = one-premise before js one among in
        subst (Uses kind premises given) (sym w.1) (λ k. elim k [
          | inl same ↦ premise-occurs scope w.0 one same
          | inr no_more ↦ absurd no_more
        ])
    premises-used before kind js premises given s (rule.define_const_list {pairs = pairs} {one = one} d l e) among used =
        let w = one-premise before js one among in
        subst (Uses kind premises given) (sym w.1) (λ k. elim k [
          | inl same ↦ premise-occurs (constants_scope symbols scope (constants_put pairs)) w.0 one same
          | inr no_more ↦ absurd no_more
        ])
