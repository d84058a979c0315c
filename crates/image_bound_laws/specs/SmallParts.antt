-- Costs of what a type definition gives, in a plain scope: a symbol of parts at the premise, and each of the two laws.
use Rattle.std.proofs.Common.{◌≡◌, ℕ, ◌+◌, ◌*◌, ◌≤◌, List, [], ◌∷◌, sym, ap, subst, arith}
use Rattle.hol_spec.specs.Types.{HolType}
use Rattle.hol_spec.specs.Primitives.{bool, function}
use Rattle.hol_spec.specs.Terms.{Term, bound, app, lam, equation}
use Rattle.hol_spec.specs.Sequents.{Sequent}
use Rattle.hol_spec.specs.Definitions.{TypeNames}
use Rattle.hol_spec.specs.NewTypes.{new_type}
use Rattle.hol_spec.specs.TypeDefinitions.{IsTypeDefinition, abstracted, represented}
use Rattle.hol_spec.specs.TypeDefinitions as type_definition
use Rattle.lp_spec.specs.Trees.{Tree, Var, App, Lam}
use Rattle.lp_spec.specs.Modules.{Declaration, term_of, sub_abs_rep_symbol, sub_rep_abs_symbol}
use Rattle.translate_spec.specs.Scopes.{SymbolMap, type_tree, Scope, term_tree, lifted, filled}
use Rattle.translate_spec.specs.ProofTrees.{predicate, witness, premise_tree, part_tree, law_tree, first_law_tree, second_law_tree, first_law_free_tree, second_law_free_tree}
use Rattle.translate_spec.specs.Rows.{type_or}
use Rattle.translate_laws.specs.ScopeTyping.{TypeOver-type_under}
use Rattle.translate_laws.specs.Bodies.{HasLemmas, equation-over}
use Rattle.image_bound_laws.specs.FewVariables.{HasType-size}
use Rattle.image_bound_laws.specs.ShallowRows.{part-type}
use Rattle.image_bound_laws.specs.Costs.{cost}
use Rattle.image_bound_laws.specs.SmallScopes.{IsPlainScope, lifted-plain, filled-plain}
use Rattle.image_bound_laws.specs.SmallTheorems.{part_cost}
use Rattle.image_bound_laws.specs.HeadCosts.{IsPartBound, fun_ext-cost, sym-cost, sub_abs_rep-cost, sub_rep_abs-cost}
use Rattle.image_bound_laws.specs.SmallPremises.{premise_cost, row_cost, IsSmallTerm, IsSmallType, IsSmallPremise, conclusion-small, ty-cost, tm-cost, premise-cost}

-- what a symbol of parts costs at most
abbrev pub named_part_cost : ℕ
named_part_cost = 62 * part_cost + 5 * premise_cost

module _ (m : List Declaration) (symbols : SymbolMap) (names : TypeNames) (c : HolType) (f : Term) (j : ℕ) (one : Sequent) (d : IsTypeDefinition names c f one)
    (v : IsSmallPremise m symbols j one) where
  says : IsSmallTerm m symbols (app f d.witness)
  says = subst (IsSmallTerm m symbols) d.holds (conclusion-small m symbols one v.is.over v.within)

  predicate-small : IsSmallTerm m symbols (predicate one.conclusion)
  predicate-small = subst (λ t. IsSmallTerm m symbols (predicate t)) (sym d.holds)
      (record { over = says.over.0; size = (let k = says.size in omega (arith, k)) })

  witness-small : IsSmallTerm m symbols (witness one.conclusion)
  witness-small = subst (λ t. IsSmallTerm m symbols (witness t)) (sym d.holds) (record { over = says.over.1; size = (let k = says.size in omega (arith, k)) })

  part-small : IsSmallType m symbols c
  part-small = record {
    over = TypeOver-type_under m symbols [] (λ k b e. absurd (cc)) d.witness c says.over.1 d.typed;
    size = (let l = HasType-size d.witness c d.typed in let k = says.size in omega (arith, l, k));
  }

  module _ (scope : Scope) (h : IsPlainScope symbols scope) where
    pub part_tree-cost : (args : List Tree) (i : ℕ) → IsPartBound m part_cost args i → cost m args (part_tree symbols scope i c (j, one)) ≤ named_part_cost
    part_tree-cost args i b =
        let x = ty-cost m symbols scope h c part-small in
        let y = tm-cost m symbols scope h (predicate one.conclusion) predicate-small in
        let z = tm-cost m symbols scope h (witness one.conclusion) witness-small in
        let k = premise-cost m symbols scope h j one v in
        let whole = b (type_tree symbols scope.types c) (term_tree symbols scope (predicate one.conclusion)) (term_tree symbols scope (witness one.conclusion))
        (premise_tree scope (j, one)) (omega (arith, x)) (omega (arith, y)) (omega (arith, z)) in
        omega (arith, whole, k)

  module _ (scope : Scope) (h : IsPlainScope symbols scope) where
    -- extensionality of what is concluded
    law-cost : (a b : HolType) (t u : Term) (i : ℕ) → IsPartBound m part_cost (Var 0 ∷ []) i → {p : Term} → p ≡ equation (function a b) (lam a t) (lam a u)
        → IsSmallTerm m symbols p → cost m [] (law_tree symbols scope a b t u i c (j, one)) ≤ row_cost
    law-cost a b t u i bounded e k =
        let shown = subst (IsSmallTerm m symbols) e k in
        let parts = equation-over m symbols (function a b) (lam a t) (lam a u) shown.over in
        let own = shown.size in
        let x = ty-cost m symbols scope h a (record { over = parts.ty.1.0; size = omega (arith, own) }) in
        let y = ty-cost m symbols scope h b (record { over = parts.ty.1.1.0; size = omega (arith, own) }) in
        let f = tm-cost m symbols scope h (lam a t) (record { over = parts.left; size = omega (arith, own) }) in
        let g = tm-cost m symbols scope h (lam a u) (record { over = parts.right; size = omega (arith, own) }) in
        let part = part_tree-cost (lifted scope) (lifted-plain symbols scope h) (Var 0 ∷ []) i bounded in
        let A = type_tree symbols scope.types a in
        let P = part_tree symbols (lifted scope) i c (j, one) in
        let whole = fun_ext-cost m part_cost A (type_tree symbols scope.types b) (term_tree symbols scope (lam a t)) (term_tree symbols scope (lam a u))
        (Lam (term_of A) (App P (Var 0)))
        (omega (arith, x)) (omega (arith, y)) (omega (arith, f)) (omega (arith, g)) in
        let inner = body-cost A P (omega (arith, x)) part in
        omega (arith, whole, inner)
      where
        body-cost : (A P : Tree) → cost m [] A ≤ part_cost → cost m (Var 0 ∷ []) P ≤ named_part_cost
            → cost m [] (Lam (term_of A) (App P (Var 0))) ≤ part_cost + named_part_cost + 50
        body-cost A P x y = omega (arith, x, y)

    pub first_law-cost : (s : Sequent) → s ≡ type_definition.first_law names c → IsSmallTerm m symbols s.conclusion
        → cost m [] (first_law_tree symbols scope names (type_or (witness one.conclusion)) (j, one)) ≤ row_cost
    first_law-cost s e k =
        subst (λ c. cost m [] (first_law_tree symbols scope names c (j, one)) ≤ row_cost) (sym (part-type names c f one d))
        (law-cost (new_type names) (new_type names) (abstracted names c (represented names c (bound 0))) (bound 0) sub_abs_rep_symbol
        (sub_abs_rep-cost m part_cost (Var 0) (omega arith)) (ap (λ (x : Sequent). x.conclusion) e) k)

    pub second_law-cost : (s : Sequent) → s ≡ type_definition.second_law names c f → IsSmallTerm m symbols s.conclusion
        → cost m [] (second_law_tree symbols scope names (type_or (witness one.conclusion)) (j, one)) ≤ row_cost
    second_law-cost s e k =
        let left = lam c (equation c (represented names c (abstracted names c (bound 0))) (bound 0)) in
        subst (λ c. cost m [] (second_law_tree symbols scope names c (j, one)) ≤ row_cost) (sym (part-type names c f one d))
        (law-cost c bool (equation c (represented names c (abstracted names c (bound 0))) (bound 0)) (app (predicate one.conclusion) (bound 0))
        sub_rep_abs_symbol (sub_rep_abs-cost m part_cost (Var 0) (omega arith))
        (subst (λ p. s.conclusion ≡ equation (function c bool) left (lam c (app p (bound 0)))) (sym (ap predicate d.holds))
        (ap (λ (x : Sequent). x.conclusion) e)) k)

    -- in version 5: a symbol of parts at a variable
    call-cost : (i : ℕ) (x : Term) → IsSmallTerm m symbols x → ((y : Tree) → cost m [] y ≤ part_cost → IsPartBound m part_cost (y ∷ []) i)
        → cost m [] (App (part_tree symbols (filled symbols scope.types) i c (j, one)) (term_tree symbols scope x)) ≤ part_cost + named_part_cost + 10
    call-cost i x k bounded =
        let l = tm-cost m symbols scope h x k in
        let y = term_tree symbols scope x in
        let part = part_tree-cost (filled symbols scope.types) (filled-plain symbols scope.types h.types) (y ∷ []) i (bounded y (omega (arith, l))) in
        omega (arith, l, part)

    pub first_free-cost : (s : Sequent) → s ≡ type_definition.first_law_free names c → IsSmallTerm m symbols s.conclusion
        → cost m [] (first_law_free_tree symbols scope names (type_or (witness one.conclusion)) (j, one)) ≤ row_cost
    first_free-cost s e k =
        let v = type_definition.new_variable names in
        let shown = subst (IsSmallTerm m symbols) (ap (λ (x : Sequent). x.conclusion) e) k in
        let parts = equation-over m symbols (new_type names) (abstracted names c (represented names c v)) v shown.over in
        let own = shown.size in
        let whole = call-cost sub_abs_rep_symbol v (record { over = parts.right; size = omega (arith, own) }) (sub_abs_rep-cost m part_cost) in
        subst (λ c. cost m [] (first_law_free_tree symbols scope names c (j, one)) ≤ row_cost) (sym (part-type names c f one d)) (omega (arith, whole))

    pub second_free-cost : HasLemmas m → (s : Sequent) → s ≡ type_definition.second_law_free names c f → IsSmallTerm m symbols s.conclusion
        → cost m [] (second_law_free_tree symbols scope names (type_or (witness one.conclusion)) (j, one)) ≤ row_cost
    second_free-cost lemmas s e k =
        let r = type_definition.old_variable c in
        let p = predicate one.conclusion in
        let right = equation c (represented names c (abstracted names c r)) r in
        let says : s.conclusion ≡ equation bool (app p r) right =
        subst (λ q. s.conclusion ≡ equation bool (app q r) right) (sym (ap predicate d.holds)) (ap (λ (x : Sequent). x.conclusion) e) in
        let shown = subst (IsSmallTerm m symbols) says k in
        let parts = equation-over m symbols bool (app p r) right shown.over in
        let inner = equation-over m symbols c (represented names c (abstracted names c r)) r parts.right in
        let own = shown.size in
        let x = ty-cost m symbols scope h bool (record { over = parts.ty; size = omega (arith, own) }) in
        let y = tm-cost m symbols scope h right (record { over = parts.right; size = omega (arith, own) }) in
        let z = tm-cost m symbols scope h (app p r) (record { over = parts.left; size = omega (arith, own) }) in
        let last = call-cost sub_rep_abs_symbol r (record { over = inner.right; size = omega (arith, own) }) (sub_rep_abs-cost m part_cost) in
        let whole = sym-cost m part_cost lemmas (type_tree symbols scope.types bool) (term_tree symbols scope right) (term_tree symbols scope (app p r))
        (App (part_tree symbols (filled symbols scope.types) sub_rep_abs_symbol c (j, one)) (term_tree symbols scope r)) (omega (arith, x)) (omega (arith, y))
        (omega (arith, z)) in
        subst (λ c. cost m [] (second_law_free_tree symbols scope names c (j, one)) ≤ row_cost) (sym (part-type names c f one d)) (omega (arith, whole, last))
