-- In a list of constants that is accepted each variable is free in the hypothesis that defines it, and its constant is put for it.
use Rattle.std.proofs.Common.{◌≡◌, List, [], ◌∷◌, Bool, true, false, ◌||◌, cond, Option, Some, None, inl, inr, refl, sym, ap, subst, ◌∙◌}
use Rattle.std.specs.Prelude.{is_some, not, unwrap_or}
use Rattle.std.specs.Map.{lookup}
use Rattle.std.specs.List.{filter, filter_map, cons_option, flat_map}
use Rattle.std.proofs.lemmas.Option.{same_Some}
use Rattle.std.proofs.lemmas.Bool.{and_parts, not-true, both_ways}
use Rattle.hol_spec.specs.Names.{Name}
use Rattle.hol_spec.specs.Types.{HolType}
use Rattle.hol_spec.specs.Lists.{IsIn, is_in}
use Rattle.hol_laws.specs.Members.{IsIn-left, IsIn-distinct, IsIn-flat_map}
use Rattle.hol_spec.specs.Terms.{Term, free, constant, Variable, variable_eq, free_places, equation}
use Rattle.hol_laws.specs.TermLaws.{variable_eq-Decides}
use Rattle.hol_spec.specs.TermSubstitution.{TermPairs, term_image}
use Rattle.hol_spec.specs.Sequents.{Sequent, terms_of, free_variables_of}
use Rattle.hol_spec.specs.Repeats.{no_repeats}
use Rattle.hol_spec.specs.Equations.{Equation, equation_parts}
use Rattle.hol_spec.specs.DefinitionLists.{ConstantPairs, variables_of, variable_side, of_equation, variable_equation, defining_equations, definiens, is_definition_list, constants_put}
use Rattle.hol_proof_laws.specs.EquationLaws.{equation_parts-is}
use Rattle.hol_proof_laws.specs.RuleTaken.{list_parts}
use Rattle.hol_proof_laws.specs.DefinitionListLaws.{passes}

-- what is in a list passes the test
in-list : (vs : List Variable) (v : Variable) → IsIn vs v → is_in variable_eq v vs ≡ true
in-list [] v i = absurd i
in-list (w ∷ vs) v (inl e) = ap (λ b. b || is_in variable_eq v vs) ((variable_eq-Decides v w).1 e)
in-list (w ∷ vs) v (inr i) = go (variable_eq v w) (in-list vs v i)
  where
    go : (b : Bool) → is_in variable_eq v vs ≡ true → (b || is_in variable_eq v vs) ≡ true
    go true e = refl
    go false e = e

-- a look-up that finds something finds a pair of this variable
lookup-pair : (es : TermPairs) (v : Variable) → is_some (lookup (variable_eq v) es) ≡ true → (e : Variable × Term) × IsIn es e × (e.0 ≡ v)
lookup-pair [] v h = absurd (cc)
lookup-pair (x ∷ es) v h = go (variable_eq v x.0) (variable_eq-Decides v x.0).0 h (lookup-pair es v)
  where
    go : (b : Bool) → (b ≡ true → v ≡ x.0) → is_some (cond b (Some x.1) (lookup (variable_eq v) es)) ≡ true
        → (is_some (lookup (variable_eq v) es) ≡ true → (e : Variable × Term) × IsIn es e × (e.0 ≡ v))
        → (e : Variable × Term) × IsIn (x ∷ es) e × (e.0 ≡ v)
    go true same h rest = (x, inl refl, sym (same refl))
    go false same h rest = let r = rest h in (r.0, inr r.1, r.2)

-- what is filtered comes from one of them
filtered-from : (f : Term → Option (Variable × Term)) (p : Variable × Term → Bool) (hs : List Term) (e : Variable × Term) → IsIn (filter p (filter_map f hs)) e
    → (h : Term) × IsIn hs h × (f h ≡ Some e)
filtered-from f p [] e i = absurd i
filtered-from f p (x ∷ hs) e i = by_option (f x) refl i (filtered-from f p hs e)
  where
    by_test : (y : Variable × Term) → f x ≡ Some y → (b : Bool) → IsIn (cond b (y ∷ filter p (filter_map f hs)) (filter p (filter_map f hs))) e
        → (IsIn (filter p (filter_map f hs)) e → (h : Term) × IsIn hs h × (f h ≡ Some e)) → (h : Term) × IsIn (x ∷ hs) h × (f h ≡ Some e)
    by_test y is true (inl same) rest = (x, inl refl, is ∙ ap Some (sym same))
    by_test y is true (inr j) rest = let r = rest j in (r.0, inr r.1, r.2)
    by_test y is false j rest = let r = rest j in (r.0, inr r.1, r.2)

    by_option : (o : Option (Variable × Term)) → f x ≡ o → IsIn (filter p (cons_option o (filter_map f hs))) e
        → (IsIn (filter p (filter_map f hs)) e → (h : Term) × IsIn hs h × (f h ≡ Some e))
        → (h : Term) × IsIn (x ∷ hs) h × (f h ≡ Some e)
    by_option None is j rest = let r = rest j in (r.0, inr r.1, r.2)
    by_option (Some y) is j rest = by_test y is (p y) j rest

-- the variable of an equation is free in it
side-free : (l r : Term) (a : HolType) (e : Variable × Term) → variable_side l r ≡ Some e → IsIn (free_places (equation a l r)) e.0
side-free (free n b) r a e h = inl (ap (λ (q : Variable × Term). q.0) (sym (same_Some _ _ h)))
side-free l r a e h = absurd (cc)

equation-free : (h : Term) (o : Option Equation) → equation_parts h ≡ o → (e : Variable × Term) → of_equation o ≡ Some e → IsIn (free_places h) e.0
equation-free h None is e f = absurd (cc)
equation-free h (Some q) is e f = subst (λ t. IsIn (free_places t) e.0) (sym (equation_parts-is h q is)) (side-free q.left q.right q.ty e f)

-- Each variable of the list is free in the premise
pub listed-free : (pairs : ConstantPairs) (one : Sequent) → is_definition_list pairs one ≡ true → (v : Variable) → IsIn (variables_of pairs) v
    → IsIn (free_variables_of one) v
listed-free pairs one good v i =
    let found = passes (λ w. is_some (definiens pairs one.hypotheses w)) (variables_of pairs) (list_parts pairs one good).defined v
    (in-list (variables_of pairs) v i) in
    let e = lookup-pair (defining_equations pairs one.hypotheses) v found in
    let h = filtered-from variable_equation (λ e. is_in variable_eq e.0 (variables_of pairs)) one.hypotheses e.0 e.1 in
    let place = subst (IsIn (free_places h.0)) e.2 (equation-free h.0 (equation_parts h.0) refl e.0 h.2) in
    IsIn-distinct variable_eq variable_eq-Decides (flat_map free_places (terms_of one)) v
    (IsIn-flat_map free_places (terms_of one) h.0 v (IsIn-left one.hypotheses (one.conclusion ∷ []) h.0 h.1) place)

-- the variable of a pair is one of the list
pub listed-variable : (pairs : ConstantPairs) (p : Name × Variable) → IsIn pairs p → IsIn (variables_of pairs) p.1
listed-variable [] p i = absurd i
listed-variable (q ∷ pairs) p (inl e) = inl (ap (λ (r : Name × Variable). r.1) e)
listed-variable (q ∷ pairs) p (inr i) = inr (listed-variable pairs p i)

-- what a look-up of the variable of a pair finds
put-at : (p : Name × Variable) (qs : ConstantPairs) → no_repeats variable_eq (variables_of qs) ≡ true → IsIn qs p
    → lookup (variable_eq p.1) (constants_put qs) ≡ Some (constant p.0 p.1.1)
put-at p [] h i = absurd i
put-at p (q ∷ qs) h (inl e) =
    ap (λ b. cond b (Some (constant q.0 q.1.1)) (lookup (variable_eq p.1) (constants_put qs)))
    ((variable_eq-Decides p.1 q.1).1 (ap (λ (r : Name × Variable). r.1) e))
    ∙ ap (λ (r : Name × Variable). Some (constant r.0 r.1.1)) (sym e)
put-at p (q ∷ qs) h (inr i) =
    let parts = and_parts (not (is_in variable_eq q.1 (variables_of qs))) (no_repeats variable_eq (variables_of qs)) h in
    go (variable_eq p.1 q.1) refl (variable_eq-Decides p.1 q.1).0 (not-true (is_in variable_eq q.1 (variables_of qs)) parts.0) (put-at p qs parts.1 i)
  where
    go : (b : Bool) → variable_eq p.1 q.1 ≡ b → (variable_eq p.1 q.1 ≡ true → p.1 ≡ q.1) → is_in variable_eq q.1 (variables_of qs) ≡ false
        → lookup (variable_eq p.1) (constants_put qs) ≡ Some (constant p.0 p.1.1)
        → lookup (variable_eq p.1) (constants_put (q ∷ qs)) ≡ Some (constant p.0 p.1.1)
    go true e f new rest = absurd
        (both_ways (is_in variable_eq q.1 (variables_of qs)) new
        (in-list (variables_of qs) q.1 (subst (IsIn (variables_of qs)) (f e) (listed-variable qs p i))))
    go false e f new rest = ap (λ b. cond b (Some (constant q.0 q.1.1)) (lookup (variable_eq p.1) (constants_put qs))) e ∙ rest

-- And its constant is put for it
pub constant-put : (pairs : ConstantPairs) → no_repeats variable_eq (variables_of pairs) ≡ true → (p : Name × Variable) → IsIn pairs p
    → term_image (constants_put pairs) p.1 ≡ constant p.0 p.1.1
constant-put pairs h p i = ap (λ o. unwrap_or o (free p.1.0 p.1.1)) (put-at p pairs h i)

-- what is put is a constant of the list
pub put-from : (pairs : ConstantPairs) (w : Variable × Term) → IsIn (constants_put pairs) w
    → (p : Name × Variable) × IsIn pairs p × (w ≡ (p.1, constant p.0 p.1.1))
put-from [] w i = absurd i
put-from (q ∷ pairs) w (inl e) = (q, inl refl, e)
put-from (q ∷ pairs) w (inr i) = let r = put-from pairs w i in (r.0, inr r.1, r.2)
