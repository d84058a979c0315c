-- What a definition step defines is among the items.
use Rattle.std.proofs.Common.{◌≡◌, ◌≤◌, List, [], ◌∷◌, ◌++◌, length, Bool, true, false, cond, ◌||◌, Option, None, Some, inl, inr, ⊎_elim, refl, sym, ap, subst, ◌∙◌, append_assoc, arith}
use Rattle.std.specs.Prelude.{is_some, nat_eq}
use Rattle.std.specs.Option.{option_map, unwrap_or}
use Rattle.std.specs.Map.{lookup}
use Rattle.std.specs.List.{AllByRecursion, IsDistinct, filter, filter_map, cons_option, flat_map, list_all, list_any}
use Rattle.std.proofs.lemmas.Bool.Decides.{Decides-eqb}
use Rattle.std.proofs.lemmas.List.{length-append, length-map}
use Rattle.std.proofs.lemmas.Map.Steps.{length-le_from_keys}
use Rattle.std.proofs.lemmas.Bool.{and_parts}
use Rattle.hol_spec.specs.Names.{Name}
use Rattle.hol_spec.specs.NameEquality.{name_eq}
use Rattle.hol_laws.specs.NameEqualityLaws.{name_eq-Decides}
use Rattle.hol_spec.specs.Types.{HolType}
use Rattle.hol_spec.specs.Lists.{is_in, distinct, IsIn}
use Rattle.hol_laws.specs.ListLaws.{union-All}
use Rattle.hol_spec.specs.Primitives.{bool}
use Rattle.hol_spec.specs.Terms as term
use Rattle.hol_spec.specs.Terms.{Term, Variable, variable_eq, type_of, HasType, equation, free_places}
use Rattle.hol_laws.specs.TermLaws.{variable_eq-Decides}
use Rattle.hol_spec.specs.TermSubstitution.{TermPairs}
use Rattle.hol_spec.specs.Sequents.{Sequent, IsSequent, free_variables_of}
use Rattle.hol_spec.specs.Definitions.{Definition}
use Rattle.hol_spec.specs.DefinitionLists.{ConstantPairs, variables_of, variable_equation, defining_equations, definiens, is_definition_list, constants_put}
use Rattle.hol_proof_laws.specs.DefinitionListLaws.{every-hypothesis, hypothesis-is, passes, equivalence, distinct_variables, counted}
use Rattle.hol_proof_laws.specs.RuleTaken.{lookup-All, ListParts, list_parts}
use Rattle.hol_spec.specs.Rules.{IsDefining}
use Rattle.hol_spec.specs.Symbols.{Symbol}
use Rattle.hol_spec.specs.Proofs.{symbol_definition}
use Rattle.hol_laws.specs.Members.{All-weaker, All-at, All-each, All-append, IsIn-either, is_in-IsIn, IsIn-distinct}
use Rattle.translate_spec.specs.Rows.{type_or}
use Rattle.translate_spec.specs.Items.{defined_constant, Item}
use Rattle.translate_laws.specs.ItemConditions.{Has, TermTaken, IsDefinedBy, IsDefiningEquation}
use Rattle.translate_laws.specs.ItemConditions as items
use Rattle.translate_laws.specs.SymbolsHeld.{IsHeld}

abbrev pub IsDefinitionHeld : List Item → Definition → Type 0
IsDefinitionHeld ps (Definition.constant n t) = Has ps (defined_constant n (type_or t) t)
IsDefinitionHeld ps (Definition.type_operator names c f) = Unit {0}

pub held-definitions : (ps : List Item) (ss : List Symbol) → AllByRecursion (IsHeld ps) ss
    → AllByRecursion (IsDefinitionHeld ps) (filter_map symbol_definition ss)
held-definitions ps [] h = tt
held-definitions ps (Symbol.input_constant n ∷ ss) h = held-definitions ps ss h.1
held-definitions ps (Symbol.input_operator n k ∷ ss) h = held-definitions ps ss h.1
held-definitions ps (Symbol.defined (Definition.constant n t) ∷ ss) h = (h.0.0, held-definitions ps ss h.1)
held-definitions ps (Symbol.defined (Definition.type_operator names c f) ∷ ss) h = (tt {0}, held-definitions ps ss h.1)

pub type_or-is : (t : Term) (a : HolType) → HasType t a → type_or t ≡ a
type_or-is t a h = ap (λ o. unwrap_or o bool) h

pub closed-none : (vs : List Variable) → nat_eq (length vs) 0 ≡ true → AllByRecursion (λ v. ⊥) vs
closed-none [] e = tt
closed-none (v ∷ vs) e = let l : length (v ∷ vs) ≡ 0 = (Decides-eqb (length (v ∷ vs)) 0).0 e in absurd (omega (arith, l))

all-in : (ms ns : List Name) → list_all (λ n. is_in name_eq n ms) ns ≡ true → AllByRecursion (IsIn (distinct name_eq ms)) ns
all-in ms [] e = tt
all-in ms (n ∷ ns) e =
    let parts = and_parts (is_in name_eq n ms) (list_all (λ n. is_in name_eq n ms) ns) e in
    (IsIn-distinct name_eq name_eq-Decides ms n (is_in-IsIn name_eq name_eq-Decides ms n parts.0), all-in ms ns parts.1)

-- what defines a constant in the machine defines one among the items
pub is-defining : (ps : List Item) (a : HolType) (t : Term) → IsDefining a t → TermTaken ps t → items.IsDefining ps (type_or t) t
is-defining ps a t h k =
    subst (λ b. items.IsDefining ps b t) (sym (type_or-is t a h.typed))
    (record { typed = h.typed; taken = k; no_free = closed-none (free_places t) h.closed; type_variables = all-in _ _ h.variables })

-- in a list of as many pairs as there are variables, each of which it has, each pair is the one that is found
module _ (vs : List Variable) (apart : IsDistinct variable_eq vs) where
  abbrev Covers : TermPairs → Type 0
  Covers es = (q : Variable) → list_any (variable_eq q) vs ≡ true → is_some (lookup (variable_eq q) es) ≡ true

  found : (es : TermPairs) (e : Variable × Term) → IsIn es e → is_some (lookup (variable_eq e.0) es) ≡ true
  found [] e k = absurd k
  found (x ∷ es) e (inl same) = ap (λ b. is_some (cond b (Some x.1) (lookup (variable_eq e.0) es)))
      ((variable_eq-Decides e.0 x.0).1 (ap (λ (z : Variable × Term). z.0) same))
  found (x ∷ es) e (inr k) = go (variable_eq e.0 x.0) (found es e k)
    where
      go : (b : Bool) → is_some (lookup (variable_eq e.0) es) ≡ true → is_some (cond b (Some x.1) (lookup (variable_eq e.0) es)) ≡ true
      go true h = refl
      go false h = h

  dropped : (q : Variable) (x : Variable × Term) (post : TermPairs) → (variable_eq q x.0 ≡ true → is_some (lookup (variable_eq q) post) ≡ true)
      → (pre : TermPairs)
      → is_some (lookup (variable_eq q) (pre ++ x ∷ post)) ≡ true → is_some (lookup (variable_eq q) (pre ++ post)) ≡ true
  dropped q x post f [] h = go (variable_eq q x.0) refl h
    where
      go : (b : Bool) → variable_eq q x.0 ≡ b → is_some (cond b (Some x.1) (lookup (variable_eq q) post)) ≡ true → is_some (lookup (variable_eq q) post) ≡ true
      go true is h = f is
      go false is h = h
  dropped q x post f (y ∷ pre) h = go (variable_eq q y.0) h (dropped q x post f pre)
    where
      go : (b : Bool) → is_some (cond b (Some y.1) (lookup (variable_eq q) (pre ++ x ∷ post))) ≡ true
          → (is_some (lookup (variable_eq q) (pre ++ x ∷ post)) ≡ true → is_some (lookup (variable_eq q) (pre ++ post)) ≡ true)
          → is_some (cond b (Some y.1) (lookup (variable_eq q) (pre ++ post))) ≡ true
      go true h rest = refl
      go false h rest = rest h

  unique : (pre post : TermPairs) → length (pre ++ post) ≤ length vs → Covers (pre ++ post) → (e : Variable × Term) → IsIn post e
      → lookup (variable_eq e.0) post ≡ Some e.1
  unique pre [] l c e k = absurd k
  unique pre (x ∷ post) l c e (inl same) =
      ap (λ b. cond b (Some x.1) (lookup (variable_eq e.0) post)) ((variable_eq-Decides e.0 x.0).1 (ap (λ (z : Variable × Term). z.0) same))
      ∙ ap (λ (z : Variable × Term). Some z.1) (sym same)
  unique pre (x ∷ post) l c e (inr k) =
      go (variable_eq e.0 x.0) (variable_eq-Decides e.0 x.0).0
      (unique (pre ++ x ∷ []) post (subst (λ (es : TermPairs). length es ≤ length vs) (sym (append_assoc pre (x ∷ []) post)) l)
      (subst Covers (sym (append_assoc pre (x ∷ []) post)) c) e k)
    where
      shorter : e.0 ≡ x.0 → length vs ≤ length (pre ++ post)
      shorter same =
          length-le_from_keys equivalence vs (pre ++ post) apart
          (λ q h. dropped q x post
          (λ is. subst (λ (v : Variable). is_some (lookup (variable_eq v) post) ≡ true) (same ∙ sym ((variable_eq-Decides q x.0).0 is)) (found post e k))
          pre (c q h))

      go : (b : Bool) → (b ≡ true → e.0 ≡ x.0) → lookup (variable_eq e.0) post ≡ Some e.1 → cond b (Some x.1) (lookup (variable_eq e.0) post) ≡ Some e.1
      go true same rest =
          let s = shorter (same refl) in
          let one = length-append pre post in
          let two = length-append pre (x ∷ post) in
          absurd (omega (arith, s, l, one, two))
      go false same rest = rest

-- what passes is in the filtered list
module _ (f : Term → Option (Variable × Term)) (p : Variable × Term → Bool) where
  filtered : (hs : List Term) (h : Term) (e : Variable × Term) → IsIn hs h → f h ≡ Some e → p e ≡ true → IsIn (filter p (filter_map f hs)) e
  filtered [] h e k is good = absurd k
  filtered (x ∷ hs) h e (inl same) is good =
      subst (λ o. IsIn (filter p (cons_option o (filter_map f hs))) e) (sym (ap f (sym same) ∙ is))
      (subst (λ b. IsIn (cond b (e ∷ filter p (filter_map f hs)) (filter p (filter_map f hs))) e) (sym good) (inl refl))
  filtered (x ∷ hs) h e (inr k) is good = go (f x) (filtered hs h e k is good)
    where
      by_test : (y : Variable × Term) (b : Bool) → IsIn (filter p (filter_map f hs)) e
          → IsIn (cond b (y ∷ filter p (filter_map f hs)) (filter p (filter_map f hs))) e
      by_test y true i = inr i
      by_test y false i = i

      go : (o : Option (Variable × Term)) → IsIn (filter p (filter_map f hs)) e → IsIn (filter p (cons_option o (filter_map f hs))) e
      go None i = i
      go (Some y) i = by_test y (p y) i

after-option : {A : Type 0} (P : A → Type 0) (o : Option A) (xs : List A) → AllByRecursion P (cons_option o xs) → AllByRecursion P xs
after-option P None xs h = h
after-option P (Some x) xs h = h.1

-- a variable of the list is put by a constant, which its term defines
put-defined : (ps : List Item) (d : Variable → Option Term) (qs : ConstantPairs)
    → AllByRecursion (IsDefinitionHeld ps) (filter_map (λ p. option_map (Definition.constant p.0) (d p.1)) qs)
    → (v : Variable) (t : Term) → is_in variable_eq v (variables_of qs) ≡ true → d v ≡ Some t → HasType t v.1 → IsDefinedBy ps (constants_put qs) v t
put-defined ps d [] h v t i e k = absurd (cc)
put-defined ps d (q ∷ qs) h v t i e k =
    go (variable_eq v q.1) refl (variable_eq-Decides v q.1).0 i
    (put-defined ps d qs (after-option (IsDefinitionHeld ps) (option_map (Definition.constant q.0) (d q.1)) _ h) v t)
  where
    go : (b : Bool) → variable_eq v q.1 ≡ b → (b ≡ true → v ≡ q.1) → (b || is_in variable_eq v (variables_of qs)) ≡ true
        → (is_in variable_eq v (variables_of qs) ≡ true → d v ≡ Some t → HasType t v.1 → IsDefinedBy ps (constants_put qs) v t)
        → IsDefinedBy ps (constants_put (q ∷ qs)) v t
    go true is same i rest =
        let v_is : v ≡ q.1 = same refl in
        let defined = subst
        (λ o. AllByRecursion (IsDefinitionHeld ps)
        (cons_option (option_map (Definition.constant q.0) o) (filter_map (λ p. option_map (Definition.constant p.0) (d p.1)) qs))) (ap d (sym v_is) ∙ e) h
        in
        record {
          name = q.0;
          image = ap (λ b. unwrap_or (cond b (Some (term.Term.constant q.0 q.1.1)) (lookup (variable_eq v) (constants_put qs))) (term.Term.free v.0 v.1)) is
              ∙ ap (λ (w : Variable). term.Term.constant q.0 w.1) (sym v_is);
          has = subst (λ a. Has ps (defined_constant q.0 a t)) (type_or-is t v.1 k) defined.0;
        }
    go false is same i rest =
        let r = rest i e k in
        record {
          name = r.name;
          image = ap (λ b. unwrap_or (cond b (Some (term.Term.constant q.0 q.1.1)) (lookup (variable_eq v) (constants_put qs))) (term.Term.free v.0 v.1)) is
              ∙ r.image;
          has = r.has;
        }

all-flat : {A B : Type 0} (P : B → Type 0) (f : A → List B) (xs : List A) → ((x : A) → IsIn xs x → AllByRecursion P (f x)) → AllByRecursion P (flat_map f xs)
all-flat P f [] h = tt
all-flat P f (x ∷ xs) h = All-append P (f x) (flat_map f xs) (h x (inl refl)) (all-flat P f xs (λ y k. h y (inr k)))

all-true : {A : Type 0} (p : A → Bool) (xs : List A) → list_all p xs ≡ true → AllByRecursion (λ x. p x ≡ true) xs
all-true p [] e = tt
all-true p (x ∷ xs) e = let parts = and_parts (p x) (list_all p xs) e in (parts.0, all-true p xs parts.1)

some-value : {A : Type 0} (o : Option A) → is_some o ≡ true → (x : A) × (o ≡ Some x)
some-value None e = absurd (cc)
some-value (Some x) e = (x, refl)

-- What an accepted list defines
pub list-defines : (ps : List Item) (pairs : ConstantPairs) (one : Sequent) → IsSequent one
    → AllByRecursion (λ (e : Variable × Term). IsDefining e.0.1 e.1) (defining_equations pairs one.hypotheses)
    → is_definition_list pairs one ≡ true → AllByRecursion (IsDefinitionHeld ps)
    (filter_map (λ p. option_map (Definition.constant p.0) (definiens pairs one.hypotheses p.1)) pairs)
    → AllByRecursion (IsDefiningEquation ps (constants_put pairs)) one.hypotheses
    × AllByRecursion (λ v. (t : Term) × IsDefinedBy ps (constants_put pairs) v t) (free_variables_of one)
list-defines ps pairs one is defining good held = (
  All-each (IsDefiningEquation ps (constants_put pairs)) one.hypotheses equation-defines,
  union-All (λ v. (t : Term) × IsDefinedBy ps (constants_put pairs) v t) variable_eq _ [] (tt {0}) (All-weaker _ _ variable-defined _ all_listed),
)
  where
    parts : ListParts pairs one
    parts = list_parts pairs one good

    equations : AllByRecursion (λ h. (e : Variable × Term) × ((variable_equation h ≡ Some e) × (is_in variable_eq e.0 (variables_of pairs) ≡ true)))
        one.hypotheses
    equations = every-hypothesis pairs one is good

    covers : (q : Variable) → list_any (variable_eq q) (variables_of pairs) ≡ true
        → is_some (lookup (variable_eq q) (defining_equations pairs one.hypotheses)) ≡ true
    covers = passes (λ v. is_some (definiens pairs one.hypotheses v)) (variables_of pairs) parts.defined

    as_many : length one.hypotheses ≡ length pairs
    as_many = (Decides-eqb (length one.hypotheses) (length pairs)).0 parts.as_many

    no_more : length (defining_equations pairs one.hypotheses) ≤ length (variables_of pairs)
    no_more =
        let c = (counted variable_equation (λ e. is_in variable_eq e.0 (variables_of pairs)) one.hypotheses).at_most in
        let m = as_many in
        let same : length (variables_of pairs) ≡ length pairs = length-map pairs (λ p. p.1) in
        omega (arith, c, m, same)

    equation-defines : (h : Term) → IsIn one.hypotheses h → IsDefiningEquation ps (constants_put pairs) h
    equation-defines h k =
        let e = All-at _ one.hypotheses h equations k in
        let i = filtered variable_equation (λ e. is_in variable_eq e.0 (variables_of pairs)) one.hypotheses h e.0 k e.1.0 e.1.1 in
        let d = All-at (λ (e : Variable × Term). IsDefining e.0.1 e.1) (defining_equations pairs one.hypotheses) e.0 defining i in
        record {
          variable = e.0.0;
          term = e.0.1;
          is = hypothesis-is h e.0 (All-at (λ u. HasType u bool) one.hypotheses h is.hypotheses k) e.1.0;
          defined = put-defined ps (definiens pairs one.hypotheses) pairs held e.0.0 e.0.1 e.1.1
              (unique (variables_of pairs) (distinct_variables (variables_of pairs) parts.variables) [] (defining_equations pairs one.hypotheses) no_more covers
              e.0 i) d.typed;
        }

    variable-defined : (v : Variable) → is_in variable_eq v (variables_of pairs) ≡ true → (t : Term) × IsDefinedBy ps (constants_put pairs) v t
    variable-defined v i =
        let t = some-value (definiens pairs one.hypotheses v) (covers v i) in (
          t.0,
          put-defined ps (definiens pairs one.hypotheses) pairs held v t.0 i t.1
              (lookup-All (λ q. IsDefining q.0.1 q.1) (defining_equations pairs one.hypotheses) v t.0 defining t.1).typed,
        )

    hypothesis-listed : (h : Term) → IsIn one.hypotheses h → AllByRecursion (λ v. is_in variable_eq v (variables_of pairs) ≡ true) (free_places h)
    hypothesis-listed h k =
        let e = All-at _ one.hypotheses h equations k in
        let i = filtered variable_equation (λ e. is_in variable_eq e.0 (variables_of pairs)) one.hypotheses h e.0 k e.1.0 e.1.1 in
        let d = All-at (λ (e : Variable × Term). IsDefining e.0.1 e.1) (defining_equations pairs one.hypotheses) e.0 defining i in
        subst (λ u. AllByRecursion (λ v. is_in variable_eq v (variables_of pairs) ≡ true) (free_places u))
        (sym (hypothesis-is h e.0 (All-at (λ u. HasType u bool) one.hypotheses h is.hypotheses k) e.1.0)) (
          e.1.1,
          All-weaker (λ v. ⊥) (λ v. is_in variable_eq v (variables_of pairs) ≡ true) (λ v f. absurd f) (free_places e.0.1)
              (closed-none (free_places e.0.1) d.closed),
        )

    all_listed : AllByRecursion (λ v. is_in variable_eq v (variables_of pairs) ≡ true) (flat_map free_places (one.hypotheses ++ one.conclusion ∷ []))
    all_listed =
        all-flat (λ v. is_in variable_eq v (variables_of pairs) ≡ true) free_places (one.hypotheses ++ one.conclusion ∷ [])
        (λ t k. ⊎_elim (hypothesis-listed t)
        (λ j. ⊎_elim (λ same. subst (λ u. AllByRecursion (λ v. is_in variable_eq v (variables_of pairs) ≡ true) (free_places u)) (sym same)
        (all-true (λ v. is_in variable_eq v (variables_of pairs)) (free_places one.conclusion) parts.no_others)) (λ n. absurd n) j)
        (IsIn-either one.hypotheses (one.conclusion ∷ []) t k))
