-- Type definitions are shaped: the definitions of the operator and of the two constants, and the two laws, in the scope of their sequents.
use Rattle.std.proofs.Common.{◌≡◌, ◌≤◌, ℕ, zero, suc, List, [], ◌∷◌, ◌++◌, map, length, Bool, true, false, Option, Some, inl, inr, refl, sym, ap, subst, ◌∙◌, arith, flat_map, nat_eq, codes}
use Rattle.std.specs.Prelude.{slice_get, replicate, unwrap_or, not, IsTrue}
use Rattle.std.specs.List.{AllByRecursion, IsDistinct, list_all}
use Rattle.std.proofs.Math.Path.{subst₂}
use Rattle.std.proofs.lemmas.Bool.{and_parts, or_parts, not-true}
use Rattle.std.proofs.lemmas.Map.Keys.{IsDistinct-cons}
use Rattle.std.proofs.lemmas.Option.{same_Some}
use Rattle.hol_spec.specs.Names.{Name}
use Rattle.hol_spec.specs.NameEquality.{name_eq}
use Rattle.hol_laws.specs.NameEqualityLaws.{name_eq-Decides}
use Rattle.hol_spec.specs.Types.{HolType, variable, types_of, variable_places, variable_places_of_all, type_variables}
use Rattle.hol_laws.specs.TypeLaws.{count-variables}
use Rattle.hol_spec.specs.Primitives.{bool, function, equality_type}
use Rattle.hol_spec.specs.Substitution.{Instance}
use Rattle.hol_laws.specs.TermInstances.{substitute-nothing}
use Rattle.hol_spec.specs.Terms as term
use Rattle.hol_spec.specs.Terms.{Term, bound, constant, app, lam, type_under, HasType, type_variable_places, free_places, equation, Variable}
use Rattle.hol_laws.specs.TermTyping.{loose-typed}
use Rattle.hol_laws.specs.TermSubstitutionLaws.{application_type-is, abstraction_type-is}
use Rattle.hol_spec.specs.Sequents.{Sequent, IsSequent, type_variables_of, free_variables_of, terms_of}
use Rattle.hol_spec.specs.Definitions.{TypeNames}
use Rattle.hol_spec.specs.NewTypes.{new_type, abstraction_type, representation_type}
use Rattle.hol_spec.specs.TypeDefinitions.{are_type_variables_of, IsTypeDefinition, abstracted, represented, first_law, second_law, new_variable, old_variable, first_law_free, second_law_free}
use Rattle.hol_spec.specs.declared.StepKind.{StepKind}
use Rattle.hol_spec.specs.declared.StepKind.TheVariants.{FirstLaw, SecondLaw}
use Rattle.hol_proof_laws.specs.RuleSequents.{predicate-typed}
use Rattle.hol_spec.specs.Lists.{is_in, IsIn}
use Rattle.hol_spec.specs.Repeats.{no_repeats}
use Rattle.hol_laws.specs.Members.{All-left, All-right, All-append, All-at, IsIn-distinct, IsIn-distinct_of, is_in-IsIn, IsIn-right, IsIn-left}
use Rattle.lp_spec.specs.Lemmas.{sym_lemma}
use Rattle.lp_spec.specs.Trees.{Tree, Var, Sym, App, Lam, lift, size}
use Rattle.lp_spec.specs.Modules.{Declaration, applied, products, abstractions, types, bools, arr_of, term_of, proof_of, eq_of, sub_symbol, sub_abs_symbol, sub_rep_symbol, sub_rep_abs_symbol, symbol_type}
use Rattle.lp_typing_laws.specs.ConversionLaws.{IsClosed}
use Rattle.lp_typing_laws.specs.Telescopes.{under}
use Rattle.lp_spec.specs.HeadSteps.{head_step}
use Rattle.lp_spec.specs.Shaped.{IsTerm, IsProof, Close, close_same, IsLaw, IsCallDefinition, call_under}
use Rattle.lp_spec.specs.Shaped as shape
use Rattle.lp_check_laws.specs.Found.{simple-weaken}
use Rattle.lp_check_laws.specs.ShapedParts.{IsPartAt, operator-definition, abstraction-definition, representation-definition, first_law-shaped, second_law-shaped, first_law_free-shaped, first_law_free-close, second_law_free-shaped}
use Rattle.translate_spec.specs.Scopes.{SymbolMap, TypeScope, type_tree, Scope, lifted_types, lifted, inside, constant_tree, term_tree, under_types, under_terms, under_proofs, unfilled, filled, scope_of_types, scope_of_terms, scope_of, theorem_tree, operator_symbol, generic_tree}
use Rattle.translate_spec.specs.ProofTrees.{predicate, witness, part_tree, sym_symbol, first_law_tree, second_law_tree, first_law_free_tree, second_law_free_tree}
use Rattle.translate_spec.specs.Items.{part_definition_tree}
use Rattle.translate_spec.specs.Rows.{type_or}
use Rattle.translate_laws.specs.ScopeLaws.{type_tree-lift, term_tree-lift}
use Rattle.translate_laws.specs.TermScopeLaws.{term_tree-inside}
use Rattle.translate_laws.specs.ScopeTyping.{TypeOver, TypesOver, TermOver}
use Rattle.translate_laws.specs.SequentScope.{SequentOver, context_of}
use Rattle.translate_laws.specs.ComputingBodies.{IsPartPremise, IsPartOperator, IsPartConstant, DefinesPart}
use Rattle.translate_laws.specs.ShapedScopes.{ShapedScope, lifted-shaped, type_tree-shaped, term_tree-shaped}
use Rattle.translate_laws.specs.ShapedSequents.{under_types-shaped, filled-shaped, premise-shaped, own_shape}
use Rattle.translate_laws.specs.PartTrees.{IsShut, Covers, Covers-lifted, Covers-more, Covers-under, Covers-terms, Covers-proofs, closed-agree, part_tree-lift, part_tree-lifted, operator-head, constant-part}
use Rattle.translate_laws.specs.SequentEncoding.{types-are}
use Rattle.std.proofs.lemmas.Bool.Decides.{Decides-eqb}

-- a kind of step is that of the two laws of a type definition
abbrev pub is_law : StepKind → Bool
is_law FirstLaw = true
is_law SecondLaw = true
is_law kind = false

-- the parts of a premise |- f t
pub record PartFacts (m : List Declaration) (symbols : SymbolMap) (c : HolType) (f p : Term) : Type 0 where
  pub predicate_is : predicate p ≡ f
  pub whole : p ≡ app (predicate p) (witness p)
  pub predicate_typed : HasType (predicate p) (function c bool)
  pub witness_typed : HasType (witness p) c
  pub predicate_over : TermOver m symbols (predicate p)
  pub witness_over : TermOver m symbols (witness p)

pub part-facts : (m : List Declaration) (symbols : SymbolMap) (names : TypeNames) (c : HolType) (j : ℕ) (one : Sequent)
    (d : IsPartPremise m symbols names c j one)
    → PartFacts m symbols c d.f one.conclusion
part-facts m symbols names c j one d =
    let o : TermOver m symbols (app d.f d.defines.witness) = subst (TermOver m symbols) d.defines.holds d.premise.over.conclusion in
    subst (PartFacts m symbols c d.f) (sym d.defines.holds)
    (record {
      predicate_is = refl;
      whole = refl;
      predicate_typed = predicate-typed names c d.f one d.defines d.premise.is.conclusion;
      witness_typed = d.defines.typed;
      predicate_over = o.0;
      witness_over = o.1;
    })

pub part-shut : (m : List Declaration) (symbols : SymbolMap) (names : TypeNames) (c : HolType) (j : ℕ) (one : Sequent) → IsPartPremise m symbols names c j one
    → IsShut one
part-shut m symbols names c j one d =
    let k = part-facts m symbols names c j one d in
    let f = loose-typed [] (predicate one.conclusion) (function c bool) k.predicate_typed in
    let w = loose-typed [] (witness one.conclusion) c k.witness_typed in
    record { predicate = omega (arith, f); witness = omega (arith, w) }

-- the type of the witness is told by the premise
pub part-type : (names : TypeNames) (c : HolType) (f : Term) (one : Sequent) → IsTypeDefinition names c f one → type_or (witness one.conclusion) ≡ c
part-type names c f one d = ap (λ p. type_or (witness p)) d.holds ∙ ap (λ (o : Option HolType). unwrap_or o bool) d.typed

-- The type variables of a term's type are among those of the term
pub type-places : (P : Name → Type 0) (binders : List HolType) → ((k : ℕ) (a : HolType) → slice_get binders k ≡ Some a → AllByRecursion P (variable_places a))
    → (t : Term) (a : HolType)
    → AllByRecursion P (type_variable_places t) → type_under binders t ≡ Some a → AllByRecursion P (variable_places a)
type-places P binders b (term.Term.free n t) a h e = subst (λ u. AllByRecursion P (variable_places u)) (same_Some _ _ e) h
type-places P binders b (term.Term.bound k) a h e = b k a e
type-places P binders b (term.Term.constant n t) a h e = subst (λ u. AllByRecursion P (variable_places u)) (same_Some _ _ e) h
type-places P binders b (term.Term.app f x) a h e =
    let p = application_type-is (type_under binders f) (type_under binders x) a e in
    let whole = type-places P binders b f (function p.0 a) (All-left P (type_variable_places f) (type_variable_places x) h) p.1.0 in
    All-left P (variable_places a) [] (All-right P (variable_places p.0) (variable_places a ++ []) whole)
type-places P binders b (term.Term.lam t c) a h e =
    let p = abstraction_type-is t (type_under (t ∷ binders) c) a e in
    let first = All-left P (variable_places t) (type_variable_places c) h in
    let second = type-places P (t ∷ binders) (inner t first) c p.0 (All-right P (variable_places t) (type_variable_places c) h) p.1.0 in
    subst (λ u. AllByRecursion P (variable_places u)) (sym p.1.1)
    (All-append P (variable_places t) (variable_places p.0 ++ []) first (All-append P (variable_places p.0) [] second (tt {0})))
  where
    inner : (t : HolType) → AllByRecursion P (variable_places t) → (k : ℕ) (a : HolType) → slice_get (t ∷ binders) k ≡ Some a
        → AllByRecursion P (variable_places a)
    inner t h zero a e = subst (λ u. AllByRecursion P (variable_places u)) (same_Some _ _ e) h
    inner t h (suc k) a e = b k a e

listed : (ns ms : List Name) → list_all (λ n. is_in name_eq n ns) ms ≡ true → AllByRecursion (IsIn ns) ms
listed ns [] e = tt
listed ns (n ∷ ms) e = let h = and_parts (is_in name_eq n ns) (list_all (λ n. is_in name_eq n ns) ms) e in
    (is_in-IsIn name_eq name_eq-Decides ns n h.0, listed ns ms h.1)

pub predicate-places : (names : TypeNames) (f : Term) → IsTrue (are_type_variables_of names.variables f)
    → AllByRecursion (IsIn names.variables) (type_variable_places f)
predicate-places names f h = listed names.variables (type_variable_places f)
    (and_parts _ (list_all (λ n. is_in name_eq n names.variables) (type_variable_places f)) h).1

-- names without repeats are distinct
none-alike : (x : Name) (ys : List Name) → is_in name_eq x ys ≡ false → AllByRecursion (λ y. name_eq x y ≡ false) ys
none-alike x [] e = tt
none-alike x (y ∷ ys) e = let h = or_parts (name_eq x y) (is_in name_eq x ys) e in (h.0, none-alike x ys h.1)

no_repeats-distinct : (xs : List Name) → no_repeats name_eq xs ≡ true → IsDistinct name_eq xs
unfolding IsDistinct
no_repeats-distinct [] e = tt
no_repeats-distinct (x ∷ xs) e =
    let h = and_parts (not (is_in name_eq x xs)) (no_repeats name_eq xs) e in
    IsDistinct-cons name_eq x xs (none-alike x xs (not-true (is_in name_eq x xs) h.0)) (no_repeats-distinct xs h.1)

pub listed-distinct : (names : TypeNames) (f : Term) → IsTrue (are_type_variables_of names.variables f) → IsDistinct name_eq names.variables
listed-distinct names f h = no_repeats-distinct names.variables
    (and_parts (no_repeats name_eq names.variables) _ (and_parts _ (list_all (λ n. is_in name_eq n names.variables) (type_variable_places f)) h).0).0

own-places : (ns : List Name) (P : Name → Type 0) → AllByRecursion P ns → AllByRecursion P (variable_places_of_all (types_of (map variable ns)))
own-places [] P h = tt
own-places (n ∷ ns) P h = (h.0, own-places ns P h.1)

places-own : (ns : List Name) (n : Name) → IsIn ns n → IsIn (variable_places_of_all (types_of (map variable ns))) n
places-own [] n i = absurd i
places-own (k ∷ ns) n (inl e) = inl e
places-own (k ∷ ns) n (inr i) = inr (places-own ns n i)

all-own : (ns ms : List Name) → ((n : Name) → IsIn ms n → IsIn ns n) → AllByRecursion (IsIn ns) ms
all-own ns [] h = tt
all-own ns (m ∷ ms) h = (h m (inl refl), all-own ns ms (λ n i. h n (inr i)))

-- the type variables of the types of a type definition are those that it lists
module _ (names : TypeNames) (c : HolType) (f : Term) (one : Sequent) (d : IsTypeDefinition names c f one) (typed : HasType f (function c bool)) where
  ns : List Name
  ns = names.variables

  pub type-listed : AllByRecursion (IsIn names.variables) (variable_places c)
  type-listed = All-left (IsIn names.variables) (variable_places c) (variable_places bool ++ [])
      (type-places (IsIn names.variables) [] (λ k a e. absurd (cc)) f (function c bool) (predicate-places names f d.variables) typed)

  new-listed : AllByRecursion (IsIn names.variables) (variable_places (new_type names))
  new-listed = own-places names.variables (IsIn names.variables) (all-own names.variables names.variables (λ n i. i))

  pub function-listed : (a b : HolType) → AllByRecursion (IsIn names.variables) (variable_places a) → AllByRecursion (IsIn names.variables) (variable_places b)
      → AllByRecursion (IsIn names.variables) (variable_places (function a b))
  function-listed a b h k = All-append (IsIn names.variables) (variable_places a) (variable_places b ++ []) h
      (All-append (IsIn names.variables) (variable_places b) [] k (tt {0}))

  pub abstraction-listed : AllByRecursion (IsIn names.variables) (variable_places (abstraction_type names c))
  abstraction-listed = function-listed c (new_type names) type-listed new-listed

  pub representation-listed : AllByRecursion (IsIn names.variables) (variable_places (representation_type names c))
  representation-listed = function-listed (new_type names) c new-listed type-listed

-- what is listed of a type stands among its type variables, and the reverse
pub among-listed : (names : TypeNames) (a : HolType) → AllByRecursion (IsIn names.variables) (variable_places a) → (n : Name) → IsIn (type_variables a) n
    → IsIn names.variables n
among-listed names a h n i = All-at (IsIn names.variables) (variable_places a) n h (IsIn-distinct_of name_eq name_eq-Decides (variable_places a) n i)

new-own : (names : TypeNames) (a : HolType) → ((n : Name) → IsIn (variable_places (new_type names)) n → IsIn (variable_places a) n) → (n : Name)
    → IsIn names.variables n → IsIn (type_variables a) n
new-own names a h n i = IsIn-distinct name_eq name_eq-Decides (variable_places a) n (h n (places-own names.variables n i))

pub abstraction-own : (names : TypeNames) (c : HolType) (n : Name) → IsIn names.variables n → IsIn (type_variables (abstraction_type names c)) n
abstraction-own names c = new-own names (abstraction_type names c)
    (λ n i. IsIn-right (variable_places c) (variable_places (new_type names) ++ []) n (IsIn-left (variable_places (new_type names)) [] n i))

pub representation-own : (names : TypeNames) (c : HolType) (n : Name) → IsIn names.variables n → IsIn (type_variables (representation_type names c)) n
representation-own names c = new-own names (representation_type names c) (λ n i. IsIn-left (variable_places (new_type names)) (variable_places c ++ []) n i)

-- a law's body, and that its found type is close to the proofs of a formula's tree
pub record ShownLaw (m : List Declaration) (G : List Tree) (t p : Tree) : Type 0 where
  pub found : Tree
  pub law : IsLaw m G t found
  pub close : Close m 3 (proof_of p) found

module _ (m : List Declaration) (closed : IsClosed m) (symbols : SymbolMap) (names : TypeNames) (c : HolType) (j : ℕ) (one : Sequent)
    (d : IsPartPremise m symbols names c j one) where
  facts : PartFacts m symbols c d.f one.conclusion
  facts = part-facts m symbols names c j one d

  shut : IsShut one
  shut = part-shut m symbols names c j one d

  -- The arguments of a part in a shaped scope
  pub part-at : (G : List Tree) (scope : Scope) → ShapedScope m symbols G scope
      → IsPartAt m G (type_tree symbols scope.types c) (term_tree symbols scope (predicate one.conclusion)) (term_tree symbols scope (witness one.conclusion))
      (theorem_tree scope j one)
  part-at G scope is = record {
    ty = type_tree-shaped m G symbols scope.types is.types c d.ty;
    predicate = term_tree-shaped m closed symbols G scope [] is (λ k a e. absurd (cc)) (λ k a e. absurd (cc)) (predicate one.conclusion) (function c bool)
        facts.predicate_over facts.predicate_typed;
    witness = term_tree-shaped m closed symbols G scope [] is (λ k a e. absurd (cc)) (λ k a e. absurd (cc)) (witness one.conclusion) c facts.witness_over
        facts.witness_typed;
    proof = subst (λ p. IsProof m false G (theorem_tree scope j one) (proof_of (term_tree symbols scope p))) facts.whole
        (premise-shaped m closed symbols G scope is j one d.premise (λ h i. absurd (subst (λ (l : List Term). IsIn l h) d.defines.no_hypotheses i)));
  }

  predicate-type : HasType d.f (function c bool)
  predicate-type = subst (λ t. HasType t (function c bool)) facts.predicate_is facts.predicate_typed

  -- the types of the two constants
  module _ (op : IsPartOperator m symbols names c j one) where
    new_type-over : TypeOver m symbols (new_type names)
    new_type-over = (
      subst (λ k. symbol_type m (operator_symbol symbols names.operator k) ≡ Some (products (replicate k types) types))
          (sym (count-variables names.variables)) op.declared,
      variables-over names.variables,
    )
      where
        variables-over : (ns : List Name) → TypesOver m symbols (types_of (map variable ns))
        variables-over [] = tt
        variables-over (n ∷ ns) = (tt {0}, variables-over ns)

    function-over : (a b : HolType) → TypeOver m symbols a → TypeOver m symbols b → TypeOver m symbols (function a b)
    function-over a b h k = (refl, (h, (k, tt {0})))

    pub abstraction-over : TypeOver m symbols (abstraction_type names c)
    abstraction-over = function-over c (new_type names) d.ty new_type-over

    pub representation-over : TypeOver m symbols (representation_type names c)
    representation-over = function-over (new_type names) c new_type-over d.ty

    -- the new type under its part, in a filled scope and under a binder more
    new-head : (other : TypeScope) → Covers names.variables other
        → head_step m (type_tree symbols other (new_type names)) ≡ Some (part_tree symbols (filled symbols other) sub_symbol c (j, one))
    new-head other covers = operator-head m symbols c j one shut names sub_symbol op.definition other covers

    new-head-lifted : (other : TypeScope) → Covers names.variables other
        → head_step m (lift 1 (type_tree symbols other (new_type names))) ≡ Some (lift 1 (part_tree symbols (filled symbols other) sub_symbol c (j, one)))
    new-head-lifted other covers =
        ap (head_step m) (type_tree-lift symbols other (new_type names)) ∙ new-head (lifted_types other) (Covers-lifted names.variables other covers)
        ∙ ap Some (sym (part_tree-lifted symbols other sub_symbol c (j, one) shut) ∙ sym (part_tree-lift symbols (filled symbols other) sub_symbol c (j, one)))

    -- The definitions
    pub abstraction-called : (ns : List Name) → ((n : Name) → IsIn ns n → IsIn names.variables n)
        → IsCallDefinition m (under [] (map (λ n. types) ns)) (part_tree symbols (filled symbols (under_types ns unfilled)) sub_abs_symbol c (j, one))
        (term_of (type_tree symbols (under_types ns unfilled) (abstraction_type names c)))
    abstraction-called ns h =
        let other = under_types ns unfilled in
        let G = under [] (map (λ n. types) ns) in
        let covers = Covers-more ns names.variables other h (Covers-under ns) in
        let is = filled-shaped m closed symbols G other (under_types-shaped m closed symbols ns [] unfilled (λ n. shape.IsConstant.constant refl tt)) in
        abstraction-definition m _ _ _ _ (part-at G (filled symbols other) is) (type_tree symbols other (new_type names)) (new-head-lifted other covers)

    pub representation-called : (ns : List Name) → ((n : Name) → IsIn ns n → IsIn names.variables n)
        → IsCallDefinition m (under [] (map (λ n. types) ns)) (part_tree symbols (filled symbols (under_types ns unfilled)) sub_rep_symbol c (j, one))
        (term_of (type_tree symbols (under_types ns unfilled) (representation_type names c)))
    representation-called ns h =
        let other = under_types ns unfilled in
        let G = under [] (map (λ n. types) ns) in
        let covers = Covers-more ns names.variables other h (Covers-under ns) in
        let is = filled-shaped m closed symbols G other (under_types-shaped m closed symbols ns [] unfilled (λ n. shape.IsConstant.constant refl tt)) in
        representation-definition m _ _ _ _ (part-at G (filled symbols other) is) (type_tree symbols other (new_type names)) (new-head other covers)

    -- The constants, at their generic types, under a binder of a filled scope
    module _ (abs : IsPartConstant m symbols names.abstraction (abstraction_type names c) sub_abs_symbol c j one)
        (rep : IsPartConstant m symbols names.representation (representation_type names c) sub_rep_symbol c j one)
        (G : List Tree) (other : TypeScope) (is : ShapedScope m symbols G (filled symbols other)) (covers : Covers names.variables other) where
      inner_scope : Scope
      inner_scope = lifted (filled symbols other)

      N : Tree
      N = type_tree symbols other (new_type names)

      C : Tree
      C = type_tree symbols (lifted_types other) c

      abbrev part : ℕ → Tree
      part s = part_tree symbols (lifted (filled symbols other)) s c (j, one)

      constant-over-own : (n : Name) (a : HolType) (s : ℕ) → IsPartConstant m symbols n a s c j one → TypeOver m symbols a → TermOver m symbols (constant n a)
      constant-over-own n a s k o = record { declared = k.declared; instance = subst (λ g. Instance g a) (sym k.generic) ([], substitute-nothing a); ty = o }

      own-shaped : (A : Tree) (n : Name) (a : HolType) (s : ℕ) → IsPartConstant m symbols n a s c j one → TypeOver m symbols a
          → IsTerm m (A ∷ G) (constant_tree symbols (lifted_types other) n a) (type_tree symbols (lifted_types other) a)
      own-shaped A n a s k o =
          term_tree-shaped m closed symbols (A ∷ G) (lifted (filled symbols other)) [] (lifted-shaped m closed symbols G A (filled symbols other) is)
          (λ k a e. absurd (cc)) (λ k a e. absurd (cc)) (constant n a) a (constant-over-own n a s k o) refl

      part-same : (s : ℕ) → part_tree symbols (filled symbols (lifted_types other)) s c (j, one) ≡ part s
      part-same s = sym (part_tree-lifted symbols other s c (j, one) shut)

      abs-head : (y : Tree)
          → head_step m (App (constant_tree symbols (lifted_types other) names.abstraction (abstraction_type names c)) y) ≡ Some (App (part sub_abs_symbol) y)
      abs-head y =
          constant-part m symbols c j one shut names.abstraction (abstraction_type names c) sub_abs_symbol abs.generic abs.definition (lifted_types other)
          (Covers-lifted (type_variables (abstraction_type names c)) other
          (Covers-more names.variables (type_variables (abstraction_type names c)) other (abstraction-own names c) covers)) y
          ∙ ap (λ t. Some (App t y)) (part-same sub_abs_symbol)

      rep-head : (y : Tree)
          → head_step m (App (constant_tree symbols (lifted_types other) names.representation (representation_type names c)) y)
          ≡ Some (App (part sub_rep_symbol) y)
      rep-head y =
          constant-part m symbols c j one shut names.representation (representation_type names c) sub_rep_symbol rep.generic rep.definition (lifted_types other)
          (Covers-lifted (type_variables (representation_type names c)) other
          (Covers-more names.variables (type_variables (representation_type names c)) other (representation-own names c) covers)) y
          ∙ ap (λ t. Some (App t y)) (part-same sub_rep_symbol)

      -- The first law
      pub first-shaped : IsLaw m G (first_law_tree symbols (filled symbols other) names c (j, one))
          (proof_of (term_tree symbols (filled symbols other) (first_law names c).conclusion))
      first-shaped =
          let A : Tree = term_of (type_tree symbols other (new_type names)) in
          let hN = type_tree-shaped m G symbols other is.types (new_type names) new_type-over in
          let lowered : type_tree symbols (lifted_types other) (new_type names) ≡ lift 1 (type_tree symbols other (new_type names)) =
          sym (type_tree-lift symbols other (new_type names)) in
          first_law-shaped m (type_tree symbols other (new_type names)) _ _ _ _ _ _ hN (simple-weaken m closed hN)
          (part-at (A ∷ G) (lifted (filled symbols other)) (lifted-shaped m closed symbols G A (filled symbols other) is))
          (subst (λ n. IsTerm m (A ∷ G) (constant_tree symbols (lifted_types other) names.abstraction (abstraction_type names c))
          (arr_of (type_tree symbols (lifted_types other) c) n)) lowered
          (own-shaped A names.abstraction (abstraction_type names c) sub_abs_symbol abs abstraction-over))
          (subst (λ n. IsTerm m (A ∷ G) (constant_tree symbols (lifted_types other) names.representation (representation_type names c))
          (arr_of n (type_tree symbols (lifted_types other) c))) lowered
          (own-shaped A names.representation (representation_type names c) sub_rep_symbol rep representation-over))
          (new-head-lifted other covers ∙ ap Some (part_tree-lift symbols (filled symbols other) sub_symbol c (j, one)))
          abs-head rep-head

      -- The second law
      pub second-shaped : IsLaw m G (second_law_tree symbols (filled symbols other) names c (j, one))
          (proof_of (term_tree symbols (filled symbols other) (second_law names c (predicate one.conclusion)).conclusion))
      second-shaped =
          let B = type_tree symbols other c in
          let A : Tree = term_of B in
          let F = predicate one.conclusion in
          let left = eq_of (type_tree symbols (lifted_types other) c)
          (App (constant_tree symbols (lifted_types other) names.representation (representation_type names c))
          (App (constant_tree symbols (lifted_types other) names.abstraction (abstraction_type names c)) (Var 0))) (Var 0) in
          let within : term_tree symbols (lifted (filled symbols other)) F ≡ term_tree symbols (inside (filled symbols other)) F =
          sym (term_tree-lift symbols (filled symbols other) F) ∙ term_tree-inside symbols (filled symbols other) F (omega (arith, shut.predicate)) in
          subst (λ f. IsLaw m G (App (shape.two_abstractions B bools left (App f (Var 0))) (Lam A (App (part sub_rep_abs_symbol) (Var 0))))
          (proof_of (eq_of (arr_of B bools) (Lam A left) (Lam A (App f (Var 0)))))) within
          (second_law-shaped m B (type_tree symbols (lifted_types other) (new_type names)) _ _ _ _ _ _ (type_tree-shaped m G symbols other is.types c d.ty)
          (type_tree-lift symbols other c)
          (part-at (A ∷ G) (lifted (filled symbols other)) (lifted-shaped m closed symbols G A (filled symbols other) is))
          (own-shaped A names.abstraction (abstraction_type names c) sub_abs_symbol abs abstraction-over)
          (own-shaped A names.representation (representation_type names c) sub_rep_symbol rep representation-over)
          abs-head rep-head)

    -- In version 5: the laws at a variable of a shaped scope, with the premise where nothing is put for its free variables
    module _ (abs : IsPartConstant m symbols names.abstraction (abstraction_type names c) sub_abs_symbol c j one)
        (rep : IsPartConstant m symbols names.representation (representation_type names c) sub_rep_symbol c j one)
        (G : List Tree) (scope : Scope) (is : ShapedScope m symbols G scope) (covers : Covers names.variables scope.types) where
      abbrev K : ℕ → Tree
      K s = part_tree symbols (filled symbols scope.types) s c (j, one)

      abbrev C0 : Tree
      C0 = type_tree symbols scope.types c

      abbrev F0 : Tree
      F0 = term_tree symbols (filled symbols scope.types) (predicate one.conclusion)

      abbrev W0 : Tree
      W0 = term_tree symbols (filled symbols scope.types) (witness one.conclusion)

      abbrev H0 : Tree
      H0 = theorem_tree (filled symbols scope.types) j one

      at-filled : IsPartAt m G C0 F0 W0 H0
      at-filled = part-at G (filled symbols scope.types) (filled-shaped m closed symbols G scope.types is.types)

      free-abs : (y : Tree)
          → head_step m (App (constant_tree symbols scope.types names.abstraction (abstraction_type names c)) y) ≡ Some (App (K sub_abs_symbol) y)
      free-abs y =
          constant-part m symbols c j one shut names.abstraction (abstraction_type names c) sub_abs_symbol abs.generic abs.definition scope.types
          (Covers-more names.variables (type_variables (abstraction_type names c)) scope.types (abstraction-own names c) covers) y

      free-rep : (y : Tree)
          → head_step m (App (constant_tree symbols scope.types names.representation (representation_type names c)) y) ≡ Some (App (K sub_rep_symbol) y)
      free-rep y =
          constant-part m symbols c j one shut names.representation (representation_type names c) sub_rep_symbol rep.generic rep.definition scope.types
          (Covers-more names.variables (type_variables (representation_type names c)) scope.types (representation-own names c) covers) y

      free-constant : (n : Name) (a : HolType) (s : ℕ) → IsPartConstant m symbols n a s c j one → TypeOver m symbols a
          → IsTerm m G (constant_tree symbols scope.types n a) (type_tree symbols scope.types a)
      free-constant n a s k o =
          term_tree-shaped m closed symbols G scope [] is (λ k a e. absurd (cc)) (λ k a e. absurd (cc)) (constant n a) a
          (record { declared = k.declared; instance = subst (λ g. Instance g a) (sym k.generic) ([], substitute-nothing a); ty = o }) refl

      pub first_free : ShownLaw m G (first_law_free_tree symbols scope names c (j, one)) (term_tree symbols scope (first_law_free names c).conclusion)
      first_free =
          let N = type_tree symbols scope.types (new_type names) in
          let x = term_tree symbols scope (new_variable names) in
          let A = constant_tree symbols scope.types names.abstraction (abstraction_type names c) in
          let R = constant_tree symbols scope.types names.representation (representation_type names c) in
          let step = new-head scope.types covers in
          record {
            found = proof_of (eq_of (K sub_symbol) (App (K sub_abs_symbol) (App (K sub_rep_symbol) x)) x);
            law = first_law_free-shaped m N C0 F0 W0 H0 x at-filled (is.terms (codes "a" ∷ [], new_type names) new_type-over) step;
            close = first_law_free-close m N C0 F0 W0 H0 A R x step free-abs free-rep;
          }

      pub second_free : symbol_type m sym_symbol ≡ Some sym_lemma.ty → free_places (predicate one.conclusion) ≡ []
          → ShownLaw m G (second_law_free_tree symbols scope names c (j, one))
          (term_tree symbols scope (second_law_free names c (predicate one.conclusion)).conclusion)
      second_free lemma places =
          let N = type_tree symbols scope.types (new_type names) in
          let x = term_tree symbols scope (old_variable c) in
          let A = constant_tree symbols scope.types names.abstraction (abstraction_type names c) in
          let R = constant_tree symbols scope.types names.representation (representation_type names c) in
          let l = eq_of C0 (App R (App A x)) x in
          let same : F0 ≡ term_tree symbols scope (predicate one.conclusion) =
          closed-agree symbols 0 (filled symbols scope.types) scope refl (λ k l. absurd (omega (arith, l))) (predicate one.conclusion)
          (subst (AllByRecursion (λ (v : Variable). ⊥)) (sym places) (tt {0})) (omega (arith, shut.predicate)) in
          let law = second_law_free-shaped m N C0 F0 W0 H0 A R x at-filled (is.terms (codes "r" ∷ [], c) d.ty)
          (free-constant names.abstraction (abstraction_type names c) sub_abs_symbol abs abstraction-over)
          (free-constant names.representation (representation_type names c) sub_rep_symbol rep representation-over)
          free-abs free-rep lemma in
          record {
            found = proof_of (eq_of bools (App (term_tree symbols scope (predicate one.conclusion)) x) l);
            law = subst
                (λ f. IsLaw m G (applied (Sym sym_symbol) (bools ∷ l ∷ App f x ∷ App (K sub_rep_abs_symbol) x ∷ [])) (proof_of (eq_of bools (App f x) l))) same
                law;
            close = close_same;
          }

-- The scope of a law: it has type variables alone
law-scope : (symbols : SymbolMap) (s : Sequent) → free_variables_of s ≡ [] → s.hypotheses ≡ []
    → scope_of symbols s ≡ filled symbols (under_types (type_variables_of s) unfilled)
law-scope symbols s e h i = under_proofs (h i) (under_terms (e i) (scope_of_types symbols s))

-- the type variables of a law are those that the definition lists
module _ (names : TypeNames) (c : HolType) (f : Term) (one : Sequent) (d : IsTypeDefinition names c f one) (typed : HasType f (function c bool)) where
  abbrev Listed : List Name → Type 0
  Listed = AllByRecursion (IsIn names.variables)

  equation-listed : (a : HolType) (x y : Term) → Listed (variable_places a) → Listed (type_variable_places x) → Listed (type_variable_places y)
      → Listed (type_variable_places (equation a x y))
  equation-listed a x y h k l =
      let places = function-listed names c f one d typed a (function a bool) h (function-listed names c f one d typed a bool h (tt {0})) in
      All-append (IsIn names.variables) (variable_places (equality_type a) ++ type_variable_places x) (type_variable_places y)
      (All-append (IsIn names.variables) (variable_places (equality_type a)) (type_variable_places x) places k) l

  abstracted-listed : (x : Term) → Listed (type_variable_places x) → Listed (type_variable_places (abstracted names c x))
  abstracted-listed x h = All-append (IsIn names.variables) (variable_places (abstraction_type names c)) (type_variable_places x)
      (abstraction-listed names c f one d typed) h

  represented-listed : (x : Term) → Listed (type_variable_places x) → Listed (type_variable_places (represented names c x))
  represented-listed x h = All-append (IsIn names.variables) (variable_places (representation_type names c)) (type_variable_places x)
      (representation-listed names c f one d typed) h

  under-listed : (a : HolType) (t : Term) → Listed (variable_places a) → Listed (type_variable_places t) → Listed (type_variable_places (lam a t))
  under-listed a t h k = All-append (IsIn names.variables) (variable_places a) (type_variable_places t) h k

  pub first-listed : Listed (type_variable_places (first_law names c).conclusion)
  first-listed =
      let n = new-listed names c f one d typed in
      equation-listed (function (new_type names) (new_type names)) (lam (new_type names) (abstracted names c (represented names c (bound 0))))
      (lam (new_type names) (bound 0)) (function-listed names c f one d typed (new_type names) (new_type names) n n)
      (under-listed (new_type names) (abstracted names c (represented names c (bound 0))) n
      (abstracted-listed (represented names c (bound 0)) (represented-listed (bound 0) (tt {0}))))
      (under-listed (new_type names) (bound 0) n (tt {0}))

  pub second-listed : Listed (type_variable_places (second_law names c f).conclusion)
  second-listed =
      let k = type-listed names c f one d typed in
      let undone = represented names c (abstracted names c (bound 0)) in
      equation-listed (function c bool) (lam c (equation c undone (bound 0))) (lam c (app f (bound 0)))
      (function-listed names c f one d typed c bool k (tt {0}))
      (under-listed c (equation c undone (bound 0)) k
      (equation-listed c undone (bound 0) k (represented-listed (abstracted names c (bound 0)) (abstracted-listed (bound 0) (tt {0}))) (tt {0})))
      (under-listed c (app f (bound 0)) k (All-append (IsIn names.variables) (type_variable_places f) [] (predicate-places names f d.variables) (tt {0})))

  pub first_free-listed : Listed (type_variable_places (first_law_free names c).conclusion)
  first_free-listed =
      let n = new-listed names c f one d typed in
      let v = new_variable names in
      equation-listed (new_type names) (abstracted names c (represented names c v)) v n (abstracted-listed (represented names c v) (represented-listed v n)) n

  pub second_free-listed : Listed (type_variable_places (second_law_free names c f).conclusion)
  second_free-listed =
      let k = type-listed names c f one d typed in
      let v = old_variable c in
      let undone = represented names c (abstracted names c v) in
      equation-listed bool (app f v) (equation c undone v) (tt {0})
      (All-append (IsIn names.variables) (type_variable_places f) (type_variable_places v) (predicate-places names f d.variables) k)
      (equation-listed c undone v k (represented-listed (abstracted names c v) (abstracted-listed v k)) k)

law-listed : (names : TypeNames) (s : Sequent) → s.hypotheses ≡ [] → AllByRecursion (IsIn names.variables) (type_variable_places s.conclusion) → (n : Name)
    → IsIn (type_variables_of s) n → IsIn names.variables n
law-listed names s none h n i =
    let places : IsIn (flat_map type_variable_places (s.hypotheses ++ s.conclusion ∷ [])) n =
    IsIn-distinct_of name_eq name_eq-Decides (flat_map type_variable_places (terms_of s)) n i in
    let own : IsIn (type_variable_places s.conclusion ++ []) n = subst (λ hs. IsIn (flat_map type_variable_places (hs ++ s.conclusion ∷ [])) n) none places in
    All-at (IsIn names.variables) (type_variable_places s.conclusion ++ []) n
    (All-append (IsIn names.variables) (type_variable_places s.conclusion) [] h (tt {0})) own

-- a closed predicate has no free variable
shut-places : (vs : List Variable) → nat_eq (length vs) 0 ≡ true → vs ≡ []
shut-places [] e = refl
shut-places (v ∷ vs) e = let l : length (v ∷ vs) ≡ 0 = (Decides-eqb (length (v ∷ vs)) 0).0 e in absurd (omega (arith, l))

second-free : (names : TypeNames) (c : HolType) (f : Term) → free_places f ≡ [] → free_variables_of (second_law names c f) ≡ []
second-free names c f e = rw e refl

module _ (m : List Declaration) (closed : IsClosed m) (symbols : SymbolMap) (names : TypeNames) (j : ℕ) (one : Sequent)
    (part : DefinesPart m symbols names j one) (s : Sequent) (is : IsSequent s) (over : SequentOver m symbols s) where
  premise : IsPartPremise m symbols names part.c j one
  premise = part.operator.is

  own_type : type_or (witness one.conclusion) ≡ part.c
  own_type = part-type names part.c part.f one part.defines

  -- what the rule says of the definition is what the module has
  same_type : (c : HolType) (f : Term) → IsTypeDefinition names c f one → c ≡ part.c
  same_type c f d = sym (part-type names c f one d) ∙ own_type

  same_predicate : (c : HolType) (f : Term) → IsTypeDefinition names c f one → f ≡ predicate one.conclusion
  same_predicate c f d = sym (ap predicate d.holds)

  own_predicate : HasType (predicate one.conclusion) (function part.c bool)
  own_predicate = (part-facts m symbols names part.c j one premise).predicate_typed

  own_definition : IsTypeDefinition names part.c (predicate one.conclusion) one
  own_definition = subst (λ f. IsTypeDefinition names part.c f one) (same_predicate part.c part.f part.defines) part.defines

  -- The first law in the scope of its sequent
  pub first_law-row : (c : HolType) (f : Term) → IsTypeDefinition names c f one → s ≡ first_law names c
      → ShownLaw m (context_of symbols s) (first_law_tree symbols (scope_of symbols s) names (type_or (witness one.conclusion)) (j, one))
      (term_tree symbols (scope_of symbols s) s.conclusion)
  first_law-row c f d e =
      let says : s ≡ first_law names part.c = e ∙ ap (first_law names) (same_type c f d) in
      let none : s.hypotheses ≡ [] = ap (λ (x : Sequent). x.hypotheses) says in
      let shown : s.conclusion ≡ (first_law names part.c).conclusion = ap (λ (x : Sequent). x.conclusion) says in
      let free : free_variables_of s ≡ [] = ap free_variables_of says in
      let other = under_types (type_variables_of s) unfilled in
      let E : scope_of symbols s ≡ filled symbols other = law-scope symbols s free none in
      let own = own_shape m closed symbols s is over in
      let listed_places = subst (λ p. AllByRecursion (IsIn names.variables) (type_variable_places p)) (sym shown)
      (first-listed names part.c (predicate one.conclusion) one own_definition own_predicate) in
      let covers = Covers-more (type_variables_of s) names.variables other (law-listed names s none listed_places) (Covers-under (type_variables_of s)) in
      let law = first-shaped m closed symbols names part.c j one premise part.operator part.abstraction part.representation (context_of symbols s) other
      (subst (ShapedScope m symbols (context_of symbols s)) E own.scope) covers in
      let in_scope = subst
      (λ w. IsLaw m (context_of symbols s) (first_law_tree symbols w names part.c (j, one))
      (proof_of (term_tree symbols w (first_law names part.c).conclusion))) (sym E) law in
      record {
        found = proof_of (term_tree symbols (scope_of symbols s) s.conclusion);
        law = subst₂
            (λ c p. IsLaw m (context_of symbols s) (first_law_tree symbols (scope_of symbols s) names c (j, one))
            (proof_of (term_tree symbols (scope_of symbols s) p))) (sym own_type) (sym shown) in_scope;
        close = close_same;
      }

  -- The second law in the scope of its sequent
  pub second_law-row : (c : HolType) (f : Term) → IsTypeDefinition names c f one → s ≡ second_law names c f
      → ShownLaw m (context_of symbols s) (second_law_tree symbols (scope_of symbols s) names (type_or (witness one.conclusion)) (j, one))
      (term_tree symbols (scope_of symbols s) s.conclusion)
  second_law-row c f d e =
      let says : s ≡ second_law names part.c (predicate one.conclusion) = e ∙ (λ i. second_law names (same_type c f d i) (same_predicate c f d i)) in
      let none : s.hypotheses ≡ [] = ap (λ (x : Sequent). x.hypotheses) says in
      let shown : s.conclusion ≡ (second_law names part.c (predicate one.conclusion)).conclusion = ap (λ (x : Sequent). x.conclusion) says in
      let free : free_variables_of s ≡ [] = ap free_variables_of says ∙ second-free names part.c (predicate one.conclusion)
      (shut-places (free_places (predicate one.conclusion)) own_definition.closed) in
      let other = under_types (type_variables_of s) unfilled in
      let E : scope_of symbols s ≡ filled symbols other = law-scope symbols s free none in
      let own = own_shape m closed symbols s is over in
      let listed_places = subst (λ p. AllByRecursion (IsIn names.variables) (type_variable_places p)) (sym shown)
      (second-listed names part.c (predicate one.conclusion) one own_definition own_predicate) in
      let covers = Covers-more (type_variables_of s) names.variables other (law-listed names s none listed_places) (Covers-under (type_variables_of s)) in
      let law = second-shaped m closed symbols names part.c j one premise part.operator part.abstraction part.representation (context_of symbols s) other
      (subst (ShapedScope m symbols (context_of symbols s)) E own.scope) covers in
      let in_scope = subst
      (λ w. IsLaw m (context_of symbols s) (second_law_tree symbols w names part.c (j, one))
      (proof_of (term_tree symbols w (second_law names part.c (predicate one.conclusion)).conclusion))) (sym E) law in
      record {
        found = proof_of (term_tree symbols (scope_of symbols s) s.conclusion);
        law = subst₂
            (λ c p. IsLaw m (context_of symbols s) (second_law_tree symbols (scope_of symbols s) names c (j, one))
            (proof_of (term_tree symbols (scope_of symbols s) p))) (sym own_type) (sym shown) in_scope;
        close = close_same;
      }

  -- the scope of a law covers the type variables of the definition
  law-covers : s.hypotheses ≡ [] → AllByRecursion (IsIn names.variables) (type_variable_places s.conclusion) → Covers names.variables (scope_of symbols s).types
  law-covers none places =
      Covers-proofs names.variables s.hypotheses (scope_of_terms symbols s)
      (Covers-terms names.variables (free_variables_of s) (scope_of_types symbols s)
      (Covers-more (type_variables_of s) names.variables (under_types (type_variables_of s) unfilled) (law-listed names s none places)
      (Covers-under (type_variables_of s))))

  -- The laws in version 5
  pub first_law_free-row : (c : HolType) (f : Term) → IsTypeDefinition names c f one → s ≡ first_law_free names c
      → ShownLaw m (context_of symbols s) (first_law_free_tree symbols (scope_of symbols s) names (type_or (witness one.conclusion)) (j, one))
      (term_tree symbols (scope_of symbols s) s.conclusion)
  first_law_free-row c f d e =
      let says : s ≡ first_law_free names part.c = e ∙ ap (first_law_free names) (same_type c f d) in
      let none : s.hypotheses ≡ [] = ap (λ (x : Sequent). x.hypotheses) says in
      let shown : s.conclusion ≡ (first_law_free names part.c).conclusion = ap (λ (x : Sequent). x.conclusion) says in
      let own = own_shape m closed symbols s is over in
      let places = subst (λ p. AllByRecursion (IsIn names.variables) (type_variable_places p)) (sym shown)
      (first_free-listed names part.c (predicate one.conclusion) one own_definition own_predicate) in
      subst₂ (λ c p. ShownLaw m (context_of symbols s) (first_law_free_tree symbols (scope_of symbols s) names c (j, one))
      (term_tree symbols (scope_of symbols s) p)) (sym own_type) (sym shown)
      (first_free m closed symbols names part.c j one premise part.operator part.abstraction part.representation (context_of symbols s) (scope_of symbols s)
      own.scope (law-covers none places))

  pub second_law_free-row : symbol_type m sym_symbol ≡ Some sym_lemma.ty → (c : HolType) (f : Term) → IsTypeDefinition names c f one
      → s ≡ second_law_free names c f
      → ShownLaw m (context_of symbols s) (second_law_free_tree symbols (scope_of symbols s) names (type_or (witness one.conclusion)) (j, one))
      (term_tree symbols (scope_of symbols s) s.conclusion)
  second_law_free-row lemma c f d e =
      let says : s ≡ second_law_free names part.c (predicate one.conclusion) = e ∙ (λ i. second_law_free names (same_type c f d i) (same_predicate c f d i)) in
      let none : s.hypotheses ≡ [] = ap (λ (x : Sequent). x.hypotheses) says in
      let shown : s.conclusion ≡ (second_law_free names part.c (predicate one.conclusion)).conclusion = ap (λ (x : Sequent). x.conclusion) says in
      let own = own_shape m closed symbols s is over in
      let places = subst (λ p. AllByRecursion (IsIn names.variables) (type_variable_places p)) (sym shown)
      (second_free-listed names part.c (predicate one.conclusion) one own_definition own_predicate) in
      subst₂ (λ c p. ShownLaw m (context_of symbols s) (second_law_free_tree symbols (scope_of symbols s) names c (j, one))
      (term_tree symbols (scope_of symbols s) p)) (sym own_type) (sym shown)
      (second_free m closed symbols names part.c j one premise part.operator part.abstraction part.representation (context_of symbols s) (scope_of symbols s)
      own.scope (law-covers none places) lemma
      (shut-places (free_places (predicate one.conclusion)) own_definition.closed))

-- The definitions under their binders
call-abstractions : (m : List Declaration) {G : List Tree} (ns : List Name) {t A : Tree} → IsCallDefinition m (under G (map (λ n. types) ns)) t A
    → IsCallDefinition m G (abstractions (map (λ n. types) ns) t) (products (map (λ n. types) ns) A)
call-abstractions m [] h = h
call-abstractions m (n ∷ ns) h = call_under (call-abstractions m ns h)

call-size : (ns : List Name) (t : Tree) → 3 ≤ size t → 3 ≤ size (abstractions (map (λ n. types) ns) t)
call-size [] t h = h
call-size (n ∷ ns) t h = omega (arith, call-size ns t h)

module _ (m : List Declaration) (closed : IsClosed m) (symbols : SymbolMap) (names : TypeNames) (c : HolType) (j : ℕ) (one : Sequent)
    (d : IsPartPremise m symbols names c j one) where
  pub part_definition-big : (ns : List Name) (s : ℕ) → 3 ≤ size (part_definition_tree symbols ns s c j one)
  part_definition-big ns s = call-size ns (part_tree symbols (filled symbols (under_types ns unfilled)) s c (j, one)) (omega arith)

  pub operator-shaped : IsCallDefinition m [] (part_definition_tree symbols names.variables sub_symbol c j one)
      (products (replicate (length names.variables) types) types)
  operator-shaped =
      let ns = names.variables in
      let other = under_types ns unfilled in
      let G = under [] (map (λ n. types) ns) in
      let is = filled-shaped m closed symbols G other (under_types-shaped m closed symbols ns [] unfilled (λ n. shape.IsConstant.constant refl tt)) in
      subst (λ l. IsCallDefinition m [] (part_definition_tree symbols ns sub_symbol c j one) (products l types)) (types-are ns)
      (call-abstractions m ns (operator-definition m _ _ _ _ (part-at m closed symbols names c j one d G (filled symbols other) is)))

  module _ (op : IsPartOperator m symbols names c j one) where
    typed : HasType d.f (function c bool)
    typed = predicate-type m closed symbols names c j one d

    pub abstraction-shaped : IsCallDefinition m [] (part_definition_tree symbols (type_variables (abstraction_type names c)) sub_abs_symbol c j one)
        (generic_tree symbols (abstraction_type names c))
    abstraction-shaped =
        let ns = type_variables (abstraction_type names c) in
        call-abstractions m ns
        (abstraction-called m closed symbols names c j one d op ns
        (among-listed names (abstraction_type names c) (abstraction-listed names c d.f one d.defines typed)))

    pub representation-shaped : IsCallDefinition m [] (part_definition_tree symbols (type_variables (representation_type names c)) sub_rep_symbol c j one)
        (generic_tree symbols (representation_type names c))
    representation-shaped =
        let ns = type_variables (representation_type names c) in
        call-abstractions m ns
        (representation-called m closed symbols names c j one d op ns
        (among-listed names (representation_type names c) (representation-listed names c d.f one d.defines typed)))
