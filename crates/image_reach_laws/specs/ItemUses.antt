-- The declaration of an item uses the symbol of each key that the item needs, or a constant whose generic type mentions it.
use Rattle.hol_spec.specs.declared.Version.TheVariants.{Five, Six}
use Rattle.std.proofs.Common.{◌≡◌, ℕ, List, [], ◌∷◌, ◌++◌, map, true, false, ◌⊎◌, Some, inl, inr, refl, sym, ap, subst, ◌∙◌}
use Rattle.std.specs.Prelude.{nat_eq, length}
use Rattle.std.specs.Cmp.{unsigned_Decides}
use Rattle.std.specs.Option.{option_map_or}
use Rattle.std.specs.List.{AllByRecursion, list_any}
use Rattle.std.proofs.lemmas.Bool.{or_right, or_left}
use Rattle.hol_spec.specs.Names.{Name}
use Rattle.hol_spec.specs.Types.{HolType, type_variables}
use Rattle.hol_spec.specs.Primitives.{equality_name, equality_type, bool, function}
use Rattle.hol_spec.specs.Substitution.{type_arguments}
use Rattle.hol_spec.specs.Terms as term
use Rattle.hol_spec.specs.Terms.{Term, Variable, free_places, equation}
use Rattle.hol_spec.specs.TermSubstitution.{term_image}
use Rattle.hol_laws.specs.TermInstances.{substitute-nothing}
use Rattle.hol_spec.specs.DefinitionLists.{ConstantPairs, is_definition_list, constants_put}
use Rattle.hol_spec.specs.Sequents.{Sequent, type_variables_of, free_variables_of}
use Rattle.hol_spec.specs.Rules.{Rule, Parameters}
use Rattle.hol_spec.specs.Rules as rule
use Rattle.hol_spec.specs.declared.StepKind.{StepKind}
use Rattle.hol_spec.specs.declared.StepKind.TheVariants as kinds
use Rattle.hol_spec.specs.Lists.{IsIn}
use Rattle.hol_laws.specs.Members.{IsIn-either, IsIn-left, IsIn-right, All-at, flat_map-part}
use Rattle.hol_proof_laws.specs.RuleTaken.{list_parts}
use Rattle.lp_spec.specs.Trees.{Tree, Sym}
use Rattle.lp_spec.specs.Modules.{Declaration, abstractions, types, term_of, sub_symbol, sub_abs_symbol, sub_rep_symbol}
use Rattle.translate_spec.specs.Scopes.{SymbolMap, constant_symbol, generic_type, generic_tree, type_tree, under_types, unfilled, filled, Scope, term_tree, scope_of, domains_of}
use Rattle.translate_spec.specs.ProofTrees.{constants_scope, part_tree, part_arguments_of}
use Rattle.translate_spec.specs.Rows.{proof_tree}
use Rattle.translate_spec.specs.Items.{Content, operator, constant, defined_constant, type_operator, type_abstraction, type_representation, unproved, step, Item, declaration_of, symbols_of, part_definition_tree}
use Rattle.translate_spec.specs.Reach.{Key, constant_key, number_key, type_keys, term_keys, sequent_keys, given_keys, needs, operator_key}
use Rattle.translate_spec.specs.Stands.{occurs, uses}
use Rattle.translate_laws.specs.ItemConditions.{ArePremisesAmong, IsDefinedBy, DefinesAmong, IsContent}
use Rattle.translate_laws.specs.MadeModules.{AreMade}
use Rattle.translate_laws.specs.BodyTyping.{IsIn-map}
use Rattle.image_laws.specs.Uses.{symbol_of_key, head-occurs, argument-occurs, end-occurs, type-uses, TermUses, term-uses, TreeUses, sequent-uses}
use Rattle.image_laws.specs.PremiseUses.{ProvesHypothesis, premises-used, part-used}
use Rattle.image_reach_laws.specs.ModuleItems.{has-told, has-among, term-instances, sequent-instances}
use Rattle.image_reach_laws.specs.ListedVariables.{listed-free, listed-variable, constant-put, put-from}
use Rattle.hol_spec.specs.Definitions.{TypeNames}
use Rattle.hol_spec.specs.NewTypes.{new_type, abstraction_type, representation_type}
use Rattle.hol_spec.specs.TypeDefinitions.{abstracted, represented, first_law, second_law, new_variable, old_variable, first_law_free, second_law_free}
use Rattle.hol_laws.specs.TypeLaws.{count-variables}

-- the premise that proves a hypothesis proves one of the other premise
abbrev pub IsUsing : Content → Type 0
IsUsing (operator n k) = Unit {0}
IsUsing (constant n a) = Unit {0}
IsUsing (defined_constant n a t) = Unit {0}
IsUsing (type_operator names c f j one) = Unit {0}
IsUsing (type_abstraction names c f j one) = Unit {0}
IsUsing (type_representation names c f j one) = Unit {0}
IsUsing (unproved s) = Unit {0}
IsUsing (step kind js premises given s) = ProvesHypothesis kind premises

-- a declaration uses the symbol of a key, or a constant whose generic type mentions it
pub data KeyUses (symbols : SymbolMap) (k : Key) (d : Declaration) : Type 0 where
  it : uses d (symbol_of_key symbols k) ≡ true → KeyUses symbols k d
  by_constant : (n : Name) → uses d (constant_symbol symbols n) ≡ true → IsIn (type_keys (generic_type symbols n)) k → KeyUses symbols k d

pub type-use : (d : Declaration) (r : ℕ) → occurs r d.ty ≡ true → uses d r ≡ true
type-use d r e = or_left (occurs r d.ty) (option_map_or (occurs r) d.body false) e

body-use : (d : Declaration) (r : ℕ) (b : Tree) → d.body ≡ Some b → occurs r b ≡ true → uses d r ≡ true
body-use d r b is e = or_right (occurs r d.ty) (option_map_or (occurs r) d.body false) (ap (λ o. option_map_or (occurs r) o false) is ∙ e)

under-abstractions : (r : ℕ) (domains : List Tree) (t : Tree) → occurs r t ≡ true → occurs r (abstractions domains t) ≡ true
under-abstractions r [] t e = e
under-abstractions r (a ∷ domains) t e = or_right (occurs r a) (occurs r (abstractions domains t)) (under-abstractions r domains t e)

any-at : (r : ℕ) (ts : List Tree) (t : Tree) → IsIn ts t → occurs r t ≡ true → list_any (occurs r) ts ≡ true
any-at r [] t i e = absurd i
any-at r (u ∷ ts) t (inl is) e = or_left (occurs r u) (list_any (occurs r) ts) (ap (occurs r) (sym is) ∙ e)
any-at r (u ∷ ts) t (inr i) e = or_right (occurs r u) (list_any (occurs r) ts) (any-at r ts t i e)

module _ (symbols : SymbolMap) (k : Key) where
  -- the type of a constant uses what its generic type mentions
  pub generic-uses : (a : HolType) → IsIn (type_keys a) k → occurs (symbol_of_key symbols k) (generic_tree symbols a) ≡ true
  generic-uses a i =
      let r = symbol_of_key symbols k in
      let scope = under_types (type_variables a) unfilled in
      end-occurs r (map (λ n. types) (type_variables a)) (term_of (type_tree symbols scope a))
      (or_right (nat_eq r 4) (occurs r (type_tree symbols scope a)) (type-uses symbols k a i scope))

  in-type : (d : Declaration) → TreeUses symbols k d.ty → KeyUses symbols k d
  in-type d (TreeUses.it e) = KeyUses.it (type-use d (symbol_of_key symbols k) e)
  in-type d (TreeUses.constant_of n e i) = KeyUses.by_constant n (type-use d (constant_symbol symbols n) e) i

  -- a definition uses what its term mentions, which has no free variable
  definition-uses : (name : List ℕ) (n : Name) (a : HolType) (t : Term) → AllByRecursion (λ v. ⊥) (free_places t) → TermUses symbols k t
      → KeyUses symbols k (declaration_of symbols name (defined_constant n a t))
  definition-uses name n a t closed h = go h
    where
      scope : Scope
      scope = filled symbols (under_types (type_variables a) unfilled)

      within : (r : ℕ) → occurs r (term_tree symbols scope t) ≡ true → uses (declaration_of symbols name (defined_constant n a t)) r ≡ true
      within r e =
          let body = abstractions (map (λ n. types) (type_variables a)) (term_tree symbols scope t) in
          body-use (declaration_of symbols name (defined_constant n a t)) r body refl
          (under-abstractions r (map (λ n. types) (type_variables a)) (term_tree symbols scope t) e)

      go : TermUses symbols k t → KeyUses symbols k (declaration_of symbols name (defined_constant n a t))
      go (TermUses.itself f) = KeyUses.it (within (symbol_of_key symbols k) (f scope))
      go (TermUses.by_variable v i j) = absurd (All-at (λ v. ⊥) (free_places t) v closed i)
      go (TermUses.by_constant c f i) = KeyUses.by_constant c (within (constant_symbol symbols c) (f scope)) i

module _ (xs : List Item) (made : AreMade [] xs) (before : List Item) (among : (x : Item) → IsIn before x → IsIn xs x) (k : Key) where
  abbrev symbols : SymbolMap
  symbols = symbols_of xs

  -- the image of a free variable of the premise stands in the proof
  image-use : (pairs : ConstantPairs) (one : Sequent) (scope : Scope) (v : Variable) → IsIn (free_variables_of one) v → (js : List ℕ)
      → ArePremisesAmong before js (one ∷ []) → (r : ℕ)
      → occurs r (term_tree symbols scope (term_image (constants_put pairs) v)) ≡ true
      → occurs r (proof_tree symbols scope kinds.DefineConstList js (one ∷ []) (Parameters.constants pairs)) ≡ true
  image-use pairs one scope v i [] h r e = absurd h
  image-use pairs one scope v i (a ∷ b ∷ js) h r e = absurd h.1
  image-use pairs one scope v i (a ∷ []) h r e =
      let c = constants_scope symbols scope (constants_put pairs) in
      let own : c.terms v ≡ term_tree symbols scope (term_image (constants_put pairs) v) =
      (λ t. term_tree symbols scope (term_image (constants_put pairs) (v.0, substitute-nothing v.1 t))) in
      argument-occurs r (Sym a) (map c.types (type_variables_of one) ++ map c.terms (free_variables_of one) ++ map c.proofs one.hypotheses)
      (any-at r (map c.types (type_variables_of one) ++ map c.terms (free_variables_of one) ++ map c.proofs one.hypotheses) (c.terms v)
      (IsIn-left (map c.types (type_variables_of one) ++ map c.terms (free_variables_of one)) (map c.proofs one.hypotheses) (c.terms v)
      (IsIn-right (map c.types (type_variables_of one)) (map c.terms (free_variables_of one)) (c.terms v) (IsIn-map c.terms (free_variables_of one) v i)))
      (ap (occurs r) own ∙ e))

  constant-use : (scope : Scope) (n : Name) (t : HolType) → occurs (constant_symbol symbols n) (term_tree symbols scope (term.Term.constant n t)) ≡ true
  constant-use scope n t =
      head-occurs (constant_symbol symbols n) (Sym (constant_symbol symbols n))
      (map (type_tree symbols scope.types) (type_arguments (generic_type symbols n) t))
      ((unsigned_Decides (constant_symbol symbols n) (constant_symbol symbols n)).1 refl)

  -- a proof uses a constant, whose key this is or whose generic type mentions it
  record ConstantUsed (kind : StepKind) (js : List ℕ) (premises : List Sequent) (given : Parameters) : Type 0 where
    pub name : Name
    pub used : (scope : Scope) → occurs (constant_symbol symbols name) (proof_tree symbols scope kind js premises given) ≡ true
    pub key : (k ≡ constant_key name) ⊎ IsIn (type_keys (generic_type symbols name)) k

  same_name : (m n : Name) (t : HolType) → term.Term.constant m t ≡ term.Term.constant n t → m ≡ n
  same_name m n t e = cc

  list-uses : (js : List ℕ) (pairs : ConstantPairs) (one : Sequent) → ArePremisesAmong before js (one ∷ []) → is_definition_list pairs one ≡ true
      → AllByRecursion (λ v. (t : Term) × IsDefinedBy before (constants_put pairs) v t) (free_variables_of one)
      → IsIn (given_keys (Parameters.constants pairs)) k
      → ConstantUsed kinds.DefineConstList js (one ∷ []) (Parameters.constants pairs)
  list-uses js pairs one given_from good defines i =
      let w = flat_map-part (λ (p : Variable × Term). term_keys p.1) (constants_put pairs) k i in
      let p = put-from pairs w.0 w.1 in
      let n = p.0.0 in
      let v = p.0.1 in
      let place = listed-free pairs one good v (listed-variable pairs p.0 p.1) in
      let put = constant-put pairs (list_parts pairs one good).variables p.0 p.1 in
      let d = All-at (λ v. (t : Term) × IsDefinedBy before (constants_put pairs) v t) (free_variables_of one) v defines place in
      let same : n ≡ d.1.name = same_name n d.1.name v.1 (sym put ∙ d.1.image) in
      let told = has-told xs made (defined_constant d.1.name v.1 d.0) (has-among xs made before among (defined_constant d.1.name v.1 d.0) d.1.has) in
      let generic : generic_type symbols n ≡ v.1 = ap (generic_type symbols) same ∙ told.1.1 in
      let key : IsIn (constant_key n ∷ type_keys v.1) k = subst (λ (u : Variable × Term). IsIn (term_keys u.1) k) p.2 w.2 in
      record {
        name = n;
        used = λ scope. image-use pairs one scope v place js given_from (constant_symbol symbols n)
            (ap (λ t. occurs (constant_symbol symbols n) (term_tree symbols scope t)) put ∙ constant-use scope n v.1);
        key = elim key [
          | inl e ↦ inl e
          | inr j ↦ inr (subst (λ t. IsIn (type_keys t) k) (sym generic) j)
        ];
      }

  -- the operator and the constants of a type definition stand in its laws
  operator-in : (names : TypeNames) → k ≡ operator_key names.operator (length names.variables) → IsIn (type_keys (new_type names)) k
  operator-in names e = inl (e ∙ ap (operator_key names.operator) (sym (count-variables names.variables)))

  abstracted-in : (names : TypeNames) (c : HolType) (x : Term) → k ≡ constant_key names.abstraction → IsIn (term_keys (abstracted names c x)) k
  abstracted-in names c x e = inl e

  represented-in : (names : TypeNames) (c : HolType) (x : Term) → k ≡ constant_key names.representation → IsIn (term_keys (represented names c x)) k
  represented-in names c x e = inl e

  within-abstracted : (names : TypeNames) (c : HolType) (x : Term) → IsIn (term_keys x) k → IsIn (term_keys (abstracted names c x)) k
  within-abstracted names c x i = IsIn-right (constant_key names.abstraction ∷ type_keys (abstraction_type names c)) (term_keys x) k i

  within-represented : (names : TypeNames) (c : HolType) (x : Term) → IsIn (term_keys x) k → IsIn (term_keys (represented names c x)) k
  within-represented names c x i = IsIn-right (constant_key names.representation ∷ type_keys (representation_type names c)) (term_keys x) k i

  left-side : (a : HolType) (x y : Term) → IsIn (term_keys x) k → IsIn (term_keys (equation a x y)) k
  left-side a x y i =
      let e : List Key = term_keys (term.Term.constant equality_name (equality_type a)) in
      IsIn-left (e ++ term_keys x) (term_keys y) k (IsIn-right e (term_keys x) k i)

  first-keys : (names : TypeNames) (c : HolType) → IsIn (given_keys (Parameters.type_operator names Six)) k → IsIn (sequent_keys (first_law names c)) k
  first-keys names c i = left-side (function (new_type names) (new_type names)) (term.Term.lam (new_type names) inside)
      (term.Term.lam (new_type names) (term.Term.bound 0)) (go i)
    where
      inside : Term
      inside = abstracted names c (represented names c (term.Term.bound 0))

      go : IsIn (given_keys (Parameters.type_operator names Six)) k → IsIn (type_keys (new_type names) ++ term_keys inside) k
      go (inl e) = IsIn-left (type_keys (new_type names)) (term_keys inside) k (operator-in names e)
      go (inr (inl e)) = IsIn-right (type_keys (new_type names)) (term_keys inside) k (abstracted-in names c (represented names c (term.Term.bound 0)) e)
      go (inr (inr (inl e))) = IsIn-right (type_keys (new_type names)) (term_keys inside) k
          (within-abstracted names c (represented names c (term.Term.bound 0)) (represented-in names c (term.Term.bound 0) e))
      go (inr (inr (inr n))) = absurd n

  second-keys : (names : TypeNames) (c : HolType) (f : Term) → IsIn (given_keys (Parameters.type_operator names Six)) k
      → IsIn (sequent_keys (second_law names c f)) k
  second-keys names c f i =
      left-side (function c bool) (term.Term.lam c (equation c undone (term.Term.bound 0))) (term.Term.lam c (term.Term.app f (term.Term.bound 0)))
      (IsIn-right (type_keys c) (term_keys (equation c undone (term.Term.bound 0))) k (left-side c undone (term.Term.bound 0) (go i)))
    where
      undone : Term
      undone = represented names c (abstracted names c (term.Term.bound 0))

      go : IsIn (given_keys (Parameters.type_operator names Six)) k → IsIn (term_keys undone) k
      go (inl e) = inr
          (inr (IsIn-left (type_keys (new_type names) ++ (type_keys c ++ [])) (term_keys (abstracted names c (term.Term.bound 0))) k
          (IsIn-left (type_keys (new_type names)) (type_keys c ++ []) k (operator-in names e))))
      go (inr (inl e)) = within-represented names c (abstracted names c (term.Term.bound 0)) (abstracted-in names c (term.Term.bound 0) e)
      go (inr (inr (inl e))) = represented-in names c (abstracted names c (term.Term.bound 0)) e
      go (inr (inr (inr n))) = absurd n

  right-side : (a : HolType) (x y : Term) → IsIn (term_keys y) k → IsIn (term_keys (equation a x y)) k
  right-side a x y i = IsIn-right (term_keys (term.Term.constant equality_name (equality_type a)) ++ term_keys x) (term_keys y) k i

  -- and in version 5
  first_free-keys : (names : TypeNames) (c : HolType) → IsIn (given_keys (Parameters.type_operator names Five)) k
      → IsIn (sequent_keys (first_law_free names c)) k
  first_free-keys names c i = left-side (new_type names) inside v (go i)
    where
      v : Term
      v = new_variable names

      inside : Term
      inside = abstracted names c (represented names c (new_variable names))

      go : IsIn (given_keys (Parameters.type_operator names Five)) k → IsIn (term_keys inside) k
      go (inl e) = inr
          (inr (IsIn-left (type_keys c ++ (type_keys (new_type names) ++ [])) (term_keys (represented names c v)) k
          (IsIn-right (type_keys c) (type_keys (new_type names) ++ []) k (IsIn-left (type_keys (new_type names)) [] k (operator-in names e)))))
      go (inr (inl e)) = abstracted-in names c (represented names c v) e
      go (inr (inr (inl e))) = within-abstracted names c (represented names c v) (represented-in names c v e)
      go (inr (inr (inr n))) = absurd n

  second_free-keys : (names : TypeNames) (c : HolType) (f : Term) → IsIn (given_keys (Parameters.type_operator names Five)) k
      → IsIn (sequent_keys (second_law_free names c f)) k
  second_free-keys names c f i = right-side bool (term.Term.app f v) (equation c undone v) (left-side c undone v (go i))
    where
      v : Term
      v = old_variable c

      undone : Term
      undone = represented names c (abstracted names c (old_variable c))

      go : IsIn (given_keys (Parameters.type_operator names Five)) k → IsIn (term_keys undone) k
      go (inl e) = inr
          (inr (IsIn-left (type_keys (new_type names) ++ (type_keys c ++ [])) (term_keys (abstracted names c v)) k
          (IsIn-left (type_keys (new_type names)) (type_keys c ++ []) k (operator-in names e))))
      go (inr (inl e)) = within-represented names c (abstracted names c v) (abstracted-in names c v e)
      go (inr (inr (inl e))) = represented-in names c (abstracted names c v) e
      go (inr (inr (inr n))) = absurd n

  -- what a step is given stands in what it says or in its proof
  given-uses : (kind : StepKind) (premises : List Sequent) (given : Parameters) (s : Sequent) → Rule kind premises given s → (js : List ℕ)
      → ArePremisesAmong before js premises → DefinesAmong before kind js premises given
      → IsIn (given_keys given) k → IsIn (sequent_keys s) k ⊎ ConstantUsed kind js premises given
  given-uses kind premises given s (rule.define_const {n = n} {t = t} {a = a} d e) js h defines (inl is) =
      let left : List Key = term_keys (term.Term.constant equality_name (equality_type a)) in
      let right : List Key = constant_key n ∷ type_keys a in
      inl (subst (λ (q : Sequent). IsIn (sequent_keys q) k) (sym e) (IsIn-left (left ++ right) (term_keys t) k (IsIn-right left right k (inl is))))
  given-uses kind premises given s (rule.define_const d e) js h defines (inr none) = absurd none
  given-uses kind premises given s (rule.define_const_list {pairs = pairs} {one = one} d l e) js h defines i = inr (list-uses js pairs one h l defines.1 i)
  given-uses kind premises given s (rule.refl h e) js p defines i = absurd i
  given-uses kind premises given s (rule.assume h e) js p defines i = absurd i
  given-uses kind premises given s (rule.eq_mp e f g) js p defines i = absurd i
  given-uses kind premises given s (rule.abs_thm e f g) js p defines i = absurd i
  given-uses kind premises given s (rule.app_thm e f g) js p defines i = absurd i
  given-uses kind premises given s (rule.deduct_antisym e) js p defines i = absurd i
  given-uses kind premises given s (rule.beta_conv h e) js p defines i = absurd i
  given-uses kind premises given s (rule.sym e f) js p defines i = absurd i
  given-uses kind premises given s (rule.trans e f g) js p defines i = absurd i
  given-uses kind premises given s (rule.prove_hyp e) js p defines i = absurd i
  given-uses kind premises given s (rule.subst h e) js p defines i = absurd i
  given-uses kind premises given s (rule.recorded h) js p defines i = absurd i
  given-uses kind premises given s (rule.restate h w) js p defines i = absurd i
  given-uses kind premises given s (rule.first_law {names = names} {c = c} d e) js p defines i =
      inl (subst (λ (q : Sequent). IsIn (sequent_keys q) k) (sym e) (first-keys names c i))
  given-uses kind premises given s (rule.second_law {names = names} {c = c} {f = f} d e) js p defines i =
      inl (subst (λ (q : Sequent). IsIn (sequent_keys q) k) (sym e) (second-keys names c f i))
  given-uses kind premises given s (rule.first_law_free {names = names} {c = c} d e) js p defines i =
      inl (subst (λ (q : Sequent). IsIn (sequent_keys q) k) (sym e) (first_free-keys names c i))
  given-uses kind premises given s (rule.second_law_free {names = names} {c = c} {f = f} d e) js p defines i =
      inl (subst (λ (q : Sequent). IsIn (sequent_keys q) k) (sym e) (second_free-keys names c f i))

  map-from : (js : List ℕ) → IsIn (map number_key js) k → (j : ℕ) × IsIn js j × (k ≡ number_key j)
  map-from [] i = absurd i
  map-from (j ∷ js) (inl e) = (j, inl refl, e)
  map-from (j ∷ js) (inr i) = let r = map-from js i in (r.0, inr r.1, r.2)

  -- the body of a type definition uses its premise and the type that it is made from
  part-use : (d : Declaration) (names : List Name) (s : ℕ) (c : HolType) (j : ℕ) (one : Sequent) → d.body ≡ Some (part_definition_tree symbols names s c j one)
      → (r : ℕ)
      → occurs r (part_tree symbols (filled symbols (under_types names unfilled)) s c (j, one)) ≡ true → uses d r ≡ true
  part-use d names s c j one is r e =
      body-use d r (part_definition_tree symbols names s c j one) is
      (under-abstractions r (map (λ n. types) names) (part_tree symbols (filled symbols (under_types names unfilled)) s c (j, one)) e)

  premise-use : (d : Declaration) (names : List Name) (s : ℕ) (c : HolType) (j : ℕ) (one : Sequent)
      → d.body ≡ Some (part_definition_tree symbols names s c j one) → k ≡ number_key j → KeyUses symbols k d
  premise-use d names s c j one is e =
      KeyUses.it (part-use d names s c j one is (symbol_of_key symbols k)
      (part-used (symbol_of_key symbols k) symbols (filled symbols (under_types names unfilled)) (filled symbols (under_types names unfilled)) s c j one
      (ap (symbol_of_key symbols) e)))

  -- The declaration of an item uses what the item needs
  pub content-uses : (name : List ℕ) (c : Content) → IsContent before c → IsUsing c → IsIn (needs c) k → KeyUses symbols k (declaration_of symbols name c)
  content-uses name (operator n j) h u i = absurd i
  content-uses name (constant n a) h u i = KeyUses.it
      (type-use (declaration_of symbols name (constant n a)) (symbol_of_key symbols k) (generic-uses symbols k a i))
  content-uses name (defined_constant n a t) h u i =
      definition-uses symbols k name n a t h.no_free (term-uses symbols k t (term-instances xs made before among t h.taken) i)
  content-uses name (type_operator names c f j one) h u (inl e) =
      premise-use (declaration_of symbols name (type_operator names c f j one)) names.variables sub_symbol c j one refl e
  content-uses name (type_operator names c f j one) h u (inr i) =
      let scope = filled symbols (under_types names.variables unfilled) in
      let r = symbol_of_key symbols k in
      KeyUses.it (part-use (declaration_of symbols name (type_operator names c f j one)) names.variables sub_symbol c j one refl r
      (argument-occurs r (Sym sub_symbol) (part_arguments_of symbols scope c (j, one))
      (any-at r (part_arguments_of symbols scope c (j, one)) (type_tree symbols scope.types c) (inl refl) (type-uses symbols k c i scope.types))))
  content-uses name (type_abstraction names c f j one) h u (inl e) =
      premise-use (declaration_of symbols name (type_abstraction names c f j one)) (type_variables (abstraction_type names c)) sub_abs_symbol c j one refl e
  content-uses name (type_abstraction names c f j one) h u (inr i) =
      KeyUses.it (type-use (declaration_of symbols name (type_abstraction names c f j one)) (symbol_of_key symbols k)
      (generic-uses symbols k (abstraction_type names c) i))
  content-uses name (type_representation names c f j one) h u (inl e) =
      premise-use (declaration_of symbols name (type_representation names c f j one)) (type_variables (representation_type names c)) sub_rep_symbol c j one refl
      e
  content-uses name (type_representation names c f j one) h u (inr i) =
      KeyUses.it (type-use (declaration_of symbols name (type_representation names c f j one)) (symbol_of_key symbols k)
      (generic-uses symbols k (representation_type names c) i))
  content-uses name (unproved s) h u i = in-type symbols k (declaration_of symbols name (unproved s))
      (sequent-uses symbols k s (sequent-instances xs made before among s h) i)
  content-uses name (step kind js premises given s) h u i = elim (IsIn-either (sequent_keys s ++ map number_key js) (given_keys given) k i) [
    | inl front ↦ elim (IsIn-either (sequent_keys s) (map number_key js) k front) [
      | inl said ↦ mentioned said
      | inr premise ↦
          let j = map-from js premise in
          KeyUses.it
          (in_proof (symbol_of_key symbols k)
          (subst (λ (l : Key). occurs (symbol_of_key symbols l) (proof_tree symbols (scope_of symbols s) kind js premises given) ≡ true) (sym j.2)
          (premises-used j.0 symbols (scope_of symbols s) before kind js premises given s h.0.rule h.0.among u j.1)))
    ]
    | inr back ↦ elim (given-uses kind premises given s h.0.rule js h.0.among h.1 back) [
      | inl said ↦ mentioned said
      | inr w ↦ elim w.key [
        | inl e ↦ KeyUses.it
            (in_proof (symbol_of_key symbols k)
            (subst (λ (l : Key). occurs (symbol_of_key symbols l) (proof_tree symbols (scope_of symbols s) kind js premises given) ≡ true) (sym e)
            (w.used (scope_of symbols s))))
        | inr j ↦ KeyUses.by_constant w.name (in_proof (constant_symbol symbols w.name) (w.used (scope_of symbols s))) j
      ]
    ]
  ]
    where
      mentioned : IsIn (sequent_keys s) k → KeyUses symbols k (declaration_of symbols name (step kind js premises given s))
      mentioned j = in-type symbols k (declaration_of symbols name (step kind js premises given s))
          (sequent-uses symbols k s (sequent-instances xs made before among s h.0.taken) j)

      in_proof : (r : ℕ) → occurs r (proof_tree symbols (scope_of symbols s) kind js premises given) ≡ true
          → uses (declaration_of symbols name (step kind js premises given s)) r ≡ true
      in_proof r e =
          let proof = proof_tree symbols (scope_of symbols s) kind js premises given in
          body-use (declaration_of symbols name (step kind js premises given s)) r (abstractions (domains_of symbols s) proof) refl
          (under-abstractions r (domains_of symbols s) proof e)
