-- What a run's module leaves without a body was given to the run, and what it defines the run defined.
use Rattle.std.proofs.Common.{◌≡◌, ℕ, suc, ◌+◌, ◌⊎◌, inl, inr, List, [], ◌∷◌, ◌++◌, length, Bool, true, false, Some, None, slice_get, refl, sym, ap, subst, ◌∙◌, arith, append_assoc, replicate, map}
use Rattle.std.specs.Prelude.{nat_eq, replicate}
use Rattle.std.specs.List.{AllByRecursion, IsAmong, IsDistinct, position_or_len}
use Rattle.std.proofs.lemmas.Bool.{both_ways}
use Rattle.hol_spec.specs.Names.{Name}
use Rattle.hol_spec.specs.NameEquality.{name_eq}
use Rattle.hol_laws.specs.NameEqualityLaws.{name_eq-Decides}
use Rattle.hol_spec.specs.Types.{HolType, variable_places, type_variables}
use Rattle.hol_spec.specs.Terms.{Term, bound, HasType, free_places, type_variable_places}
use Rattle.hol_laws.specs.TermTyping.{loose-typed}
use Rattle.hol_laws.specs.ListLaws.{distinct-IsDistinct}
use Rattle.hol_spec.specs.Sequents.{Sequent, terms_of, type_variables_of, free_variables_of}
use Rattle.hol_spec.specs.Definitions.{Definition, TypeNames, type_operator}
use Rattle.hol_spec.specs.NewTypes.{abstraction_type, representation_type}
use Rattle.hol_spec.specs.ClosedForm.{close_term, closed_form}
use Rattle.hol_spec.specs.Symbols.{Symbol}
use Rattle.hol_spec.specs.Rules.{Parameters}
use Rattle.hol_spec.specs.declared.StepKind.{StepKind}
use Rattle.hol_spec.specs.declared.StepKind.TheVariants as kinds
use Rattle.hol_spec.specs.Proofs.{Step, symbols_of, steps_of, sequent_at, Accepted}
use Rattle.article_spec.specs.SoundRuns.{assumed_from, IsSoundRun}
use Rattle.hol_spec.specs.Lists.{IsIn}
use Rattle.hol_laws.specs.Members.{IsIn-distinct, All-at, All-each, IsIn-left, All-right, All-weaker}
use Rattle.lp_spec.specs.declared.form.Form.TheVariants.{Def, Thm}
use Rattle.lp_spec.specs.Modules.{Declaration, symbol, products, abstractions, term_of, types, applied, sub_symbol, sub_abs_symbol, sub_rep_symbol}
use Rattle.translate_spec.specs.TypeEnc.{place}
use Rattle.translate_spec.specs.Enc.{Enc, StandsForTerm}
use Rattle.translate_spec.specs.Rows.{has_row, type_or}
use Rattle.translate_spec.specs.Scopes.{SymbolMap, type_tree, term_tree, generic_tree, under_types, unfilled, filled, sequent_tree}
use Rattle.translate_spec.specs.Items.{Content, constant, defined_constant, Item, says, declaration_of, type_operator, type_abstraction, type_representation}
use Rattle.translate_spec.specs.MadeItems.{contents_of, type_contents, content_by, items_of}
use Rattle.translate_spec.specs.Reach.{kept, renumbered, renumbered_content, needs, number_key}
use Rattle.translate_spec.specs.Image.{symbol_name, type_definition_name, step_name, name_in, is_one_of, image, constant_name, operator_name}
use Rattle.translate_spec.specs.Stands.{IsConstantType, IsGiven, IsPartOf, IsDefined, IsTheoremName}
use Rattle.translate_laws.specs.BodyTyping.{IsIn-map}
use Rattle.translate_laws.specs.KeptModules.{IsIn-kept, AreKept, AreNumbered}
use Rattle.translate_laws.specs.ItemConditions.{IsDefining, IsContent, IsPart}
use Rattle.translate_laws.specs.WantedItems.{AreMadeInOrder, made-numbered}
use Rattle.translate_laws.specs.ToldParameters.{TypesTold, TypesTold-own}
use Rattle.translate_laws.specs.SequentEncoding.{TypeMeant, TermMeant, TypesPlaced, placed-types, type_stands, term_stands, types-are}
use Rattle.translate_laws.specs.AcceptedItems.{says-step}
use Rattle.image_laws.specs.Origins.{Origin}
use Rattle.image_laws.specs.Named.{HasNames, IsStepName, step_name-is, is-assumed, at-place}
use Rattle.image_laws.specs.ExportOrder.{HaveRows, sequent-step}
use Rattle.image_laws.specs.RunModules.{declaration-name}
use Rattle.image_laws.specs.Meanings.{ContentMeant}
use Rattle.image_laws.specs.Standing.{Always, items, keep, number, stays, symbols, declared, stays-meant, item-stands, BothMeant, roots, stays-made, content-type, content-terms}
use Rattle.hol_proof_laws.specs.SymbolGrowth.{symmetric}
use Rattle.article_laws.specs.SoundStates.{zero-plus}
use Rattle.translate_laws.specs.ModuleTyping.{HoldsItem, Holds}
use Rattle.hol_spec.specs.TypeDefinitions.{IsTypeDefinition}
use Rattle.translate_laws.specs.HeldItems.{module-holds}
use Rattle.translate_laws.specs.ComputingBodies.{IsPartPremise}
use Rattle.translate_laws.specs.MadeModules.{items-made}
use Rattle.translate_laws.specs.SaidItems.{says-gives_of, says-renumbered}
use Rattle.translate_spec.specs.ProofTrees.{part_arguments_of, predicate, witness, premise_tree}
use Rattle.translate_laws.specs.PartRows.{part-facts, listed-distinct, predicate-places, abstraction-own, type-listed, representation-own}
use Rattle.hol_spec.specs.declared.StepKind.TheVariants.{Sym}
use Rattle.hol_spec.specs.Primitives.{function, bool}
use Rattle.lp_spec.specs.Trees.{Sym}
use Rattle.translate_laws.specs.DefinitionsHeld.{closed-none}

-- the declaration of a step with a proof is a theorem, with a body
proved-body : (symbols : SymbolMap) (number : ℕ → ℕ) (name : List ℕ) (b : Bool) → b ≡ true
    → (kind : StepKind) (js : List ℕ) (ss : List Sequent) (g : Parameters) (s : Sequent)
    → (declaration_of symbols name (renumbered_content number (content_by b kind js ss g s))).body ≡ None → ⊥
proved-body symbols number name true e kind js ss g s f = absurd (cc)
proved-body symbols number name false e kind js ss g s f = absurd (cc)

no_definition : (symbols : SymbolMap) (number : ℕ → ℕ) (name : List ℕ) (b : Bool) (kind : StepKind) (js : List ℕ) (ss : List Sequent) (g : Parameters)
    (s : Sequent)
    → (declaration_of symbols name (renumbered_content number (content_by b kind js ss g s))).form ≡ Def → ⊥
no_definition symbols number name true kind js ss g s f = absurd (cc)
no_definition symbols number name false kind js ss g s f = absurd (cc)

no_theorem : (symbols : SymbolMap) (number : ℕ → ℕ) (name : List ℕ) (b : Bool) → b ≡ false
    → (kind : StepKind) (js : List ℕ) (ss : List Sequent) (g : Parameters) (s : Sequent)
    → (declaration_of symbols name (renumbered_content number (content_by b kind js ss g s))).form ≡ Thm → ⊥
no_theorem symbols number name true e kind js ss g s f = absurd (cc)
no_theorem symbols number name false e kind js ss g s f = absurd (cc)

-- a member is among the list
pub among : {A : Type 0} (xs : List A) (x : A) → IsIn xs x → IsAmong xs x
among [] x i = absurd i
among (y ∷ ys) x (inl e) = (0, (omega arith, e))
among (y ∷ ys) x (inr i) = let r = among ys x i in (suc r.0, (let l = r.1.0 in omega (arith, l), r.1.1))

-- the content of an item asks for something of those before it, and of an item that is kept all that it needs is kept
pub record Asked (keep : ℕ → Bool) (items : List Item) (z : Item) : Type 0 where
  pub front : List Item
  pub content : IsContent front z.content
  pub kept : keep z.symbol ≡ true → AreKept keep front (needs z.content)
  pub inside : (y : Item) → IsIn front y → IsIn items y

content-asked : (keep : ℕ → Bool) (before xs : List Item) (z : Item) → AreNumbered keep before xs → IsIn xs z → Asked keep (before ++ xs) z
content-asked keep before [] z h i = absurd i
content-asked keep before (y ∷ ys) z h (inl e) = record {
  front = before;
  content = subst (λ (x : Item). IsContent before x.content) (sym e) h.2;
  kept = subst (λ (x : Item). keep x.symbol ≡ true → AreKept keep before (needs x.content)) (sym e) h.3;
  inside = λ w i. IsIn-left before (y ∷ ys) w i;
}
content-asked keep before (y ∷ ys) z h (inr i) = subst (λ l. Asked keep l z) (append_assoc before (y ∷ []) ys)
    (content-asked keep (before ++ y ∷ []) ys z h.4 i)

module _ (m : List Declaration) (symbols : SymbolMap) where
  own-distinct : (a : HolType) → IsDistinct name_eq (type_variables a)
  own-distinct a = distinct-IsDistinct name_eq (symmetric name_eq name_eq-Decides) (variable_places a)

  distinct-placed : (vs : List Name) → IsDistinct name_eq vs → TypesPlaced m symbols vs (place (length vs) 0 0 0) (under_types vs unfilled)
  distinct-placed vs distinct =
      let outer : length vs ≡ length vs + 0 + 0 + 0 = omega arith in
      let told = TypesTold-own vs distinct in
      placed-types m symbols vs (place (length vs) 0 0 0) (under_types vs unfilled) refl (subst (λ j. TypesTold vs j (under_types vs unfilled)) outer told)

  own-placed : (vs : List Name) (a : HolType) → vs ≡ type_variables a → TypesPlaced m symbols vs (place (length vs) 0 0 0) (under_types vs unfilled)
  own-placed vs a e = distinct-placed vs (subst (IsDistinct name_eq) (sym e) (own-distinct a))

  -- the type of a constant whose symbols mean what they stand for
  pub constant_type-is : (a : HolType) → TypeMeant m symbols a → IsConstantType m a (generic_tree symbols a)
  constant_type-is a meant =
      let vs = type_variables a in
      record {
        tree = type_tree symbols (under_types vs unfilled) a;
        stands = type_stands m symbols vs (place (length vs) 0 0 0) (under_types vs unfilled) (own-placed vs a refl) a meant
            (All-each (IsIn vs) (variable_places a) (λ n i. IsIn-distinct name_eq name_eq-Decides (variable_places a) n i));
        is = ap (λ ds. products ds (term_of (type_tree symbols (under_types vs unfilled) a))) (types-are vs);
      }

  -- and the term of a definition
  pub definition-stands : (before : List Item) (a : HolType) (t : Term) → IsDefining before a t → TermMeant m symbols t
      → StandsForTerm m (close_term (type_variables a) [] t) (place (length (type_variables a)) 0 0 0)
      (term_tree symbols (filled symbols (under_types (type_variables a) unfilled)) t)
  definition-stands before a t h meant =
      let vs = type_variables a in
      let scope = filled symbols (under_types vs unfilled) in
      term_stands m symbols vs [] (place (length vs) 0 0 0) scope
      (record { types = own-placed vs a refl; terms = λ v i. absurd i; bounds = λ k l. refl })
      t meant h.type_variables h.no_free (loose-typed [] t a h.typed)

  module _ (run : Accepted) (number : ℕ → ℕ) where
    abbrev made_of : List ℕ → Content → Declaration
    made_of name c = declaration_of symbols name (renumbered_content number c)

    meant-at : (c d : Content) → c ≡ d → ContentMeant m symbols (renumbered_content number c) → ContentMeant m symbols (renumbered_content number d)
    meant-at c d e h = subst (λ b. ContentMeant m symbols (renumbered_content number b)) e h

    -- the declaration of a symbol without a body
    pub symbol-given : (name : List ℕ) (c : Content) (x : Symbol) → IsIn (symbols_of run.made) x → IsIn (contents_of x) c → name ≡ symbol_name x
        → ContentMeant m symbols (renumbered_content number c)
        → (made_of name c).body ≡ None → IsGiven m run (made_of name c)
    symbol-given name c (Symbol.input_constant n) i (inl e) w meant none =
        subst (IsGiven m run) (sym (λ t. made_of (w t) (e t))) (IsGiven.input_constant n (among (symbols_of run.made) _ i))
    symbol-given name c (Symbol.input_constant n) i (inr k) w meant none = absurd k
    symbol-given name c (Symbol.input_operator n j) i (inl e) w meant none =
        subst (IsGiven m run) (sym (λ t. made_of (w t) (e t))) (IsGiven.input_operator n j (among (symbols_of run.made) _ i))
    symbol-given name c (Symbol.input_operator n j) i (inr k) w meant none = absurd k
    symbol-given name c (Symbol.defined (Definition.constant n u)) i (inl e) w meant none = let f : Some _ ≡ None =
        sym (ap (λ b. (made_of name b).body) e) ∙ none in absurd (cc)
    symbol-given name c (Symbol.defined (Definition.constant n u)) i (inr k) w meant none = absurd k
    symbol-given name c (Symbol.defined (Definition.type_operator names a f)) i k w meant none = absurd k

    -- what a type definition makes has a body
    pub part-body : (name : List ℕ) (c : Content) (names : TypeNames) (a : HolType) (f : Term) (one : ℕ × Sequent) → IsIn (type_contents names a f one) c
        → (made_of name c).body ≡ None → ⊥
    part-body name c names a f one (inl e) none = let g : Some _ ≡ None = sym (ap (λ b. (made_of name b).body) e) ∙ none in absurd (cc)
    part-body name c names a f one (inr (inl e)) none = let g : Some _ ≡ None = sym (ap (λ b. (made_of name b).body) e) ∙ none in absurd (cc)
    part-body name c names a f one (inr (inr (inl e))) none = let g : Some _ ≡ None = sym (ap (λ b. (made_of name b).body) e) ∙ none in absurd (cc)
    part-body name c names a f one (inr (inr (inr k))) none = absurd k

    -- the declaration of a definition
    pub symbol-defined : (name : List ℕ) (c : Content) (x : Symbol) (front : List Item) → IsContent front c → IsIn (symbols_of run.made) x
        → IsIn (contents_of x) c → name ≡ symbol_name x → ContentMeant m symbols (renumbered_content number c)
        → (made_of name c).form ≡ Def → IsDefined m run (made_of name c)
    symbol-defined name c (Symbol.input_constant n) front h i (inl e) w meant def = let f = sym (ap (λ b. (made_of name b).form) e) ∙ def in absurd (cc)
    symbol-defined name c (Symbol.input_constant n) front h i (inr k) w meant def = absurd k
    symbol-defined name c (Symbol.input_operator n j) front h i (inl e) w meant def = let f = sym (ap (λ b. (made_of name b).form) e) ∙ def in absurd (cc)
    symbol-defined name c (Symbol.input_operator n j) front h i (inr k) w meant def = absurd k
    symbol-defined name c (Symbol.defined (Definition.constant n u)) front h i (inl e) w meant def =
        let a = type_or u in
        let vs = type_variables a in
        let both = meant-at c (defined_constant n a u) e meant in
        let asked = subst (IsContent front) e h in
        let body = term_tree symbols (filled symbols (under_types vs unfilled)) u in
        IsDefined.constant (record {
          name = n;
          term = u;
          ty = a;
          among = among (symbols_of run.made) _ i;
          typed = asked.typed;
          A = generic_tree symbols a;
          B = body;
          type_stands = constant_type-is a both.0;
          term_stands = definition-stands front a u asked both.1;
          is = (λ t. made_of (w t) (e t)) ∙ ap
              (λ ds. record { name = constant_name n; form = Def; ty = generic_tree symbols a; body = Some (abstractions ds body) }) (types-are vs);
        })
    symbol-defined name c (Symbol.defined (Definition.constant n u)) front h i (inr k) w meant def = absurd k
    symbol-defined name c (Symbol.defined (Definition.type_operator names a f)) front h i k w meant def = absurd k

    -- the declaration of what a type definition makes
    part-of : (names : TypeNames) (a : HolType) (f : Term) (j : ℕ) (one : Sequent)
        → IsIn (symbols_of run.made) (Symbol.defined (Definition.type_operator names a f)) → IsTypeDefinition names a f one
        → IsPartPremise m symbols names a (number j) one
        → TypeMeant m symbols a → Enc m (closed_form one) (sequent_tree symbols one) → AllByRecursion (TermMeant m symbols) (terms_of one) → (vs : List Name)
        → IsDistinct name_eq vs
        → ((n : Name) → IsIn names.variables n → IsIn vs n)
        → IsPartOf m run names a f vs (part_arguments_of symbols (filled symbols (under_types vs unfilled)) a (number j, one))
    part-of names a f j one i d p meant enc terms vs distinct has =
        let scope = filled symbols (under_types vs unfilled) in
        let F = predicate one.conclusion in
        let facts = part-facts m symbols names a (number j) one p in
        let same : F ≡ f = ap predicate d.holds in
        let predicate_type : HasType f (function a bool) = subst (λ (t : Term). HasType t (function a bool)) same facts.predicate_typed in
        let all = All-right (TermMeant m symbols) one.hypotheses (one.conclusion ∷ []) terms in
        let of_predicate : TermMeant m symbols f = (subst (TermMeant m symbols) d.holds all.0).0 in
        let places = predicate-places names f d.variables in
        record {
          among = among (symbols_of run.made) _ i;
          one = one;
          defines = d;
          C = type_tree symbols scope.types a;
          F = term_tree symbols scope f;
          W = term_tree symbols scope (witness one.conclusion);
          symbol = number j;
          parameters = map scope.types (type_variables_of one) ++ map scope.terms (free_variables_of one) ++ map scope.proofs one.hypotheses;
          A = sequent_tree symbols one;
          type_stands = type_stands m symbols vs (place (length vs) 0 0 0) (under_types vs unfilled) (distinct-placed vs distinct) a meant
              (All-weaker (IsIn names.variables) (IsIn vs) has (variable_places a) (type-listed names a f one d predicate_type));
          predicate_stands = term_stands m symbols vs [] (place (length vs) 0 0 0) scope
              (record { types = distinct-placed vs distinct; terms = λ v i. absurd i; bounds = λ k l. refl })
              f of_predicate (All-weaker (IsIn names.variables) (IsIn vs) has (type_variable_places f) places) (closed-none (free_places f) d.closed)
              (loose-typed [] f (function a bool) predicate_type);
          theorem = p.premise.declared;
          says = enc;
          are = λ t. type_tree symbols scope.types a ∷ term_tree symbols scope (same t) ∷ term_tree symbols scope (witness one.conclusion) ∷ premise_tree scope
              (number j, one) ∷ [];
        }

    pub part-defined : (name : List ℕ) (c : Content) (names : TypeNames) (a : HolType) (f : Term) (j : ℕ) (one : Sequent)
        → IsIn (symbols_of run.made) (Symbol.defined (Definition.type_operator names a f)) → IsIn (type_contents names a f (j, one)) c
        → name ≡ type_definition_name c → IsTypeDefinition names a f one → IsPartPremise m symbols names a (number j) one
        → ContentMeant m symbols (renumbered_content number c)
        → Enc m (closed_form one) (sequent_tree symbols one) → AllByRecursion (TermMeant m symbols) (terms_of one) → IsDefined m run (made_of name c)
    part-defined name c names a f j one i (inl e) w d p meant enc terms =
        let v : name ≡ operator_name names.operator = w ∙ ap type_definition_name e in
        let vs = names.variables in
        let own : TypeMeant m symbols a = meant-at c (type_operator names a f j one) e meant in
        let K = part_arguments_of symbols (filled symbols (under_types vs unfilled)) a (number j, one) in
        subst (IsDefined m run)
        (sym ((λ t. made_of (v t) (e t)) ∙ ap
        (λ ds. record {
          name = operator_name names.operator;
          form = Def;
          ty = products (replicate (length vs) types) types;
          body =
              Some (abstractions ds (applied (Sym sub_symbol) K));
        }) (types-are vs)))
        (IsDefined.type_operator names a f K (part-of names a f j one i d p own enc terms vs (listed-distinct names f d.variables) (λ n k. k)))
    part-defined name c names a f j one i (inr (inl e)) w d p meant enc terms =
        let v : name ≡ constant_name names.abstraction = w ∙ ap type_definition_name e in
        let b = abstraction_type names a in
        let vs = type_variables b in
        let own = meant-at c (type_abstraction names a f j one) e meant in
        let K = part_arguments_of symbols (filled symbols (under_types vs unfilled)) a (number j, one) in
        subst (IsDefined m run)
        (sym ((λ t. made_of (v t) (e t)) ∙ ap
        (λ ds. record {
          name = constant_name names.abstraction;
          form = Def;
          ty = generic_tree symbols b;
          body =
              Some (abstractions ds (applied (Sym sub_abs_symbol) K));
        }) (types-are vs)))
        (IsDefined.abstraction names a f (generic_tree symbols b) K (constant_type-is b own.1)
        (part-of names a f j one i d p own.0 enc terms vs (own-distinct b) (abstraction-own names a)))
    part-defined name c names a f j one i (inr (inr (inl e))) w d p meant enc terms =
        let v : name ≡ constant_name names.representation = w ∙ ap type_definition_name e in
        let b = representation_type names a in
        let vs = type_variables b in
        let own = meant-at c (type_representation names a f j one) e meant in
        let K = part_arguments_of symbols (filled symbols (under_types vs unfilled)) a (number j, one) in
        subst (IsDefined m run)
        (sym ((λ t. made_of (v t) (e t)) ∙ ap
        (λ ds. record {
          name = constant_name names.representation;
          form = Def;
          ty = generic_tree symbols b;
          body =
              Some (abstractions ds (applied (Sym sub_rep_symbol) K));
        }) (types-are vs)))
        (IsDefined.representation names a f (generic_tree symbols b) K (constant_type-is b own.1)
        (part-of names a f j one i d p own.0 enc terms vs (own-distinct b) (representation-own names a)))
    part-defined name c names a f j one i (inr (inr (inr k))) w d p meant enc terms = absurd k

    -- the declaration of a symbol is no theorem
    pub symbol-no_theorem : (name : List ℕ) (c : Content) (x : Symbol) → IsIn (contents_of x) c → (made_of name c).form ≡ Thm → ⊥
    symbol-no_theorem name c (Symbol.input_constant n) (inl e) thm = let f = sym (ap (λ b. (made_of name b).form) e) ∙ thm in absurd (cc)
    symbol-no_theorem name c (Symbol.input_constant n) (inr k) thm = absurd k
    symbol-no_theorem name c (Symbol.input_operator n j) (inl e) thm = let f = sym (ap (λ b. (made_of name b).form) e) ∙ thm in absurd (cc)
    symbol-no_theorem name c (Symbol.input_operator n j) (inr k) thm = absurd k
    symbol-no_theorem name c (Symbol.defined (Definition.constant n u)) (inl e) thm = let f = sym (ap (λ b. (made_of name b).form) e) ∙ thm in absurd (cc)
    symbol-no_theorem name c (Symbol.defined (Definition.constant n u)) (inr k) thm = absurd k
    symbol-no_theorem name c (Symbol.defined (Definition.type_operator names a f)) k thm = absurd k

    -- nor is that of what a type definition makes
    pub part-no_theorem : (name : List ℕ) (c : Content) (names : TypeNames) (a : HolType) (f : Term) (one : ℕ × Sequent) → IsIn (type_contents names a f one) c
        → (made_of name c).form ≡ Thm → ⊥
    part-no_theorem name c names a f one (inl e) thm = let g = sym (ap (λ b. (made_of name b).form) e) ∙ thm in absurd (cc)
    part-no_theorem name c names a f one (inr (inl e)) thm = let g = sym (ap (λ b. (made_of name b).form) e) ∙ thm in absurd (cc)
    part-no_theorem name c names a f one (inr (inr (inl e))) thm = let g = sym (ap (λ b. (made_of name b).form) e) ∙ thm in absurd (cc)
    part-no_theorem name c names a f one (inr (inr (inr k))) thm = absurd k

    -- what is unproved has no body
    unproved-is : (name : List ℕ) (b : Bool) → b ≡ false → (kind : StepKind) (js : List ℕ) (ss : List Sequent) (g : Parameters) (s : Sequent)
        → made_of name (content_by b kind js ss g s) ≡ symbol name (made_of name (content_by b kind js ss g s)).ty
    unproved-is name false e kind js ss g s = refl
    unproved-is name true e kind js ss g s = absurd (cc)

    law-row : (kind : StepKind) → (kind ≡ kinds.FirstLaw) ⊎ (kind ≡ kinds.SecondLaw) → has_row kind ≡ true
    law-row kind (inl e) = ap has_row e
    law-row kind (inr e) = ap has_row e

    -- the declaration of a step without a proof
    pub step-given : (rows : HaveRows run) (name : List ℕ) (c : Content) (i : ℕ) (x : Step) (kind : StepKind) (js : List ℕ) (ss : List Sequent) (g : Parameters)
        → slice_get (steps_of run.made) i ≡ Some x
        → c ≡ content_by (has_row x.kind) kind js ss g x.sequent → IsStepName run i x.kind name
        → Enc m (closed_form (sequent_at run.made i)) (made_of name c).ty → (made_of name c).body ≡ None → IsGiven m run (made_of name c)
    step-given rows name c i x kind js ss g at e w enc none = go (has_row x.kind) refl w
      where
        is_symbol : has_row x.kind ≡ false → made_of name c ≡ symbol name (made_of name c).ty
        is_symbol row = subst (λ d. made_of name d ≡ symbol name (made_of name d).ty) (sym e) (unproved-is name (has_row x.kind) row kind js ss g x.sequent)

        go : (b : Bool) → has_row x.kind ≡ b → IsStepName run i x.kind name → IsGiven m run (made_of name c)
        go true row n = absurd (proved-body symbols number name (has_row x.kind) row kind js ss g x.sequent (ap (λ d. (made_of name d).body) (sym e) ∙ none))
        go false row (IsStepName.an_export one v) = absurd (both_ways (has_row x.kind) row (rows i x one at))
        go false row (IsStepName.a_theorem out theorem v) = absurd (both_ways (has_row x.kind) row theorem)
        go false row (IsStepName.an_assumption out one k v) =
            subst (IsGiven m run) (sym (is_symbol row ∙ ap (λ l. symbol l (made_of name c).ty) v))
            (IsGiven.assumption (position_or_len (nat_eq i) run.assumptions) i (made_of name c).ty (at-place i run.assumptions one) enc)
        go false row (IsStepName.a_law out k v) = absurd (both_ways (has_row x.kind) row (law-row x.kind k))

module _ (run : Accepted) (named : HasNames run) (sound : IsSoundRun run) (rows : HaveRows run) (order : AreMadeInOrder [] (items_of (name_in run) run.made))
    (origins : AllByRecursion (Origin run run.made Always) (items_of (name_in run) run.made)) where
  content-of : (z : Item) → IsIn (items run named sound) z → keep run named sound z.symbol ≡ true
      → ContentMeant (image run) (symbols run named sound) (renumbered_content (number run named sound) z.content)
  content-of z i k =
      (All-at (BothMeant run named sound) (stays run named sound) (renumbered (number run named sound) z) (stays-meant run named sound order origins)
      (IsIn-map (renumbered (number run named sound)) (kept (keep run named sound) (items run named sound)) z
      (IsIn-kept (keep run named sound) (items run named sound) z i k))).1

  named-step : (j : ℕ) (x : Step) → slice_get (steps_of run.made) j ≡ Some x → IsStepName run j x.kind (step_name run j x.kind)
  named-step j x at =
      step_name-is run j x.kind (λ idle. ap (is_one_of j) sound.assumptions
      ∙ subst (λ k. is_one_of k (assumed_from 0 (steps_of run.made)) ≡ true) (zero-plus j) (is-assumed 0 (steps_of run.made) j x at idle))

  -- What has no body was given
  pub item-given : (z : Item) → IsIn (items run named sound) z → keep run named sound z.symbol ≡ true → (declared run named sound z).body ≡ None
      → IsGiven (image run) run (declared run named sound z)
  item-given z i k none = go (All-at (Origin run run.made Always) (items run named sound) z origins i)
    where
      go : Origin run run.made Always z → IsGiven (image run) run (declared run named sound z)
      go (Origin.of_symbol x one j e) = symbol-given (image run) (symbols run named sound) run (number run named sound) z.name z.content x one j e
          (content-of z i k) none
      go (Origin.of_definition names c f one among_symbols j e) =
          absurd (part-body (image run) (symbols run named sound) run (number run named sound) z.name z.content names c f one j none)
      go (Origin.of_step j x kind js ss g p at e w) =
          step-given (image run) (symbols run named sound) run (number run named sound) rows z.name z.content j x kind js ss g at e
          (subst (IsStepName run j x.kind) (sym w) (named-step j x at))
          (subst (λ s. Enc (image run) (closed_form s) (declared run named sound z).ty)
          (sym (sequent-step (steps_of run.made) j x (record { hypotheses = []; conclusion = bound 0 }) at))
          (item-stands run named sound order origins z i k x.sequent (ap says e ∙ says-step (has_row x.kind) kind js ss g x.sequent)))
          none

  asked : (z : Item) → IsIn (items run named sound) z → Asked (keep run named sound) (items run named sound) z
  asked z i = content-asked (keep run named sound) [] (items run named sound) z
      (made-numbered (roots run named sound) [] (items run named sound) (tt {0}) order) i

  -- the premise of a type definition
  record PremiseOf (names : TypeNames) (c : HolType) (f : Term) (one : ℕ × Sequent) : Type 0 where
    defines : IsTypeDefinition names c f one.1
    premise : IsPartPremise (image run) (symbols run named sound) names c (number run named sound one.0) one.1
    stands : Enc (image run) (closed_form one.1) (sequent_tree (symbols run named sound) one.1)
    meant : AllByRecursion (TermMeant (image run) (symbols run named sound)) (terms_of one.1)

  -- what the module has of the kept items
  stays-hold : AllByRecursion (HoldsItem (image run) (symbols run named sound)) (stays run named sound)
  stays-hold = module-holds (symbols run named sound) (stays run named sound) (items-made [] (stays run named sound) (stays-made run named sound order origins))

  held-at : (z : Item) → IsIn (items run named sound) z → keep run named sound z.symbol ≡ true
      → Holds (image run) (symbols run named sound) (number run named sound z.symbol) (renumbered_content (number run named sound) z.content)
  held-at z i k =
      All-at (HoldsItem (image run) (symbols run named sound)) (stays run named sound) (renumbered (number run named sound) z) stays-hold
      (IsIn-map (renumbered (number run named sound)) (kept (keep run named sound) (items run named sound)) z
      (IsIn-kept (keep run named sound) (items run named sound) z i k))

  premise-told : (z : Item) (i : IsIn (items run named sound) z) → keep run named sound z.symbol ≡ true
      → (names : TypeNames) (c : HolType) (f : Term) (one : ℕ × Sequent) → IsPart (asked z i).front names c f one.0 one.1
      → IsIn (needs z.content) (number_key one.0) → IsPartPremise (image run) (symbols run named sound) names c (number run named sound one.0) one.1
      → PremiseOf names c f one
  premise-told z i k names c f one part needed p =
      let x = part.among.0.0 in
      let says_one : says x.content ≡ Some one.1 = part.among.0.3 in
      let inside = (asked z i).inside x part.among.0.1 in
      let keeps : keep run named sound x.symbol ≡ true =
      (asked z i).kept k x part.among.0.1
      (subst (IsIn (needs z.content)) (sym (says-gives_of x.symbol x.content one.1 says_one ∙ ap number_key part.among.0.2)) needed) in
      let renamed = says-renumbered (number run named sound) x.content ∙ says_one in
      record {
        defines = part.defines;
        premise = p;
        stands = subst (Enc (image run) (closed_form one.1))
            (content-type run named sound x.name (renumbered_content (number run named sound) x.content) one.1 renamed)
            (item-stands run named sound order origins x inside keeps one.1 says_one);
        meant = content-terms run named sound (renumbered_content (number run named sound) x.content) one.1 renamed (content-of x inside keeps);
      }

  premise-of : (z : Item) → IsIn (items run named sound) z → keep run named sound z.symbol ≡ true
      → (names : TypeNames) (c : HolType) (f : Term) (one : ℕ × Sequent) → IsIn (type_contents names c f one) z.content → PremiseOf names c f one
  premise-of z i k names c f one (inl e) =
      premise-told z i k names c f one (subst (IsContent (asked z i).front) e (asked z i).content)
      (subst (λ d. IsIn (needs d) (number_key one.0)) (sym e) (inl refl))
      (subst (λ d. Holds (image run) (symbols run named sound) (number run named sound z.symbol) (renumbered_content (number run named sound) d)) e
      (held-at z i k)).is
  premise-of z i k names c f one (inr (inl e)) =
      premise-told z i k names c f one (subst (IsContent (asked z i).front) e (asked z i).content).0
      (subst (λ d. IsIn (needs d) (number_key one.0)) (sym e) (inl refl))
      (subst (λ d. Holds (image run) (symbols run named sound) (number run named sound z.symbol) (renumbered_content (number run named sound) d)) e
      (held-at z i k)).0
  premise-of z i k names c f one (inr (inr (inl e))) =
      premise-told z i k names c f one (subst (IsContent (asked z i).front) e (asked z i).content).0
      (subst (λ d. IsIn (needs d) (number_key one.0)) (sym e) (inl refl))
      (subst (λ d. Holds (image run) (symbols run named sound) (number run named sound z.symbol) (renumbered_content (number run named sound) d)) e
      (held-at z i k)).0
  premise-of z i k names c f one (inr (inr (inr n))) = absurd n

  -- What is defined the run defined
  pub item-defined : (z : Item) → IsIn (items run named sound) z → keep run named sound z.symbol ≡ true → (declared run named sound z).form ≡ Def
      → IsDefined (image run) run (declared run named sound z)
  item-defined z i k def = go (All-at (Origin run run.made Always) (items run named sound) z origins i)
    where
      go : Origin run run.made Always z → IsDefined (image run) run (declared run named sound z)
      go (Origin.of_symbol x one j e) =
          symbol-defined (image run) (symbols run named sound) run (number run named sound) z.name z.content x (asked z i).front (asked z i).content one j e
          (content-of z i k) def
      go (Origin.of_definition names c f one among_symbols j e) =
          let p = premise-of z i k names c f one j in
          part-defined (image run) (symbols run named sound) run (number run named sound) z.name z.content names c f one.0 one.1 among_symbols j e p.defines
          p.premise (content-of z i k) p.stands p.meant
      go (Origin.of_step j x kind js ss g p at e w) =
          absurd (no_definition (symbols run named sound) (number run named sound) z.name (has_row x.kind) kind js ss g x.sequent
          (ap (λ c. (declaration_of (symbols run named sound) z.name (renumbered_content (number run named sound) c)).form) (sym e) ∙ def))

  -- What is proved has the name of a theorem
  pub item-theorem : (z : Item) → IsIn (items run named sound) z → (declared run named sound z).form ≡ Thm → IsTheoremName (declared run named sound z).name
  item-theorem z i thm =
      subst IsTheoremName (sym (declaration-name (symbols run named sound) z.name (renumbered_content (number run named sound) z.content)))
      (go (All-at (Origin run run.made Always) (items run named sound) z origins i))
    where
      step-theorem : (b : Bool) (kind : StepKind) → has_row kind ≡ b → (j : ℕ) (own : StepKind) (js : List ℕ) (ss : List Sequent) (g : Parameters) (s : Sequent)
          → z.content ≡ content_by (has_row kind) own js ss g s → IsStepName run j kind z.name → IsTheoremName z.name
      step-theorem true kind row j own js ss g s e (IsStepName.an_export one v) =
          IsTheoremName.export (record { number = position_or_len (nat_eq j) run.exports; is = v })
      step-theorem true kind row j own js ss g s e (IsStepName.a_theorem out theorem v) = IsTheoremName.step j v
      step-theorem true kind row j own js ss g s e (IsStepName.an_assumption out one k v) = let f : has_row kind ≡ false =
          ap has_row k in absurd (both_ways (has_row kind) f row)
      step-theorem true kind row j own js ss g s e (IsStepName.a_law out k v) = IsTheoremName.law j v
      step-theorem false kind row j own js ss g s e n =
          absurd (no_theorem (symbols run named sound) (number run named sound) z.name (has_row kind) row own js ss g s
          (ap (λ c. (declaration_of (symbols run named sound) z.name (renumbered_content (number run named sound) c)).form) (sym e) ∙ thm))

      go : Origin run run.made Always z → IsTheoremName z.name
      go (Origin.of_symbol x one j e) = absurd (symbol-no_theorem (image run) (symbols run named sound) run (number run named sound) z.name z.content x j thm)
      go (Origin.of_definition names c f one among_symbols j e) =
          absurd (part-no_theorem (image run) (symbols run named sound) run (number run named sound) z.name z.content names c f one j thm)
      go (Origin.of_step j x kind js ss g p at e w) =
          step-theorem (has_row x.kind) x.kind refl j kind js ss g x.sequent e (subst (IsStepName run j x.kind) (sym w) (named-step j x at))
