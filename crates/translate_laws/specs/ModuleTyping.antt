-- The module is well typed: by induction on its items, each declaration is typed after those before it.
use Rattle.std.proofs.Common.{◌≡◌, ℕ, suc, ◌+◌, List, [], ◌∷◌, ◌++◌, length, Bool, true, false, None, Some, refl, sym, ap, subst, ◌∙◌, arith}
use Rattle.std.specs.Prelude.{replicate, slice_get, unwrap_or, option_map, option_and_then}
use Rattle.std.specs.List.{AllByRecursion}
use Rattle.std.proofs.lemmas.Option.{same_Some}
use Rattle.hol_spec.specs.Names.{Name}
use Rattle.hol_spec.specs.NameEquality.{name_eq}
use Rattle.hol_spec.specs.Types.{HolType, HolTypes, none, more, count}
use Rattle.hol_spec.specs.Primitives.{generic, primitive_arity, primitive_type, arrow_name, bool_name, ind_name, equality_name, select_name, equality_type, select_type}
use Rattle.hol_spec.specs.Substitution.{Instance}
use Rattle.hol_spec.specs.Terms.{Term, Variable, free, bound, app, lam}
use Rattle.hol_spec.specs.TermSubstitution.{TermPairs}
use Rattle.hol_spec.specs.Sequents.{Sequent, free_variables_of}
use Rattle.lp_spec.specs.Modules.{Declaration, symbol_type, symbol_declaration, products, types, arr_symbol, bool_symbol, ind_symbol, eq_symbol, select_symbol, sub_abs_symbol, sub_rep_symbol}
use Rattle.lp_spec.specs.Conversion.{symbol_definition, definition_of}
use Rattle.lp_typing_laws.specs.ConversionLaws.{symbol_type-append, symbol_definition-append}
use Rattle.hol_laws.specs.Members.{All-at, All-weaker}
use Rattle.translate_spec.specs.Scopes.{SymbolMap, operator_symbol, constant_symbol, generic_type, generic_tree, sequent_tree}
use Rattle.translate_laws.specs.ScopeTyping.{DeclaresOperator, DeclaresConstant, TypeOver, TypesOver, TermOver}
use Rattle.translate_laws.specs.SequentScope.{SequentOver, IsPremise}
use Rattle.translate_laws.specs.ComputingBodies.{IsDefinition, IsPartPremise, IsPartOperator, IsPartConstant, DefinesPart, DefinesConstant, StandsForVariable}
use Rattle.hol_spec.specs.Rules.{Parameters}
use Rattle.hol_spec.specs.declared.StepKind.{StepKind}
use Rattle.hol_spec.specs.declared.StepKind.TheVariants as kinds
use Rattle.translate_spec.specs.Rows.{type_or}
use Rattle.translate_laws.specs.BodyTyping.{ArePremises, Defined}
use Rattle.translate_spec.specs.Items.{Content, operator, constant, defined_constant, type_operator, type_abstraction, type_representation, unproved, step, Item, part_constant, declaration_of, says}
use Rattle.translate_laws.specs.ItemConditions.{IsDefinedBy, IsDefiningEquation, Has, OperatorTaken, ConstantTaken, TypeTaken, TypesTaken, TermTaken, SequentTaken, ArePremisesAmong, IsPart, HasPart, DefinesAmong, IsContent, Tells}
use Rattle.translate_laws.specs.ItemConditions as items
use Rattle.hol_spec.specs.DefinitionLists.{constants_put}
use Rattle.std.proofs.Math.Path.{subst₂}
use Rattle.hol_spec.specs.Definitions.{TypeNames}
use Rattle.hol_spec.specs.NewTypes.{abstraction_type, representation_type}

-- what the module has of an item
abbrev pub Holds : List Declaration → SymbolMap → ℕ → Content → Type 0
Holds m symbols i (operator n k) = DeclaresOperator m symbols n k
Holds m symbols i (constant n a) = DeclaresConstant m symbols n × (generic_type symbols n ≡ a)
Holds m symbols i (defined_constant n a t) = DeclaresConstant m symbols n × IsDefinition m symbols n a t
Holds m symbols i (type_operator names c u j one) = IsPartOperator m symbols names c j one
Holds m symbols i (type_abstraction names c u j one) =
    IsPartPremise m symbols names c j one × IsPartConstant m symbols names.abstraction (abstraction_type names c) sub_abs_symbol c j one
Holds m symbols i (type_representation names c u j one) =
    IsPartPremise m symbols names c j one × IsPartConstant m symbols names.representation (representation_type names c) sub_rep_symbol c j one
Holds m symbols i (unproved s) = IsPremise m symbols i s
Holds m symbols i (step kind js premises given s) = IsPremise m symbols i s

abbrev pub HoldsItem : List Declaration → SymbolMap → Item → Type 0
HoldsItem m symbols x = Holds m symbols x.symbol x.content

-- further declarations keep what is declared
module _ (m rest : List Declaration) (symbols : SymbolMap) where
  mutual
    TypeOver-append : (t : HolType) → TypeOver m symbols t → TypeOver (m ++ rest) symbols t
    TypeOver-append (HolType.variable n) h = tt
    TypeOver-append (HolType.operator n ts) h = (symbol_type-append m rest (operator_symbol symbols n (count ts)) _ h.0, TypesOver-append ts h.1)

    TypesOver-append : (ts : HolTypes) → TypesOver m symbols ts → TypesOver (m ++ rest) symbols ts
    TypesOver-append none h = tt
    TypesOver-append (more t ts) h = (TypeOver-append t h.0, TypesOver-append ts h.1)

  TermOver-append : (t : Term) → TermOver m symbols t → TermOver (m ++ rest) symbols t
  TermOver-append (free n t) h = TypeOver-append t h
  TermOver-append (bound k) h = tt
  TermOver-append (Term.constant n t) h = record
      { declared = symbol_type-append m rest (constant_symbol symbols n) _ h.declared; instance = h.instance; ty = TypeOver-append t h.ty }
  TermOver-append (app f x) h = (TermOver-append f h.0, TermOver-append x h.1)
  TermOver-append (lam t b) h = (TypeOver-append t h.0, TermOver-append b h.1)

  IsPremise-append : (i : ℕ) (s : Sequent) → IsPremise m symbols i s → IsPremise (m ++ rest) symbols i s
  IsPremise-append i s p = record {
    declared = symbol_type-append m rest i _ p.declared;
    is = p.is;
    over = record {
      hypotheses = All-weaker (TermOver m symbols) (TermOver (m ++ rest) symbols) TermOver-append s.hypotheses p.over.hypotheses;
      conclusion =
          TermOver-append s.conclusion p.over.conclusion;
    };
  }

  IsPartPremise-append : (names : TypeNames) (c : HolType) (j : ℕ) (one : Sequent) → IsPartPremise m symbols names c j one
      → IsPartPremise (m ++ rest) symbols names c j one
  IsPartPremise-append names c j one h = record { f = h.f; defines = h.defines; premise = IsPremise-append j one h.premise; ty = TypeOver-append c h.ty }

  IsPartConstant-append : (n : Name) (a : HolType) (s : ℕ) (c : HolType) (j : ℕ) (one : Sequent) → IsPartConstant m symbols n a s c j one
      → IsPartConstant (m ++ rest) symbols n a s c j one
  IsPartConstant-append n a s c j one h = record {
    declared = symbol_type-append m rest (constant_symbol symbols n) _ h.declared;
    generic = h.generic;
    definition = symbol_definition-append m rest (constant_symbol symbols n) _ h.definition;
  }

  pub Holds-append : (i : ℕ) (c : Content) → Holds m symbols i c → Holds (m ++ rest) symbols i c
  Holds-append i (operator n k) h = symbol_type-append m rest (operator_symbol symbols n k) _ h
  Holds-append i (constant n a) h = (symbol_type-append m rest (constant_symbol symbols n) _ h.0, h.1)
  Holds-append i (defined_constant n a t) h = (
    symbol_type-append m rest (constant_symbol symbols n) _ h.0,
    record {
      generic = h.1.generic;
      definition = symbol_definition-append m rest (constant_symbol symbols n) _ h.1.definition;
      typed = h.1.typed;
      over =
          TermOver-append t h.1.over;
      no_free = h.1.no_free;
      type_variables = h.1.type_variables;
    },
  )
  Holds-append i (type_operator names c u j one) h = record {
    is = IsPartPremise-append names c j one h.is;
    declared = symbol_type-append m rest (operator_symbol symbols names.operator (length names.variables)) _ h.declared;
    definition = symbol_definition-append m rest (operator_symbol symbols names.operator (length names.variables)) _ h.definition;
  }
  Holds-append i (type_abstraction names c u j one) h =
      (IsPartPremise-append names c j one h.0, IsPartConstant-append names.abstraction (abstraction_type names c) sub_abs_symbol c j one h.1)
  Holds-append i (type_representation names c u j one) h =
      (IsPartPremise-append names c j one h.0, IsPartConstant-append names.representation (representation_type names c) sub_rep_symbol c j one h.1)
  Holds-append i (unproved s) h = IsPremise-append i s h
  Holds-append i (step kind js premises given s) h = IsPremise-append i s h

-- the signature declares the primitive operators and constants
operator_declared : (m : List Declaration) (symbols : SymbolMap) (n : Name) (k : ℕ) → primitive_arity n ≡ Some k → DeclaresOperator m symbols n k
operator_declared m symbols n k h = first (name_eq n arrow_name) refl
  where
    at : (s j : ℕ) → primitive_arity n ≡ Some j → ((i : ℕ) → operator_symbol symbols n i ≡ s) → symbol_type m s ≡ Some (products (replicate j types) types)
        → DeclaresOperator m symbols n k
    at s j a e d =
        let same : j ≡ k = same_Some _ _ (sym a ∙ h) in
        subst (λ i. symbol_type m (operator_symbol symbols n i) ≡ Some (products (replicate i types) types)) same (ap (symbol_type m) (e j) ∙ d)

    third : (b : Bool) → name_eq n ind_name ≡ b → name_eq n bool_name ≡ false → name_eq n arrow_name ≡ false → DeclaresOperator m symbols n k
    third true e f g = at ind_symbol 0 (rw (g, f, e) refl) (λ i. rw (g, f, e) refl) refl
    third false e f g = let a : primitive_arity n ≡ None = rw (g, f, e) refl in absurd (cc)

    second : (b : Bool) → name_eq n bool_name ≡ b → name_eq n arrow_name ≡ false → DeclaresOperator m symbols n k
    second true f g = at bool_symbol 0 (rw (g, f) refl) (λ i. rw (g, f) refl) refl
    second false f g = third (name_eq n ind_name) refl f g

    first : (b : Bool) → name_eq n arrow_name ≡ b → DeclaresOperator m symbols n k
    first true g = at arr_symbol 2 (rw g refl) (λ i. rw g refl) refl
    first false g = second (name_eq n bool_name) refl g

-- a primitive constant is declared at its generic type
record PrimitiveDeclared (m : List Declaration) (symbols : SymbolMap) (n : Name) (g : HolType) : Type 0 where
  declared : DeclaresConstant m symbols n
  is : generic_type symbols n ≡ g

constant_declared : (m : List Declaration) (symbols : SymbolMap) (n : Name) (g : HolType) → primitive_type n ≡ Some g → PrimitiveDeclared m symbols n g
constant_declared m symbols n g h = first (name_eq n equality_name) refl
  where
    own : generic_type symbols n ≡ g
    own = ap (λ o. unwrap_or o (symbols.generic n)) h

    at : (s : ℕ) (t : HolType) → primitive_type n ≡ Some t → constant_symbol symbols n ≡ s → symbol_type m s ≡ Some (generic_tree symbols t)
        → PrimitiveDeclared m symbols n g
    at s t a e d =
        let same : t ≡ generic_type symbols n = same_Some _ _ (sym a ∙ h) ∙ sym own in
        record { declared = ap (symbol_type m) e ∙ d ∙ ap (λ u. Some (generic_tree symbols u)) same; is = own }

    second : (b : Bool) → name_eq n select_name ≡ b → name_eq n equality_name ≡ false → PrimitiveDeclared m symbols n g
    second true e f = at select_symbol (select_type generic) (rw (f, e) refl) (rw (f, e) refl) refl
    second false e f = let a : primitive_type n ≡ None = rw (f, e) refl in absurd (cc)

    first : (b : Bool) → name_eq n equality_name ≡ b → PrimitiveDeclared m symbols n g
    first true e = at eq_symbol (equality_type generic) (rw e refl) (rw e refl) refl
    first false e = second (name_eq n select_name) refl e

-- what is over what is taken is over what is declared
module _ (m : List Declaration) (symbols : SymbolMap) (before : List Item) (holds : AllByRecursion (HoldsItem m symbols) before) where
  pub held : (c : Content) → (h : Has before c) → Holds m symbols h.0.symbol c
  held c h = subst (Holds m symbols h.0.symbol) h.2 (All-at (HoldsItem m symbols) before h.0 holds h.1)

  operator_taken : (n : Name) (k : ℕ) → OperatorTaken before n k → DeclaresOperator m symbols n k
  operator_taken n k (items.OperatorTaken.primitive e) = operator_declared m symbols n k e
  operator_taken n k (items.OperatorTaken.declared h) = held (operator n k) h
  operator_taken n k (items.OperatorTaken.part names c u j one h e f) =
      subst₂ (DeclaresOperator m symbols) (sym e) (sym f) (held (type_operator names c u j one) h).declared

  mutual
    pub TypeOver-taken : (t : HolType) → TypeTaken before t → TypeOver m symbols t
    TypeOver-taken (HolType.variable n) h = tt
    TypeOver-taken (HolType.operator n ts) h = (operator_taken n (count ts) h.0, TypesOver-taken ts h.1)

    TypesOver-taken : (ts : HolTypes) → TypesTaken before ts → TypesOver m symbols ts
    TypesOver-taken none h = tt
    TypesOver-taken (more t ts) h = (TypeOver-taken t h.0, TypesOver-taken ts h.1)

  part_taken : (k : Name) (a : HolType) (s : ℕ) (c : HolType) (j : ℕ) (one : Sequent) (n : Name) (t : HolType) → IsPartConstant m symbols k a s c j one → n ≡ k
      → Instance a t → DeclaresConstant m symbols n × Instance (generic_type symbols n) t
  part_taken k a s c j one n t d e i = subst (λ (l : Name). DeclaresConstant m symbols l × Instance (generic_type symbols l) t) (sym e)
      (d.declared, subst (λ u. Instance u t) (sym d.generic) i)

  constant_taken : (n : Name) (t : HolType) → ConstantTaken before n t → DeclaresConstant m symbols n × Instance (generic_type symbols n) t
  constant_taken n t (items.ConstantTaken.primitive g e i) = let p = constant_declared m symbols n g e in (p.declared, subst (λ u. Instance u t) (sym p.is) i)
  constant_taken n t (items.ConstantTaken.declared a h i) = let d = held (constant n a) h in (d.0, subst (λ u. Instance u t) (sym d.1) i)
  constant_taken n t (items.ConstantTaken.defined a u h i) = let d = held (defined_constant n a u) h in (d.0, subst (λ u. Instance u t) (sym d.1.generic) i)
  constant_taken n t (items.ConstantTaken.abstraction names c u j one h e i) =
      part_taken names.abstraction (abstraction_type names c) sub_abs_symbol c j one n t (held (type_abstraction names c u j one) h).1 e i
  constant_taken n t (items.ConstantTaken.representation names c u j one h e i) =
      part_taken names.representation (representation_type names c) sub_rep_symbol c j one n t (held (type_representation names c u j one) h).1 e i

  pub TermOver-taken : (t : Term) → TermTaken before t → TermOver m symbols t
  TermOver-taken (free n t) h = TypeOver-taken t h
  TermOver-taken (bound k) h = tt
  TermOver-taken (Term.constant n t) h = let c = constant_taken n t h.0 in record { declared = c.0; instance = c.1; ty = TypeOver-taken t h.1 }
  TermOver-taken (app f x) h = (TermOver-taken f h.0, TermOver-taken x h.1)
  TermOver-taken (lam t b) h = (TypeOver-taken t h.0, TermOver-taken b h.1)

  pub SequentOver-taken : (s : Sequent) → SequentTaken before s → SequentOver m symbols s
  SequentOver-taken s h = record {
    hypotheses = All-weaker (TermTaken before) (TermOver m symbols) TermOver-taken s.hypotheses h.hypotheses;
    conclusion =
        TermOver-taken s.conclusion h.conclusion;
  }

  said : (i : ℕ) (c : Content) (s : Sequent) → says c ≡ Some s → Holds m symbols i c → IsPremise m symbols i s
  said i (operator n k) s e h = absurd (cc)
  said i (constant n a) s e h = absurd (cc)
  said i (defined_constant n a t) s e h = absurd (cc)
  said i (type_operator names c u j one) s e h = absurd (cc)
  said i (type_abstraction names c u j one) s e h = absurd (cc)
  said i (type_representation names c u j one) s e h = absurd (cc)
  said i (unproved r) s e h = subst (IsPremise m symbols i) (same_Some _ _ e) h
  said i (step kind js premises given r) s e h = subst (IsPremise m symbols i) (same_Some _ _ e) h

  pub ArePremises-among : (js : List ℕ) (ss : List Sequent) → ArePremisesAmong before js ss → ArePremises m symbols js ss
  ArePremises-among [] [] h = tt
  ArePremises-among [] (s ∷ ss) h = absurd h
  ArePremises-among (j ∷ js) [] h = absurd h
  ArePremises-among (j ∷ js) (s ∷ ss) h =
      let x = h.0.0 in (
        subst (λ k. IsPremise m symbols k s) h.0.2 (said x.symbol x.content s h.0.3 (All-at (HoldsItem m symbols) before x holds h.0.1)),
        ArePremises-among js ss h.1,
      )

  defined_equation : (terms : TermPairs) (h : Term) → IsDefiningEquation before terms h → DefinesConstant m symbols terms h
  defined_equation terms h d =
      let k = held (defined_constant d.defined.name d.variable.1 d.term) d.defined.has in
      record { name = d.defined.name; variable = d.variable; term = d.term; is = d.is; image = d.defined.image; declared = k.0; definition = k.1 }

  defined_variable : (terms : TermPairs) (v : Variable) → ((t : Term) × IsDefinedBy before terms v t) → StandsForVariable m symbols terms v
  defined_variable terms v d =
      let k = held (defined_constant d.1.name v.1 d.0) d.1.has in
      record { name = d.1.name; term = d.0; image = d.1.image; declared = k.0; definition = k.1 }

  defined_list : (js : List ℕ) (premises : List Sequent) (given : Parameters) → DefinesAmong before kinds.DefineConstList js premises given
      → Defined m symbols kinds.DefineConstList js premises given
  defined_list js (one ∷ []) (Parameters.constants pairs) h = (
    All-weaker _ _ (defined_equation (constants_put pairs)) one.hypotheses h.0,
    All-weaker _ _ (defined_variable (constants_put pairs)) (free_variables_of one) h.1,
  )
  defined_list js [] given h = tt
  defined_list js (one ∷ two ∷ ss) given h = tt
  defined_list js (one ∷ []) Parameters.nothing h = tt
  defined_list js (one ∷ []) (Parameters.term t) h = tt
  defined_list js (one ∷ []) (Parameters.variable v) h = tt
  defined_list js (one ∷ []) (Parameters.substitution ps ts) h = tt
  defined_list js (one ∷ []) (Parameters.constant n t) h = tt
  defined_list js (one ∷ []) (Parameters.sequent s) h = tt
  defined_list js (one ∷ []) (Parameters.type_operator names version) h = tt

  defined_one : (js : List ℕ) (premises : List Sequent) (given : Parameters) → DefinesAmong before kinds.DefineConst js premises given
      → Defined m symbols kinds.DefineConst js premises given
  defined_one js premises (Parameters.constant n t) h = (held (defined_constant n (type_or t) t) h).1
  defined_one js premises Parameters.nothing h = tt
  defined_one js premises (Parameters.term t) h = tt
  defined_one js premises (Parameters.variable v) h = tt
  defined_one js premises (Parameters.substitution ps ts) h = tt
  defined_one js premises (Parameters.constants ts) h = tt
  defined_one js premises (Parameters.sequent s) h = tt
  defined_one js premises (Parameters.type_operator names version) h = tt

  defined_law : (names : TypeNames) (j : ℕ) (one : Sequent) → HasPart before names j one → DefinesPart m symbols names j one
  defined_law names j one h = record {
    c = h.c;
    f = h.f;
    defines = h.defines;
    operator = held (type_operator names h.c h.f j one) h.operator;
    abstraction = (held (type_abstraction names h.c h.f j one) h.abstraction).1;
    representation = (held (type_representation names h.c h.f j one) h.representation).1;
  }

  pub defined_among : (kind : StepKind) (js : List ℕ) (premises : List Sequent) (given : Parameters) → DefinesAmong before kind js premises given
      → Defined m symbols kind js premises given
  defined_among kinds.DefineConst js premises given h = defined_one js premises given h
  defined_among kinds.DefineConstList js premises given h = defined_list js premises given h
  defined_among kinds.Refl js premises given h = tt
  defined_among kinds.Assume js premises given h = tt
  defined_among kinds.EqMp js premises given h = tt
  defined_among kinds.AbsThm js premises given h = tt
  defined_among kinds.AppThm js premises given h = tt
  defined_among kinds.DeductAntisym js premises given h = tt
  defined_among kinds.BetaConv js premises given h = tt
  defined_among kinds.Sym js premises given h = tt
  defined_among kinds.Trans js premises given h = tt
  defined_among kinds.ProveHyp js premises given h = tt
  defined_among kinds.Subst js premises given h = tt
  defined_among kinds.Restate js premises given h = tt
  defined_among kinds.Axiom js premises given h = tt
  defined_among kinds.FirstLaw (j ∷ []) (one ∷ []) (Parameters.type_operator names version) h = defined_law names j one h
  defined_among kinds.FirstLaw [] premises given h = tt
  defined_among kinds.FirstLaw (j ∷ k ∷ js) premises given h = tt
  defined_among kinds.FirstLaw (j ∷ []) [] given h = tt
  defined_among kinds.FirstLaw (j ∷ []) (one ∷ two ∷ ss) given h = tt
  defined_among kinds.FirstLaw (j ∷ []) (one ∷ []) Parameters.nothing h = tt
  defined_among kinds.FirstLaw (j ∷ []) (one ∷ []) (Parameters.term t) h = tt
  defined_among kinds.FirstLaw (j ∷ []) (one ∷ []) (Parameters.variable v) h = tt
  defined_among kinds.FirstLaw (j ∷ []) (one ∷ []) (Parameters.substitution ps ts) h = tt
  defined_among kinds.FirstLaw (j ∷ []) (one ∷ []) (Parameters.constant n t) h = tt
  defined_among kinds.FirstLaw (j ∷ []) (one ∷ []) (Parameters.sequent s) h = tt
  defined_among kinds.FirstLaw (j ∷ []) (one ∷ []) (Parameters.constants ps) h = tt
  defined_among kinds.SecondLaw (j ∷ []) (one ∷ []) (Parameters.type_operator names version) h = defined_law names j one h
  defined_among kinds.SecondLaw [] premises given h = tt
  defined_among kinds.SecondLaw (j ∷ k ∷ js) premises given h = tt
  defined_among kinds.SecondLaw (j ∷ []) [] given h = tt
  defined_among kinds.SecondLaw (j ∷ []) (one ∷ two ∷ ss) given h = tt
  defined_among kinds.SecondLaw (j ∷ []) (one ∷ []) Parameters.nothing h = tt
  defined_among kinds.SecondLaw (j ∷ []) (one ∷ []) (Parameters.term t) h = tt
  defined_among kinds.SecondLaw (j ∷ []) (one ∷ []) (Parameters.variable v) h = tt
  defined_among kinds.SecondLaw (j ∷ []) (one ∷ []) (Parameters.substitution ps ts) h = tt
  defined_among kinds.SecondLaw (j ∷ []) (one ∷ []) (Parameters.constant n t) h = tt
  defined_among kinds.SecondLaw (j ∷ []) (one ∷ []) (Parameters.sequent s) h = tt
  defined_among kinds.SecondLaw (j ∷ []) (one ∷ []) (Parameters.constants ps) h = tt

-- the last declaration of a module
pub slice_get-last : (xs ys : List Declaration) (d : Declaration) → slice_get (xs ++ (ys ++ d ∷ [])) (length xs + length ys) ≡ Some d
slice_get-last [] [] d = refl
slice_get-last [] (y ∷ ys) d =
    let e : 0 + suc (length ys) ≡ suc (0 + length ys) = omega arith in
    ap (slice_get (y ∷ (ys ++ d ∷ []))) e ∙ slice_get-last [] ys d
slice_get-last (x ∷ xs) ys d =
    let e : suc (length xs) + length ys ≡ suc (length xs + length ys) = omega arith in
    ap (slice_get (x ∷ (xs ++ (ys ++ d ∷ [])))) e ∙ slice_get-last xs ys d

module _ (symbols : SymbolMap) where
  IsPremise-new : (m : List Declaration) (before : List Item) (i : ℕ) (s : Sequent) (d : Declaration) → AllByRecursion (HoldsItem m symbols) before
      → SequentTaken before s
      → symbol_type (m ++ d ∷ []) i ≡ Some (sequent_tree symbols s) → IsPremise (m ++ d ∷ []) symbols i s
  IsPremise-new m before i s d holds h e =
      let over = SequentOver-taken m symbols before holds s h in
      record {
        declared = e;
        is = h.is;
        over = record {
          hypotheses = All-weaker (TermOver m symbols) (TermOver (m ++ d ∷ []) symbols) (TermOver-append m (d ∷ []) symbols) s.hypotheses over.hypotheses;
          conclusion = TermOver-append m (d ∷ []) symbols s.conclusion over.conclusion;
        };
      }

  -- the premise of a type definition, and a constant of one
  part-premise : (m : List Declaration) (before : List Item) (names : TypeNames) (c : HolType) (u : Term) (j : ℕ) (one : Sequent) (d : Declaration)
      → AllByRecursion (HoldsItem m symbols) before → IsPart before names c u j one
      → IsPartPremise (m ++ d ∷ []) symbols names c j one
  part-premise m before names c u j one d holds h =
      IsPartPremise-append m (d ∷ []) symbols names c j one
      (record {
        f = u;
        defines = h.defines;
        premise = (ArePremises-among m symbols before holds (j ∷ []) (one ∷ []) h.among).0;
        ty =
            TypeOver-taken m symbols before holds c h.ty;
      })

  part-constant : (m : List Declaration) (i : ℕ) (name : List ℕ) (n : Name) (a : HolType) (s : ℕ) (c : HolType) (j : ℕ) (one : Sequent)
      → constant_symbol symbols n ≡ i → generic_type symbols n ≡ a
      → symbol_declaration (m ++ part_constant symbols name a s c j one ∷ []) i ≡ Some (part_constant symbols name a s c j one)
      → IsPartConstant (m ++ part_constant symbols name a s c j one ∷ []) symbols n a s c j one
  part-constant m i name n a s c j one t g e =
      let d = part_constant symbols name a s c j one in
      record {
        declared = ap (symbol_type (m ++ d ∷ [])) t ∙ ap (λ o. option_map (λ (d : Declaration). d.ty) o) e ∙ ap (λ u. Some (generic_tree symbols u)) (sym g);
        generic = g;
        definition = ap (symbol_definition (m ++ d ∷ [])) t ∙ ap (λ o. option_and_then (λ (d : Declaration). definition_of d.form d.body) o) e;
      }

  -- what the module has of an item once it is declared
  pub content-holds : (m : List Declaration) (before : List Item) (i : ℕ) (name : List ℕ) (c : Content) → AllByRecursion (HoldsItem m symbols) before
      → IsContent before c → Tells symbols i c
      → symbol_declaration (m ++ declaration_of symbols name c ∷ []) i ≡ Some (declaration_of symbols name c)
      → Holds (m ++ declaration_of symbols name c ∷ []) symbols i c
  content-holds m before i name (operator n k) holds h t e =
      ap (symbol_type (m ++ declaration_of symbols name (operator n k) ∷ [])) t ∙ ap (λ o. option_map (λ (d : Declaration). d.ty) o) e
  content-holds m before i name (constant n a) holds h t e = (
    ap (symbol_type (m ++ declaration_of symbols name (constant n a) ∷ [])) t.0 ∙ ap (λ o. option_map (λ (d : Declaration). d.ty) o) e
        ∙ ap (λ u. Some (generic_tree symbols u)) (sym t.1),
    t.1,
  )
  content-holds m before i name (defined_constant n a u) holds h t e =
      let d = declaration_of symbols name (defined_constant n a u) in (
        ap (symbol_type (m ++ d ∷ [])) t.0 ∙ ap (λ o. option_map (λ (d : Declaration). d.ty) o) e ∙ ap (λ v. Some (generic_tree symbols v)) (sym t.1),
        record {
          generic = t.1;
          definition = ap (symbol_definition (m ++ d ∷ [])) t.0 ∙ ap (λ o. option_and_then (λ (d : Declaration). definition_of d.form d.body) o) e;
          typed = h.typed;
          over = TermOver-append m (d ∷ []) symbols u (TermOver-taken m symbols before holds u h.taken);
          no_free = h.no_free;
          type_variables = h.type_variables;
        },
      )
  content-holds m before i name (type_operator names c u j one) holds h t e =
      let d = declaration_of symbols name (type_operator names c u j one) in
      record {
        is = part-premise m before names c u j one d holds h;
        declared = ap (symbol_type (m ++ d ∷ [])) t ∙ ap (λ o. option_map (λ (d : Declaration). d.ty) o) e;
        definition = ap (symbol_definition (m ++ d ∷ [])) t ∙ ap (λ o. option_and_then (λ (d : Declaration). definition_of d.form d.body) o) e;
      }
  content-holds m before i name (type_abstraction names c u j one) holds h t e =
      let d = declaration_of symbols name (type_abstraction names c u j one) in
      (part-premise m before names c u j one d holds h.0, part-constant m i name names.abstraction (abstraction_type names c) sub_abs_symbol c j one t.0 t.1 e)
  content-holds m before i name (type_representation names c u j one) holds h t e =
      let d = declaration_of symbols name (type_representation names c u j one) in (
        part-premise m before names c u j one d holds h.0,
        part-constant m i name names.representation (representation_type names c) sub_rep_symbol c j one t.0 t.1 e,
      )
  content-holds m before i name (unproved s) holds h t e =
      IsPremise-new m before i s (declaration_of symbols name (unproved s)) holds h (ap (λ o. option_map (λ (d : Declaration). d.ty) o) e)
  content-holds m before i name (step kind js premises given s) holds h t e =
      IsPremise-new m before i s (declaration_of symbols name (step kind js premises given s)) holds h.0.taken
      (ap (λ o. option_map (λ (d : Declaration). d.ty) o) e)
