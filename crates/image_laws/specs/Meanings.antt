-- Each symbol of a run's module means what it stands for, and each theorem stands for what it says.
use Rattle.std.proofs.Common.{◌≡◌, ℕ, zero, suc, List, [], ◌∷◌, ◌++◌, length, Bool, true, false, Some, None, slice_get, refl, sym, ap, subst, ◌∙◌, append_assoc}
use Rattle.std.specs.Prelude.{codes, option_map, unwrap_or}
use Rattle.std.specs.Option.{option_map_or}
use Rattle.std.specs.List.{AllByRecursion}
use Rattle.std.proofs.lemmas.Option.{same_Some}
use Rattle.hol_spec.specs.Names.{Name}
use Rattle.hol_spec.specs.NameEquality.{name_eq}
use Rattle.hol_laws.specs.NameEqualityLaws.{name_eq-Decides}
use Rattle.hol_spec.specs.Types as type
use Rattle.hol_spec.specs.Types.{HolType, HolTypes, count, type_variables}
use Rattle.hol_spec.specs.Primitives.{function, generic, equality_type, select_type, primitive_arity, primitive_type, arrow_name, bool_name, ind_name, equality_name, select_name}
use Rattle.hol_spec.specs.Substitution.{Instance}
use Rattle.hol_spec.specs.Terms as term
use Rattle.hol_spec.specs.Terms.{Term, type_under, HasType}
use Rattle.hol_laws.specs.TermSubstitutionLaws.{application_type-is, abstraction_type-is}
use Rattle.hol_spec.specs.Sequents.{Sequent, terms_of}
use Rattle.hol_spec.specs.Symbols.{Symbol}
use Rattle.hol_spec.specs.NewTypes.{abstraction_type, representation_type}
use Rattle.std.proofs.Math.Path.{subst₂}
use Rattle.hol_spec.specs.Mangling.{mangled, IsName}
use Rattle.hol_spec.specs.ClosedForm.{close_type}
use Rattle.hol_laws.specs.Members.{All-at, All-append, All-weaker}
use Rattle.lp_spec.specs.Modules.{Declaration, symbol_declaration, symbol_name, symbol_type, arr_symbol, bool_symbol, ind_symbol, eq_symbol, select_symbol}
use Rattle.lp_spec.specs.Numerals.{numeral}
use Rattle.translate_spec.specs.OperatorMeaning.{MeansOperator}
use Rattle.translate_spec.specs.OperatorMeaning as means_operator
use Rattle.translate_spec.specs.ConstantMeaning.{MeansConstant}
use Rattle.translate_spec.specs.ConstantMeaning as means_constant
use Rattle.translate_spec.specs.Scopes.{SymbolMap, operator_symbol, constant_symbol, generic_type, generic_tree}
use Rattle.translate_spec.specs.Items.{Content, operator, constant, defined_constant, type_operator, type_abstraction, type_representation, unproved, step, Item, declaration_of}
use Rattle.translate_laws.specs.ItemConditions.{Has, OperatorTaken, ConstantTaken, TypeTaken, TypesTaken, TermTaken, IsContent, Tells, AreItems}
use Rattle.translate_laws.specs.ItemConditions as items
use Rattle.translate_laws.specs.MadeModules.{IsNew}
use Rattle.translate_laws.specs.SequentEncoding.{TypeMeant, TypesMeant, TermMeant, ConstantMeant}
use Rattle.translate_laws.specs.MeaningLaws.{constant-means}
use Rattle.image_laws.specs.NewNames.{IsSymbolName}
use Rattle.image_laws.specs.RunModules.{declaration-name}

-- The type of a term whose symbols mean what they stand for has such symbols
module _ (m : List Declaration) (symbols : SymbolMap) where
  pub TypeMeant-type_under : (binders : List HolType) → ((k : ℕ) (a : HolType) → slice_get binders k ≡ Some a → TypeMeant m symbols a)
      → (t : Term) (a : HolType) → TermMeant m symbols t → type_under binders t ≡ Some a → TypeMeant m symbols a
  TypeMeant-type_under binders b (term.Term.free n t) a h e = subst (TypeMeant m symbols) (same_Some _ _ e) h
  TypeMeant-type_under binders b (term.Term.bound k) a h e = b k a e
  TypeMeant-type_under binders b (term.Term.constant n t) a h e = subst (TypeMeant m symbols) (same_Some _ _ e) h.ty
  TypeMeant-type_under binders b (term.Term.app f x) a h e =
      let p = application_type-is (type_under binders f) (type_under binders x) a e in
      (TypeMeant-type_under binders b f (function p.0 a) h.0 p.1.0).1.1.0
  TypeMeant-type_under binders b (term.Term.lam t c) a h e =
      let p = abstraction_type-is t (type_under (t ∷ binders) c) a e in
      subst (TypeMeant m symbols) (sym p.1.1) (
        means_operator.MeansOperator.arrow refl,
        (h.0, (TypeMeant-type_under (t ∷ binders) (under t b h.0) c p.0 h.1 p.1.0, tt {0})),
      )
    where
      under : (t : HolType) → ((k : ℕ) (a : HolType) → slice_get binders k ≡ Some a → TypeMeant m symbols a) → TypeMeant m symbols t → (k : ℕ) (a : HolType)
          → slice_get (t ∷ binders) k ≡ Some a → TypeMeant m symbols a
      under t b h zero a e = subst (TypeMeant m symbols) (same_Some _ _ e) h
      under t b h (suc k) a e = b k a e

  -- the primitive operators and constants
  operator-primitive : (n : Name) (k : ℕ) → primitive_arity n ≡ Some k → MeansOperator m (operator_symbol symbols n k) n k
  operator-primitive n k h = first (name_eq n arrow_name) refl (name_eq-Decides n arrow_name).0
    where
      at : (s j : ℕ) → primitive_arity n ≡ Some j → operator_symbol symbols n j ≡ s → MeansOperator m s n j → MeansOperator m (operator_symbol symbols n k) n k
      at s j a e d =
          let same : j ≡ k = same_Some _ _ (sym a ∙ h) in
          subst (λ i. MeansOperator m (operator_symbol symbols n i) n i) same (subst (λ r. MeansOperator m r n j) (sym e) d)

      third : (b : Bool) → name_eq n ind_name ≡ b → (name_eq n ind_name ≡ true → n ≡ ind_name) → name_eq n bool_name ≡ false → name_eq n arrow_name ≡ false
          → MeansOperator m (operator_symbol symbols n k) n k
      third true e is f g = at ind_symbol 0 (rw (g, f, e) refl) (rw (g, f, e) refl)
          (subst (λ l. MeansOperator m ind_symbol l 0) (sym (is e)) (means_operator.MeansOperator.individuals refl))
      third false e is f g = let a : primitive_arity n ≡ None = rw (g, f, e) refl in absurd (cc)

      second : (b : Bool) → name_eq n bool_name ≡ b → (name_eq n bool_name ≡ true → n ≡ bool_name) → name_eq n arrow_name ≡ false
          → MeansOperator m (operator_symbol symbols n k) n k
      second true f is g = at bool_symbol 0 (rw (g, f) refl) (rw (g, f) refl)
          (subst (λ l. MeansOperator m bool_symbol l 0) (sym (is f)) (means_operator.MeansOperator.truth_values refl))
      second false f is g = third (name_eq n ind_name) refl (name_eq-Decides n ind_name).0 f g

      first : (b : Bool) → name_eq n arrow_name ≡ b → (name_eq n arrow_name ≡ true → n ≡ arrow_name) → MeansOperator m (operator_symbol symbols n k) n k
      first true g is = at arr_symbol 2 (rw g refl) (rw g refl)
          (subst (λ l. MeansOperator m arr_symbol l 2) (sym (is g)) (means_operator.MeansOperator.arrow refl))
      first false g is = second (name_eq n bool_name) refl (name_eq-Decides n bool_name).0 g

  -- a constant's symbol means it at this generic type
  abbrev pub MeantAt : Name → HolType → Type 0
  MeantAt n g = MeansConstant m (constant_symbol symbols n) n (length (type_variables g)) (close_type (type_variables g) g)

  pub record GenericMeant (n : Name) (a : HolType) : Type 0 where
    pub means : MeantAt n a
    pub is : generic_type symbols n ≡ a

  constant-primitive : (n : Name) (g : HolType) → primitive_type n ≡ Some g → GenericMeant n g
  constant-primitive n g h = first (name_eq n equality_name) refl (name_eq-Decides n equality_name).0
    where
      own : generic_type symbols n ≡ g
      own = ap (λ o. unwrap_or o (symbols.generic n)) h

      at : (s : ℕ) (t : HolType) → primitive_type n ≡ Some t → constant_symbol symbols n ≡ s
          → MeansConstant m s n (length (type_variables t)) (close_type (type_variables t) t) → GenericMeant n g
      at s t a e d =
          let same : t ≡ g = same_Some _ _ (sym a ∙ h) in
          record {
            means = subst (MeantAt n) same (subst (λ r. MeansConstant m r n (length (type_variables t)) (close_type (type_variables t) t)) (sym e) d);
            is = own;
          }

      second : (b : Bool) → name_eq n select_name ≡ b → (name_eq n select_name ≡ true → n ≡ select_name) → name_eq n equality_name ≡ false → GenericMeant n g
      second true e is f = at select_symbol (select_type generic) (rw (f, e) refl) (rw (f, e) refl)
          (subst (λ l. MeansConstant m select_symbol l 1 means_constant.choice_type) (sym (is e)) (means_constant.MeansConstant.choice refl))
      second false e is f = let a : primitive_type n ≡ None = rw (f, e) refl in absurd (cc)

      first : (b : Bool) → name_eq n equality_name ≡ b → (name_eq n equality_name ≡ true → n ≡ equality_name) → GenericMeant n g
      first true e is = at eq_symbol (equality_type generic) (rw e refl) (rw e refl)
          (subst (λ l. MeansConstant m eq_symbol l 1 means_constant.equality_type) (sym (is e)) (means_constant.MeansConstant.equality refl))
      first false e is = second (name_eq n select_name) refl (name_eq-Decides n select_name).0 e

  -- what an item's symbol means
  abbrev pub ItemMeant : Content → Type 0
  ItemMeant (operator n k) = MeansOperator m (operator_symbol symbols n k) n k
  ItemMeant (constant n a) = GenericMeant n a
  ItemMeant (defined_constant n a t) = GenericMeant n a
  ItemMeant (type_operator names c u j one) = MeansOperator m (operator_symbol symbols names.operator (length names.variables)) names.operator
      (length names.variables)
  ItemMeant (type_abstraction names c u j one) = GenericMeant names.abstraction (abstraction_type names c)
  ItemMeant (type_representation names c u j one) = GenericMeant names.representation (representation_type names c)
  ItemMeant (unproved s) = Unit {0}
  ItemMeant (step kind js ss g s) = Unit {0}

  -- and what its type and its definition are made from
  abbrev pub ContentMeant : Content → Type 0
  ContentMeant (operator n k) = Unit {0}
  ContentMeant (constant n a) = TypeMeant m symbols a
  ContentMeant (defined_constant n a t) = TypeMeant m symbols a × TermMeant m symbols t
  ContentMeant (type_operator names c u j one) = TypeMeant m symbols c
  ContentMeant (type_abstraction names c u j one) = TypeMeant m symbols c × TypeMeant m symbols (abstraction_type names c)
  ContentMeant (type_representation names c u j one) = TypeMeant m symbols c × TypeMeant m symbols (representation_type names c)
  ContentMeant (unproved s) = AllByRecursion (TermMeant m symbols) (terms_of s)
  ContentMeant (step kind js ss g s) = AllByRecursion (TermMeant m symbols) (terms_of s)

  module _ (before : List Item) (meant : AllByRecursion (λ (z : Item). ItemMeant z.content) before) where
    meant-of : (c : Content) → Has before c → ItemMeant c
    meant-of c h = subst ItemMeant h.2 (All-at (λ (z : Item). ItemMeant z.content) before h.0 meant h.1)

    operator-meant : (n : Name) (k : ℕ) → OperatorTaken before n k → MeansOperator m (operator_symbol symbols n k) n k
    operator-meant n k (items.OperatorTaken.primitive e) = operator-primitive n k e
    operator-meant n k (items.OperatorTaken.declared h) = meant-of (operator n k) h
    operator-meant n k (items.OperatorTaken.part names c u j one h e f) =
        subst₂ (λ (n : Name) (k : ℕ). MeansOperator m (operator_symbol symbols n k) n k) (sym e) (sym f) (meant-of (type_operator names c u j one) h)

    mutual
      pub type-meant : (t : HolType) → TypeTaken before t → TypeMeant m symbols t
      type-meant (type.HolType.variable n) h = tt
      type-meant (type.HolType.operator n ts) h = (operator-meant n (count ts) h.0, types-meant ts h.1)

      types-meant : (ts : HolTypes) → TypesTaken before ts → TypesMeant m symbols ts
      types-meant type.HolTypes.none h = tt
      types-meant (type.HolTypes.more t ts) h = (type-meant t h.0, types-meant ts h.1)

    constant-meant : (n : Name) (t : HolType) (a : HolType) → GenericMeant n a → Instance a t → TypeMeant m symbols t → ConstantMeant m symbols n t
    constant-meant n t a g i ty = record { means = subst (MeantAt n) (sym g.is) g.means; instance = subst (λ b. Instance b t) (sym g.is) i; ty = ty }

    taken-meant : (n : Name) (t : HolType) → ConstantTaken before n t → TypeMeant m symbols t → ConstantMeant m symbols n t
    taken-meant n t (items.ConstantTaken.primitive g e i) ty = constant-meant n t g (constant-primitive n g e) i ty
    taken-meant n t (items.ConstantTaken.declared a h i) ty = constant-meant n t a (meant-of (constant n a) h) i ty
    taken-meant n t (items.ConstantTaken.defined a u h i) ty = constant-meant n t a (meant-of (defined_constant n a u) h) i ty
    taken-meant n t (items.ConstantTaken.abstraction names c u j one h e i) ty =
        constant-meant n t (abstraction_type names c)
        (subst (λ (l : Name). GenericMeant l (abstraction_type names c)) (sym e) (meant-of (type_abstraction names c u j one) h)) i ty
    taken-meant n t (items.ConstantTaken.representation names c u j one h e i) ty =
        constant-meant n t (representation_type names c)
        (subst (λ (l : Name). GenericMeant l (representation_type names c)) (sym e) (meant-of (type_representation names c u j one) h)) i ty

    pub term-meant : (t : Term) → TermTaken before t → TermMeant m symbols t
    term-meant (term.Term.free n t) h = type-meant t h
    term-meant (term.Term.bound k) h = tt
    term-meant (term.Term.constant n t) h = taken-meant n t h.0 (type-meant t h.1)
    term-meant (term.Term.app f x) h = (term-meant f h.0, term-meant x h.1)
    term-meant (term.Term.lam t b) h = (type-meant t h.0, term-meant b h.1)

    terms-meant : (s : Sequent) → items.SequentTaken before s → AllByRecursion (TermMeant m symbols) (terms_of s)
    terms-meant s h = All-append (TermMeant m symbols) s.hypotheses (s.conclusion ∷ [])
        (All-weaker (TermTaken before) (TermMeant m symbols) term-meant s.hypotheses h.hypotheses) (term-meant s.conclusion h.conclusion, tt {0})

    pub content-meant : (c : Content) → IsContent before c → ContentMeant c
    content-meant (operator n k) h = tt
    content-meant (constant n a) h = type-meant a h
    content-meant (defined_constant n a t) h = let u = term-meant t h.taken in (TypeMeant-type_under [] (λ k b e. absurd (cc)) t a u h.typed, u)
    content-meant (type_operator names c u j one) h = type-meant c h.ty
    content-meant (type_abstraction names c u j one) h = (type-meant c h.0.ty, type-meant (abstraction_type names c) h.1)
    content-meant (type_representation names c u j one) h = (type-meant c h.0.ty, type-meant (representation_type names c) h.1)
    content-meant (unproved s) h = terms-meant s h
    content-meant (step kind js ss g s) h = terms-meant s h.0.taken

  module _ (ss : List Symbol) (i : ℕ) (name : List ℕ) where
    abbrev Declares : Content → Type 0
    Declares c = symbol_declaration m i ≡ Some (declaration_of symbols name c)

    text : (c : Content) → Declares c → symbol_name m i ≡ name
    text c d = ap (λ o. option_map_or (λ (e : Declaration). e.name) o []) d ∙ declaration-name symbols name c

    ty : (c : Content) → Declares c → symbol_type m i ≡ Some (declaration_of symbols name c).ty
    ty c d = ap (option_map (λ (e : Declaration). e.ty)) d

    -- a constant at its generic type
    named-constant : (n : Name) (a : HolType) (c : Content) → IsName n → primitive_type n ≡ None → name ≡ codes "c_" ++ mangled n → Declares c
        → (declaration_of symbols name c).ty ≡ generic_tree symbols a
        → constant_symbol symbols n ≡ i → generic_type symbols n ≡ a → TypeMeant m symbols a → GenericMeant n a
    named-constant n a c is other w d e t g meant = record {
      means = subst (MeantAt n) g
          (constant-means m symbols n (ap (symbol_type m) t ∙ ty c d ∙ ap Some (e ∙ ap (generic_tree symbols) (sym g))) is other
          (ap (symbol_name m) t ∙ text c d ∙ w) (subst (TypeMeant m symbols) (sym g) meant));
      is = g;
    }

    -- The symbol of an item means what it stands for
    pub symbol-meant : (before : List Item) (c : Content) → IsSymbolName ss c name → IsNew before c → Tells symbols i c → ContentMeant c → Declares c
        → ItemMeant c
    symbol-meant before c (IsSymbolName.an_input n is e w) new tells meant d =
        let t = subst (Tells symbols i) e tells in
        let k = subst (IsNew before) e new in
        subst ItemMeant (sym e) (record {
          means = means_constant.MeansConstant.input (record { is_name = is; not_primitive = k.0; text = ap (symbol_name m) t.0 ∙ text c d ∙ w })
              (ap (symbol_type m) t.0 ∙ ty (constant n generic) (subst Declares e d));
          is = t.1;
        })
    symbol-meant before c (IsSymbolName.an_input_operator n j is e w) new tells meant d =
        let t = subst (Tells symbols i) e tells in
        let k = subst (IsNew before) e new in
        subst ItemMeant (sym e) (means_operator.MeansOperator.input (record {
          is_name = is;
          not_primitive = k.0;
          text = ap (symbol_name m) t ∙ text c d ∙ w ∙ ap (λ l. codes "t" ++ l) (sym (append_assoc (numeral j) (codes "_") (mangled n)));
          ty = ap (symbol_type m) t ∙ ty (operator n j) (subst Declares e d);
        }))
    symbol-meant before c (IsSymbolName.an_operator names a f j one is among e w) new tells meant d =
        let t = subst (Tells symbols i) e tells in
        let k = subst (IsNew before) e new in
        subst ItemMeant (sym e) (means_operator.MeansOperator.defined (record {
          is_name = is;
          not_primitive = k.0;
          text = ap (symbol_name m) t ∙ text c d ∙ w;
          ty = ap (symbol_type m) t ∙ ty (type_operator names a f j one) (subst Declares e d);
        }))
    symbol-meant before (operator n k) (IsSymbolName.a_constant o is e w) new tells meant d = absurd (cc)
    symbol-meant before (type_operator names c u j one) (IsSymbolName.a_constant o is e w) new tells meant d = absurd (cc)
    symbol-meant before (type_abstraction names c u j one) (IsSymbolName.a_constant o is e w) new tells meant d =
        let same : o ≡ names.abstraction = sym (same_Some _ _ e) in
        named-constant names.abstraction (abstraction_type names c) (type_abstraction names c u j one) (subst IsName same is) new.0
        (w ∙ ap (λ k. codes "c_" ++ mangled k) same) d refl tells.0 tells.1 meant.1
    symbol-meant before (type_representation names c u j one) (IsSymbolName.a_constant o is e w) new tells meant d =
        let same : o ≡ names.representation = sym (same_Some _ _ e) in
        named-constant names.representation (representation_type names c) (type_representation names c u j one) (subst IsName same is) new.0
        (w ∙ ap (λ k. codes "c_" ++ mangled k) same) d refl tells.0 tells.1 meant.1
    symbol-meant before (unproved s) (IsSymbolName.a_constant o is e w) new tells meant d = absurd (cc)
    symbol-meant before (step kind js qs g s) (IsSymbolName.a_constant o is e w) new tells meant d = absurd (cc)
    symbol-meant before (constant n a) (IsSymbolName.a_constant o is e w) new tells meant d =
        let same : o ≡ n = sym (same_Some _ _ e) in
        named-constant n a (constant n a) (subst IsName same is) new.0 (w ∙ ap (λ k. codes "c_" ++ mangled k) same) d refl tells.0 tells.1 meant
    symbol-meant before (defined_constant n a u) (IsSymbolName.a_constant o is e w) new tells meant d =
        let same : o ≡ n = sym (same_Some _ _ e) in
        named-constant n a (defined_constant n a u) (subst IsName same is) new.0 (w ∙ ap (λ k. codes "c_" ++ mangled k) same) d refl tells.0 tells.1 meant.0
