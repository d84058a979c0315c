-- What is declared so far of a run's module tells the symbol of each operator and each constant among the items so far.
use Rattle.std.proofs.Common.{◌≡◌, ℕ, List, [], ◌++◌, length, Bool, true, false, None, Some, refl, sym, ap, subst, ◌∙◌, arith}
use Rattle.std.specs.List.{AllByRecursion}
use Rattle.std.proofs.lemmas.Option.{same_Some}
use Rattle.std.specs.Cmp.{unsigned_Decides}
use Rattle.hol_laws.specs.NameEqualityLaws.{name_eq-Decides}
use Rattle.hol_spec.specs.Lists.{IsIn}
use Rattle.hol_spec.specs.Mangling.{IsName}
use Rattle.hol_spec.specs.NameEquality.{name_eq}
use Rattle.hol_spec.specs.Names.{Name}
use Rattle.hol_spec.specs.Primitives.{primitive_arity, primitive_type, generic, equality_type, select_type, arrow_name, bool_name, ind_name, equality_name, select_name}
use Rattle.hol_spec.specs.Proofs.{Made, IsProof}
use Rattle.hol_spec.specs.Proofs as proof
use Rattle.hol_spec.specs.Types.{HolType}
use Rattle.hol_spec.specs.Terms.{Term}
use Rattle.hol_spec.specs.Sequents.{Sequent}
use Rattle.hol_spec.specs.Definitions.{TypeNames}
use Rattle.hol_spec.specs.Symbols.{Symbol}
use Rattle.hol_laws.specs.Members.{IsIn-left, All-at, All-left}
use Rattle.holide_sig.specs.Modules.{symbol_number}
use Rattle.lp_spec.specs.Modules.{Declaration}
use Rattle.translate_laws.specs.ItemConditions.{Tells}
use Rattle.translate_laws.specs.MadeModules.{IsNew, AreMade}
use Rattle.translate_spec.specs.Image.{input_constant_name, input_operator_name, constant_name, operator_name}
use Rattle.translate_spec.specs.Items.{Content, operator, constant, defined_constant, type_operator, type_abstraction, type_representation, unproved, step, Item, says, is_operator, symbols_of, module_of}
use Rattle.translate_spec.specs.Scopes.{SymbolMap, operator_symbol, constant_symbol}
use Rattle.image_laws.specs.Named.{second_byte}
use Rattle.image_laws.specs.NewNames.{constant_named, IsSymbolName, symbol_name-high}
use Rattle.image_reach_laws.specs.ModuleItems.{item-asked, item-told}
use Rattle.image_items_laws.specs.DeclaredNumbers.{made-front, item-number, other-number, other-operator}
use Rattle.image_items_laws.specs.ItemNames.{HasItemName, same-name, input-name, input-operator, other_byte}
use Rattle.translate_term.specs.Told.{either_number, told_operator, told_constant}

module _ (m : List Declaration) (symbols : SymbolMap) where
  -- the signature's symbols are told for the primitive names, and those of names for the others
  pub operator-primitive : (n : Name) (k j : ℕ) → primitive_arity n ≡ Some j → told_operator m n k ≡ Some (operator_symbol symbols n k)
  operator-primitive n k j h = first (name_eq n arrow_name) refl
    where
      third : (b : Bool) → name_eq n ind_name ≡ b → name_eq n bool_name ≡ false → name_eq n arrow_name ≡ false
          → told_operator m n k ≡ Some (operator_symbol symbols n k)
      third true e f g = rw (g, f, e) refl
      third false e f g = let a : primitive_arity n ≡ None = rw (g, f, e) refl in absurd (cc)

      second : (b : Bool) → name_eq n bool_name ≡ b → name_eq n arrow_name ≡ false → told_operator m n k ≡ Some (operator_symbol symbols n k)
      second true f g = rw (g, f) refl
      second false f g = third (name_eq n ind_name) refl f g

      first : (b : Bool) → name_eq n arrow_name ≡ b → told_operator m n k ≡ Some (operator_symbol symbols n k)
      first true g = rw g refl
      first false g = second (name_eq n bool_name) refl g

  operator-named : (n : Name) (k : ℕ) → primitive_arity n ≡ None
      → told_operator m n k ≡ either_number (symbol_number m (input_operator_name k n)) (symbol_number m (operator_name n))
  operator-named n k h = first (name_eq n arrow_name) refl
    where
      third : (b : Bool) → name_eq n ind_name ≡ b → name_eq n bool_name ≡ false → name_eq n arrow_name ≡ false
          → told_operator m n k ≡ either_number (symbol_number m (input_operator_name k n)) (symbol_number m (operator_name n))
      third true e f g = let a : primitive_arity n ≡ Some 0 = rw (g, f, e) refl in absurd (cc)
      third false e f g = rw (g, f, e) refl

      second : (b : Bool) → name_eq n bool_name ≡ b → name_eq n arrow_name ≡ false
          → told_operator m n k ≡ either_number (symbol_number m (input_operator_name k n)) (symbol_number m (operator_name n))
      second true f g = let a : primitive_arity n ≡ Some 0 = rw (g, f) refl in absurd (cc)
      second false f g = third (name_eq n ind_name) refl f g

      first : (b : Bool) → name_eq n arrow_name ≡ b
          → told_operator m n k ≡ either_number (symbol_number m (input_operator_name k n)) (symbol_number m (operator_name n))
      first true g = let a : primitive_arity n ≡ Some 2 = rw g refl in absurd (cc)
      first false g = second (name_eq n bool_name) refl g

  pub constant-primitive : (n : Name) (g : HolType) → primitive_type n ≡ Some g → told_constant m n ≡ Some (constant_symbol symbols n)
  constant-primitive n g h = first (name_eq n equality_name) refl
    where
      second : (b : Bool) → name_eq n select_name ≡ b → name_eq n equality_name ≡ false → told_constant m n ≡ Some (constant_symbol symbols n)
      second true e f = rw (f, e) refl
      second false e f = let a : primitive_type n ≡ None = rw (f, e) refl in absurd (cc)

      first : (b : Bool) → name_eq n equality_name ≡ b → told_constant m n ≡ Some (constant_symbol symbols n)
      first true e = rw e refl
      first false e = second (name_eq n select_name) refl e

  constant-other : (n : Name) → primitive_type n ≡ None
      → told_constant m n ≡ either_number (symbol_number m (input_constant_name n)) (symbol_number m (constant_name n))
  constant-other n h = first (name_eq n equality_name) refl
    where
      second : (b : Bool) → name_eq n select_name ≡ b → name_eq n equality_name ≡ false
          → told_constant m n ≡ either_number (symbol_number m (input_constant_name n)) (symbol_number m (constant_name n))
      second true e f = let a : primitive_type n ≡ Some (select_type generic) = rw (f, e) refl in absurd (cc)
      second false e f = rw (f, e) refl

      first : (b : Bool) → name_eq n equality_name ≡ b
          → told_constant m n ≡ either_number (symbol_number m (input_constant_name n)) (symbol_number m (constant_name n))
      first true e = let a : primitive_type n ≡ Some (equality_type generic) = rw e refl in absurd (cc)
      first false e = second (name_eq n select_name) refl e

-- an item that names a constant names none that is primitive, and the symbols tell its own
constant-new : (n : Name) (before : List Item) (c : Content) → constant_named c ≡ Some n → IsNew before c → primitive_type n ≡ None
constant-new n before (operator k j) e h = absurd (cc)
constant-new n before (constant k a) e h = subst (λ (l : Name). primitive_type l ≡ None) (same_Some _ _ e) h.0
constant-new n before (defined_constant k a t) e h = subst (λ (l : Name). primitive_type l ≡ None) (same_Some _ _ e) h.0
constant-new n before (type_operator names c u j one) e h = absurd (cc)
constant-new n before (type_abstraction names c u j one) e h = subst (λ (l : Name). primitive_type l ≡ None) (same_Some _ _ e) h.0
constant-new n before (type_representation names c u j one) e h = subst (λ (l : Name). primitive_type l ≡ None) (same_Some _ _ e) h.0
constant-new n before (unproved s) e h = absurd (cc)
constant-new n before (step kind js ss g s) e h = absurd (cc)

constant-tells : (symbols : SymbolMap) (i : ℕ) (n : Name) (c : Content) → constant_named c ≡ Some n → Tells symbols i c → constant_symbol symbols n ≡ i
constant-tells symbols i n (operator k j) e h = absurd (cc)
constant-tells symbols i n (constant k a) e h = subst (λ (l : Name). constant_symbol symbols l ≡ i) (same_Some _ _ e) h.0
constant-tells symbols i n (defined_constant k a t) e h = subst (λ (l : Name). constant_symbol symbols l ≡ i) (same_Some _ _ e) h.0
constant-tells symbols i n (type_operator names c u j one) e h = absurd (cc)
constant-tells symbols i n (type_abstraction names c u j one) e h = subst (λ (l : Name). constant_symbol symbols l ≡ i) (same_Some _ _ e) h.0
constant-tells symbols i n (type_representation names c u j one) e h = subst (λ (l : Name). constant_symbol symbols l ≡ i) (same_Some _ _ e) h.0
constant-tells symbols i n (unproved s) e h = absurd (cc)
constant-tells symbols i n (step kind js ss g s) e h = absurd (cc)

module _ (made : List Made) (is_proof : IsProof made) (xs before rest : List Item) (whole : xs ≡ before ++ rest) (order : AreMade [] xs)
    (named : AllByRecursion (HasItemName (proof.symbols_of made)) xs) where
  abbrev ss : List Symbol
  ss = proof.symbols_of made

  abbrev symbols : SymbolMap
  symbols = symbols_of xs

  abbrev m : List Declaration
  m = module_of symbols before

  pub order-before : AreMade [] before
  order-before = made-front [] before rest (subst (AreMade []) whole order)

  names : AllByRecursion (HasItemName ss) before
  names = All-left (HasItemName ss) before rest (subst (AllByRecursion (HasItemName ss)) whole named)

  own-symbol : (z : Item) → IsIn before z → Tells symbols z.symbol z.content
  own-symbol z i = item-told xs order z (subst (λ l. IsIn l z) (sym whole) (IsIn-left before rest z i))

  -- The symbol of an operator among the items is told
  pub operator-told : (n : Name) (k : ℕ) (z : Item) → IsIn before z → z.content ≡ operator n k → told_operator m n k ≡ Some (operator_symbol symbols n k)
  operator-told n k z i e =
      let asked = item-asked before order-before z i in
      let new : IsNew asked.before (operator n k) = subst (IsNew asked.before) e asked.new in
      let own : operator_symbol symbols n k ≡ z.symbol = subst (Tells symbols z.symbol) e (own-symbol z i) in
      operator-named m symbols n k new.0 ∙ go (All-at (HasItemName ss) before z names i) ∙ ap Some (sym own)
    where
      input : IsName n → IsSymbolName ss z.content (input_operator_name k n)
      input is = IsSymbolName.an_input_operator n k is e refl

      no-input : IsName n → (z.name ≡ input_operator_name k n → ⊥) → symbol_number m (input_operator_name k n) ≡ None
      no-input is differs =
          let name = input_operator_name k n in
          other-number symbols made is_proof before order-before names z i name name (input is) (λ y h f. same-name made is_proof z y name (input is) h f)
          differs (symbol_name-high ss z.content name (input is)).1

      go : HasItemName ss z → either_number (symbol_number m (input_operator_name k n)) (symbol_number m (operator_name n)) ≡ Some z.symbol
      go (HasItemName.of_step s f l low) = let g : None ≡ Some s = sym (ap says e) ∙ f in absurd (cc)
      go (HasItemName.of_symbol (IsSymbolName.an_input c is f w)) = let g : operator n k ≡ constant c generic = sym e ∙ f in absurd (cc)
      go (HasItemName.of_symbol (IsSymbolName.an_input_operator c j is f w)) =
          let g : operator c j ≡ operator n k = sym f ∙ e in
          let same : c ≡ n = cc in
          let count : j ≡ k = cc in
          let is_named : z.name ≡ input_operator_name k n = w ∙ (λ t. input_operator_name (count t) (same t)) in
          ap (λ o. either_number o (symbol_number m (operator_name n)))
          (item-number symbols made is_proof before order-before names z i (input_operator_name k n) (input (subst IsName same is)) is_named)
      go (HasItemName.of_symbol (IsSymbolName.a_constant c is f w)) = let g : None ≡ Some c = sym (ap constant_named e) ∙ f in absurd (cc)
      go (HasItemName.of_symbol (IsSymbolName.an_operator told a f j one is among g w)) = let h : type_operator told a f j one ≡ operator n k =
          sym g ∙ e in absurd (cc)

  -- That of a type definition's operator
  pub part-told : (own : TypeNames) (c : HolType) (u : Term) (l : ℕ) (one : Sequent) (z : Item) → IsIn before z → z.content ≡ type_operator own c u l one
      → told_operator m own.operator (length own.variables) ≡ Some (operator_symbol symbols own.operator (length own.variables))
  part-told own c u l one z i e =
      let asked = item-asked before order-before z i in
      let new : IsNew asked.before (type_operator own c u l one) = subst (IsNew asked.before) e asked.new in
      let symbol : operator_symbol symbols own.operator (length own.variables) ≡ z.symbol = subst (Tells symbols z.symbol) e (own-symbol z i) in
      operator-named m symbols own.operator (length own.variables) new.0 ∙ go (All-at (HasItemName ss) before z names i) ∙ ap Some (sym symbol)
    where
      is-own : is_operator own.operator (length own.variables) z.content ≡ true
      is-own = ap (is_operator own.operator (length own.variables)) e
          ∙ rw ((name_eq-Decides own.operator own.operator).1 refl) ((unsigned_Decides (length own.variables) (length own.variables)).1 refl)

      no-input : IsName own.operator → (z.name ≡ input_operator_name (length own.variables) own.operator → ⊥)
          → symbol_number m (input_operator_name (length own.variables) own.operator) ≡ None
      no-input is differs =
          let n = own.operator in
          let k = length own.variables in
          other-operator symbols made is_proof before order-before names z i n k (input_operator_name k n) is-own
          (λ y h f. input-operator made is_proof n k is y h f) differs
          (symbol_name-high ss (operator n k) (input_operator_name k n) (IsSymbolName.an_input_operator n k is refl refl)).1

      go : HasItemName ss z
          → either_number (symbol_number m (input_operator_name (length own.variables) own.operator)) (symbol_number m (operator_name own.operator))
          ≡ Some z.symbol
      go (HasItemName.of_step s f low_one low) = let g : None ≡ Some s = sym (ap says e) ∙ f in absurd (cc)
      go (HasItemName.of_symbol (IsSymbolName.an_input k is f w)) = let g : type_operator own c u l one ≡ constant k generic = sym e ∙ f in absurd (cc)
      go (HasItemName.of_symbol (IsSymbolName.an_input_operator k j is f w)) = let g : type_operator own c u l one ≡ operator k j = sym e ∙ f in absurd (cc)
      go (HasItemName.of_symbol (IsSymbolName.a_constant k is f w)) = let g : None ≡ Some k = sym (ap constant_named e) ∙ f in absurd (cc)
      go (HasItemName.of_symbol (IsSymbolName.an_operator told a f j two is among g w)) =
          let h : type_operator told a f j two ≡ type_operator own c u l one = sym g ∙ e in
          let names_same : told ≡ own = cc in
          let same : told.operator ≡ own.operator = ap (λ (t : TypeNames). t.operator) names_same in
          let is_named : z.name ≡ operator_name own.operator = w ∙ ap operator_name same in
          let none = no-input (subst IsName same is) (λ q. other_byte 111 116 _ _ z.name refl w q) in
          ap (λ o. either_number o (symbol_number m (operator_name own.operator))) none
          ∙ item-number symbols made is_proof before order-before names z i (operator_name own.operator)
          (IsSymbolName.an_operator told a f j two is among g (ap operator_name (sym same))) is_named

  -- And so is that of a constant
  pub constant-told : (n : Name) (z : Item) → IsIn before z → constant_named z.content ≡ Some n → told_constant m n ≡ Some (constant_symbol symbols n)
  constant-told n z i e =
      let asked = item-asked before order-before z i in
      constant-other m symbols n (constant-new n asked.before z.content e asked.new) ∙ go (All-at (HasItemName ss) before z names i)
      ∙ ap Some (sym (constant-tells symbols z.symbol n z.content e (own-symbol z i)))
    where
      says-none : (c : Content) (s : _) → constant_named c ≡ Some n → says c ≡ Some s → ⊥
      says-none (operator k j) s f g = absurd (cc)
      says-none (constant k a) s f g = absurd (cc)
      says-none (defined_constant k a t) s f g = absurd (cc)
      says-none (type_operator names c u j one) s f g = absurd (cc)
      says-none (type_abstraction names c u j one) s f g = absurd (cc)
      says-none (type_representation names c u j one) s f g = absurd (cc)
      says-none (unproved r) s f g = absurd (cc)
      says-none (step kind js premises given r) s f g = absurd (cc)

      definition : IsName n → IsSymbolName ss z.content (constant_name n)
      definition is = IsSymbolName.a_constant n is e refl

      go : HasItemName ss z → either_number (symbol_number m (input_constant_name n)) (symbol_number m (constant_name n)) ≡ Some z.symbol
      go (HasItemName.of_step s f l low) = absurd (says-none z.content s e f)
      go (HasItemName.of_symbol (IsSymbolName.an_input c is f w)) =
          let same : c ≡ n = same_Some _ _ (sym (ap constant_named f) ∙ e) in
          let is_named : z.name ≡ input_constant_name n = w ∙ ap input_constant_name same in
          ap (λ o. either_number o (symbol_number m (constant_name n)))
          (item-number symbols made is_proof before order-before names z i (input_constant_name n)
          (IsSymbolName.an_input c is f (ap input_constant_name (sym same))) is_named)
      go (HasItemName.of_symbol (IsSymbolName.an_input_operator c j is f w)) = let g : None ≡ Some n = sym (ap constant_named f) ∙ e in absurd (cc)
      go (HasItemName.of_symbol (IsSymbolName.a_constant c is f w)) =
          let same : c ≡ n = same_Some _ _ (sym f ∙ e) in
          let is_named : z.name ≡ constant_name n = w ∙ ap constant_name same in
          let is_name : IsName n = subst IsName same is in
          let ninety_five : second_byte (input_constant_name n) ≡ 95 = refl in
          let none : symbol_number m (input_constant_name n) ≡ None =
          other-number symbols made is_proof before order-before names z i (constant_name n) (input_constant_name n) (definition is_name)
          (input-name made is_proof n is_name) (λ q. other_byte 99 105 _ _ z.name refl w q)
          (omega (arith, ninety_five)) in
          ap (λ o. either_number o (symbol_number m (constant_name n))) none
          ∙ item-number symbols made is_proof before order-before names z i (constant_name n) (definition is_name) is_named
      go (HasItemName.of_symbol (IsSymbolName.an_operator told a f j one is among g w)) = let h : None ≡ Some n = sym (ap constant_named g) ∙ e in absurd (cc)
