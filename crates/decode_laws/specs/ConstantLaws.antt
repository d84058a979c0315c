-- The constant of a symbol is found exactly where it stands for one.
use Rattle.std.proofs.Common.{◌≡◌, ℕ, zero, suc, ◌⊎◌, inl, inr, ⊎_elim, List, Bool, true, false, ◌&&◌, Option, Some, None, refl, sym, ap, subst, ◌∙◌, arith}
use Rattle.std.specs.Prelude.{nat_eq, replicate, codes}
use Rattle.std.specs.Option.{option_map}
use Rattle.std.proofs.lemmas.Bool.Decides.{Decides-eqb}
use Rattle.std.proofs.lemmas.Slice.Eq.{slice_eq-Decides}
use Rattle.std.proofs.lemmas.Bool.{and_parts, and_from}
use lib.Pointwise.{pointwise}
use Rattle.hol_spec.specs.Names.{Name}
use Rattle.hol_spec.specs.Lists.{distinct}
use Rattle.hol_spec.specs.Primitives.{equality_name, select_name, primitive_type}
use Rattle.hol_spec.specs.ClosedForm.{ClosedType}
use Rattle.lp_spec.specs.Trees.{Tree, SortType, SortKind, Var, Sym, App, Lam, Pi}
use Rattle.lp_spec.specs.Modules.{Declaration, type_symbol, term_symbol, eq_symbol, select_symbol, symbol_name, symbol_type, products, types, term_of}
use Rattle.translate_spec.specs.TypeEnc.{place}
use Rattle.translate_spec.specs.ConstantMeaning.{NamesConstant, HasGenericType, MeansConstant, equality_type, choice_type, parameter_places, numbers}
use Rattle.translate_spec.specs.ConstantMeaning as constants
use Rattle.decode_spec.specs.Options.{bind, provided}
use Rattle.decode_laws.specs.OptionLaws.{some-injective, bind-is, or_else-is, or_else-first, or_else-second, provided-is, provided-true}
use Rattle.decode_spec.specs.Decode.{name_behind, has_type, is_lacking, symbol_argument, term_part, is_types, peel_one, peel_types, type_of_tree, Constant, constant_with, generic_of, primitive_constant, input_constant, defined_constant, constant_at}
use Rattle.decode_laws.specs.SymbolLaws.{begins, name_behind-is, name_behind-has, has_type-Decides, is_lacking-Decides}
use Rattle.decode_laws.specs.TypeLaws.{type_of_tree-is, type_of_tree-stands}
use Rattle.lp_binding_laws.specs.LookUps.{option_map-some}

pub symbol_argument-is : (s : ℕ) (A a : Tree) → symbol_argument s A ≡ Some a → A ≡ App (Sym s) a
symbol_argument-is s SortType a e = absurd (cc)
symbol_argument-is s SortKind a e = absurd (cc)
symbol_argument-is s (Var v) a e = absurd (cc)
symbol_argument-is s (Sym r) a e = absurd (cc)
symbol_argument-is s (App SortType x) a e = absurd (cc)
symbol_argument-is s (App SortKind x) a e = absurd (cc)
symbol_argument-is s (App (Var v) x) a e = absurd (cc)
symbol_argument-is s (App (Sym r) x) a e =
    let p = provided-is (nat_eq r s) (Some x) a e in
    λ i. App (Sym ((Decides-eqb r s).0 p.0 i)) (some-injective p.1 i)
symbol_argument-is s (App (App f y) x) a e = absurd (cc)
symbol_argument-is s (App (Lam b c) x) a e = absurd (cc)
symbol_argument-is s (App (Pi b c) x) a e = absurd (cc)
symbol_argument-is s (Lam b c) a e = absurd (cc)
symbol_argument-is s (Pi b c) a e = absurd (cc)

pub symbol_argument-of : (s : ℕ) (a : Tree) → symbol_argument s (App (Sym s) a) ≡ Some a
symbol_argument-of s a = provided-true (nat_eq s s) (Some a) ((Decides-eqb s s).1 refl)

is_types-is : (A : Tree) → is_types A ≡ true → A ≡ types
is_types-is SortType e = absurd (cc)
is_types-is SortKind e = absurd (cc)
is_types-is (Var v) e = absurd (cc)
is_types-is (Sym s) e = ap Sym ((Decides-eqb s type_symbol).0 e)
is_types-is (App f x) e = absurd (cc)
is_types-is (Lam a b) e = absurd (cc)
is_types-is (Pi a b) e = absurd (cc)

peel_one-is : (t : Bool) (a b : Tree) (rest : ℕ × Tree) → (t ≡ true → a ≡ types) → b ≡ products (replicate rest.0 types) rest.1
    → Pi a b ≡ products (replicate (peel_one t (Pi a b) rest).0 types) (peel_one t (Pi a b) rest).1
peel_one-is true a b rest f e = λ i. Pi (f refl i) (e i)
peel_one-is false a b rest f e = refl

-- what is peeled off is put round the rest again
pub peel_types-is : (A : Tree) → A ≡ products (replicate (peel_types A).0 types) (peel_types A).1
peel_types-is SortType = refl
peel_types-is SortKind = refl
peel_types-is (Var v) = refl
peel_types-is (Sym s) = refl
peel_types-is (App f x) = refl
peel_types-is (Lam a b) = refl
peel_types-is (Pi a b) = peel_one-is (is_types a) a b (peel_types b) (is_types-is a) (peel_types-is b)

pub peel_types-products : (k : ℕ) (B : Tree) → ◌≡◌ {A = ℕ × Tree} (peel_types B) (0, B)
    → ◌≡◌ {A = ℕ × Tree} (peel_types (products (replicate k types) B)) (k, B)
peel_types-products zero B e = e
peel_types-products (suc k) B e = ap (λ (r : ℕ × Tree). (suc r.0, r.1)) (peel_types-products k B e)

module _ (d : List Declaration) where
  generic_of-is : (o : Option Tree) (s k : ℕ) (t : ClosedType) → symbol_type d s ≡ o → generic_of d o ≡ Some (k, t) → HasGenericType d s k t
  generic_of-is None s k t f e = absurd (cc)
  generic_of-is (Some A) s k t f e =
      let n = (peel_types A).0 in
      let test : ClosedType → Bool = λ u. pointwise nat_eq (distinct nat_eq (parameter_places u)) (numbers 0 n) in
      let p = bind-is {A = Tree} {B = ℕ × ClosedType} (term_part (peel_types A).1)
      (λ T. bind (type_of_tree d (place n 0 0 0) T) (λ u. provided (test u) (Some (n, u)))) (k, t) e in
      let q = bind-is {A = ClosedType} {B = ℕ × ClosedType} (type_of_tree d (place n 0 0 0) p.0) (λ u. provided (test u) (Some (n, u))) (k, t) p.2 in
      let r = provided-is {A = ℕ × ClosedType} (test q.0) (Some (n, q.0)) (k, t) q.2 in
      let pair : ◌≡◌ {A = ℕ × ClosedType} (n, q.0) (k, t) = some-injective r.1 in
      let same : n ≡ k = ap (λ (x : ℕ × ClosedType). x.0) pair in
      let one : q.0 ≡ t = ap (λ (x : ℕ × ClosedType). x.1) pair in
      let whole : A ≡ products (replicate n types) (term_of p.0) =
      peel_types-is A ∙ ap (products (replicate n types)) (symbol_argument-is term_symbol (peel_types A).1 p.0 p.1) in
      subst (λ j. HasGenericType d s j t) same (subst (λ u. HasGenericType d s n u) one (record {
        tree = p.0;
        ty = f ∙ ap Some whole;
        stands = type_of_tree-is d (place n 0 0 0) p.0 q.0 q.1;
        in_order = (slice_eq-Decides Decides-eqb (distinct nat_eq (parameter_places q.0)) (numbers 0 n) (test q.0) refl).0 r.0;
      }))

  generic_of-has : (s k : ℕ) (t : ClosedType) → HasGenericType d s k t → generic_of d (symbol_type d s) ≡ Some (k, t)
  generic_of-has s k t h =
      let test : ℕ → ClosedType → Bool = λ n u. pointwise nat_eq (distinct nat_eq (parameter_places u)) (numbers 0 n) in
      let from : ℕ × Tree → Option (ℕ × ClosedType) =
      λ r. bind (term_part r.1) (λ T. bind (type_of_tree d (place r.0 0 0 0) T) (λ u. provided (test r.0 u) (Some (r.0, u)))) in
      ap (generic_of d) h.ty
      ∙ ap from (peel_types-products k (term_of h.tree) refl)
      ∙ ap (λ o. bind o (λ u. provided (test k u) (Some (k, u)))) (type_of_tree-stands d (place k 0 0 0) t h.tree h.stands)
      ∙ provided-true (test k t) (Some (k, t))
      ((slice_eq-Decides Decides-eqb (distinct nat_eq (parameter_places t)) (numbers 0 k) (test k t) refl).1 h.in_order)

  -- what is found is what the symbol stands for
  abbrev pub Means : ℕ → Constant → Type 0
  Means s c = MeansConstant d s c.name c.variables c.generic

  primitive_constant-is : (s : ℕ) (c : Constant) → primitive_constant s ≡ Some c → Means s c
  primitive_constant-is s c e = ⊎_elim equal chosen (or_else-is _ _ c e)
    where
      equal : provided (nat_eq s eq_symbol) (Some (constant_with equality_name 1 equality_type)) ≡ Some c → Means s c
      equal f =
          let p = provided-is (nat_eq s eq_symbol) (Some (constant_with equality_name 1 equality_type)) c f in
          subst (Means s) (some-injective p.1) (constants.MeansConstant.equality ((Decides-eqb s eq_symbol).0 p.0))

      chosen : provided (nat_eq s select_symbol) (Some (constant_with select_name 1 choice_type)) ≡ Some c → Means s c
      chosen f =
          let p = provided-is (nat_eq s select_symbol) (Some (constant_with select_name 1 choice_type)) c f in
          subst (Means s) (some-injective p.1) (constants.MeansConstant.choice ((Decides-eqb s select_symbol).0 p.0))

  abbrev input_type : Tree
  input_type = Pi types (term_of (Var 0))

  input_constant-is : (s : ℕ) (c : Constant) → input_constant d s ≡ Some c → Means s c
  input_constant-is s c e =
      let test : Name → Bool = λ n. is_lacking (primitive_type n) && has_type (symbol_type d s) input_type in
      let p = bind-is (name_behind d s (codes "i_")) (λ n. provided (test n) (Some (constant_with n 1 (ClosedType.parameter 0)))) c e in
      let q = provided-is (test p.0) (Some (constant_with p.0 1 (ClosedType.parameter 0))) c p.2 in
      let r = and_parts (is_lacking (primitive_type p.0)) (has_type (symbol_type d s) input_type) q.0 in
      let h = name_behind-is d s (codes "i_") p.0 p.1 in
      subst (Means s) (some-injective q.1) (constants.MeansConstant.input
      (record { is_name = h.is_name; not_primitive = (is_lacking-Decides (primitive_type p.0)).0 r.0; text = h.text })
      ((has_type-Decides (symbol_type d s) input_type).0 r.1))

  input_constant-means : (s : ℕ) (n : Name) → NamesConstant d s (codes "i_") n → symbol_type d s ≡ Some input_type
      → input_constant d s ≡ Some (constant_with n 1 (ClosedType.parameter 0))
  input_constant-means s n h f =
      let test : Name → Bool = λ m. is_lacking (primitive_type m) && has_type (symbol_type d s) input_type in
      ap (λ o. bind o (λ m. provided (test m) (Some (constant_with m 1 (ClosedType.parameter 0)))))
      (name_behind-has d s (codes "i_") n (record { is_name = h.is_name; text = h.text }))
      ∙ provided-true (test n) (Some (constant_with n 1 (ClosedType.parameter 0)))
      (and_from (is_lacking (primitive_type n)) (has_type (symbol_type d s) input_type) ((is_lacking-Decides (primitive_type n)).1 h.not_primitive)
      ((has_type-Decides (symbol_type d s) input_type).1 f))

  defined_constant-is : (s : ℕ) (c : Constant) → defined_constant d s ≡ Some c → Means s c
  defined_constant-is s c e =
      let made : Name → Option Constant = λ n. option_map (λ (g : ℕ × ClosedType). constant_with n g.0 g.1) (generic_of d (symbol_type d s)) in
      let p = bind-is (name_behind d s (codes "c_")) (λ n. provided (is_lacking (primitive_type n)) (made n)) c e in
      let q = provided-is (is_lacking (primitive_type p.0)) (made p.0) c p.2 in
      let r = option_map-some (λ (g : ℕ × ClosedType). constant_with p.0 g.0 g.1) (generic_of d (symbol_type d s)) c q.1 in
      let h = name_behind-is d s (codes "c_") p.0 p.1 in
      subst (Means s) r.2 (constants.MeansConstant.defined
      (record { is_name = h.is_name; not_primitive = (is_lacking-Decides (primitive_type p.0)).0 q.0; text = h.text })
      (generic_of-is (symbol_type d s) s r.0.0 r.0.1 refl r.1))

  defined_constant-means : (s : ℕ) (n : Name) (k : ℕ) (t : ClosedType) → NamesConstant d s (codes "c_") n → HasGenericType d s k t
      → defined_constant d s ≡ Some (constant_with n k t)
  defined_constant-means s n k t h g =
      let made : Name → Option Constant = λ m. option_map (λ (x : ℕ × ClosedType). constant_with m x.0 x.1) (generic_of d (symbol_type d s)) in
      ap (λ o. bind o (λ m. provided (is_lacking (primitive_type m)) (made m)))
      (name_behind-has d s (codes "c_") n (record { is_name = h.is_name; text = h.text }))
      ∙ provided-true (is_lacking (primitive_type n)) (made n) ((is_lacking-Decides (primitive_type n)).1 h.not_primitive)
      ∙ ap (option_map (λ (x : ℕ × ClosedType). constant_with n x.0 x.1)) (generic_of-has s k t g)

  pub constant_at-is : (s : ℕ) (c : Constant) → constant_at d s ≡ Some c → Means s c
  constant_at-is s c e = ⊎_elim (primitive_constant-is s c) (λ f. ⊎_elim (input_constant-is s c) (defined_constant-is s c) (or_else-is _ _ c f))
      (or_else-is _ _ c e)

  -- the first byte of its name tells whether a constant is primitive, an input or defined
  primitive_constant-begins : (s : ℕ) (c : Constant) → primitive_constant s ≡ Some c → (begins (symbol_name d s) ≡ 101) ⊎ (begins (symbol_name d s) ≡ 115)
  primitive_constant-begins s c e = ⊎_elim equal chosen (or_else-is _ _ c e)
    where
      equal : provided (nat_eq s eq_symbol) (Some (constant_with equality_name 1 equality_type)) ≡ Some c
          → (begins (symbol_name d s) ≡ 101) ⊎ (begins (symbol_name d s) ≡ 115)
      equal f =
          let p = provided-is (nat_eq s eq_symbol) (Some (constant_with equality_name 1 equality_type)) c f in
          inl (ap (λ r. begins (symbol_name d r)) ((Decides-eqb s eq_symbol).0 p.0))

      chosen : provided (nat_eq s select_symbol) (Some (constant_with select_name 1 choice_type)) ≡ Some c
          → (begins (symbol_name d s) ≡ 101) ⊎ (begins (symbol_name d s) ≡ 115)
      chosen f =
          let p = provided-is (nat_eq s select_symbol) (Some (constant_with select_name 1 choice_type)) c f in
          inr (ap (λ r. begins (symbol_name d r)) ((Decides-eqb s select_symbol).0 p.0))

  not_primitive : (s b : ℕ) (c : Constant) → begins (symbol_name d s) ≡ b → (b ≡ 101 → ⊥) → (b ≡ 115 → ⊥) → primitive_constant s ≡ Some c → ⊥
  not_primitive s b c e f g h = ⊎_elim (λ k. f (sym e ∙ k)) (λ k. g (sym e ∙ k)) (primitive_constant-begins s c h)

  input_constant-begins : (s : ℕ) (c : Constant) → input_constant d s ≡ Some c → begins (symbol_name d s) ≡ 105
  input_constant-begins s c e =
      let p = bind-is (name_behind d s (codes "i_"))
      (λ n. provided (is_lacking (primitive_type n) && has_type (symbol_type d s) input_type) (Some (constant_with n 1 (ClosedType.parameter 0)))) c e in
      ap begins (name_behind-is d s (codes "i_") p.0 p.1).text

  pub constant_at-means : (s : ℕ) (n : Name) (k : ℕ) (t : ClosedType) → MeansConstant d s n k t → constant_at d s ≡ Some (constant_with n k t)
  constant_at-means s n k t (constants.MeansConstant.equality e) =
      subst (λ r. constant_at d r ≡ Some (constant_with equality_name 1 equality_type)) (sym e) refl
  constant_at-means s n k t (constants.MeansConstant.choice e) = subst (λ r. constant_at d r ≡ Some (constant_with select_name 1 choice_type)) (sym e) refl
  constant_at-means s n k t (constants.MeansConstant.input h f) =
      or_else-second (primitive_constant s) _ (constant_with n 1 (ClosedType.parameter 0))
      (λ y e. absurd (not_primitive s 105 y (ap begins h.text) (λ z. omega (arith, z)) (λ z. omega (arith, z)) e))
      (or_else-first _ _ _ (input_constant-means s n h f))
  constant_at-means s n k t (constants.MeansConstant.defined h g) =
      let b : begins (symbol_name d s) ≡ 99 = ap begins h.text in
      or_else-second (primitive_constant s) _ (constant_with n k t) (λ y e. absurd (not_primitive s 99 y b (λ z. omega (arith, z)) (λ z. omega (arith, z)) e))
      (or_else-second (input_constant d s) _ (constant_with n k t) (λ y e. let c = input_constant-begins s y e in absurd (omega (arith, b, c)))
      (defined_constant-means s n k t h g))

  -- a symbol stands for one constant
  pub one_constant : (s : ℕ) (b c : Constant) → Means s b → Means s c → b ≡ c
  one_constant s b c h k = some-injective (sym (constant_at-means s b.name b.variables b.generic h) ∙ constant_at-means s c.name c.variables c.generic k)
