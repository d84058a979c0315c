-- Translated types and terms are shaped: in a shaped scope the tree of a type is a simple type, and that of a term is a term of the tree
-- of its type.
use Rattle.std.proofs.Common.{◌≡◌, ℕ, zero, suc, List, ◌∷◌, map, Some, inl, refl, sym, ap, subst, ◌∙◌}
use Rattle.std.specs.Prelude.{replicate, slice_get}
use Rattle.std.specs.List.{AllByRecursion}
use Rattle.std.proofs.Math.Path.{subst₂}
use Rattle.std.proofs.lemmas.Option.{same_Some}
use Rattle.hol_spec.specs.Names.{Name}
use Rattle.hol_spec.specs.NameEquality.{name_eq}
use Rattle.hol_laws.specs.NameEqualityLaws.{name_eq-Decides}
use Rattle.hol_spec.specs.Types.{HolType, HolTypes, variable, operator, none, more, count, variable_places, type_variables}
use Rattle.hol_spec.specs.Primitives.{function}
use Rattle.hol_spec.specs.Substitution.{image, type_arguments}
use Rattle.hol_spec.specs.Terms.{Term, free, bound, constant, app, lam, Variable, type_under}
use Rattle.hol_laws.specs.TermSubstitutionLaws.{application_type-is, abstraction_type-is}
use Rattle.lp_spec.specs.Trees.{Tree, Var, Sym, Lam, lift}
use Rattle.lp_spec.specs.Substitution.{sub}
use Rattle.lp_binding_laws.specs.Composition.{sub_var}
use Rattle.lp_spec.specs.Modules.{Declaration, applied, products, types, term_of}
use Rattle.lp_typing_laws.specs.ConversionLaws.{IsClosed}
use Rattle.lp_spec.specs.Shaped.{Solid, IsConstant, IsSimple, IsTerm, of_entry, of_constant, of_function, of_binder}
use Rattle.lp_spec.specs.Shaped as shape
use Rattle.lp_check_laws.specs.Found.{simple-weaken}
use Rattle.hol_spec.specs.Lists.{IsIn}
use Rattle.hol_laws.specs.Members.{IsIn-distinct, IsIn-distinct_of, All-each, map-twice}
use Rattle.hol_laws.specs.GenericInstances.{filled_in, substitute-is, type_arguments-filled_in}
use Rattle.translate_spec.specs.Scopes.{SymbolMap, operator_symbol, constant_symbol, generic_type, TypeScope, type_tree, type_trees, Scope, lifted_types, lifted, inside, constant_tree, term_tree, under_types, unfilled, generic_tree}
use Rattle.translate_laws.specs.ScopeLaws.{through_types, type_tree-sub, type_tree-lift, type_tree-substitute}
use Rattle.translate_laws.specs.TermScopeLaws.{type_tree-agrees}
use Rattle.translate_laws.specs.SimultaneousArguments.{after}
use Rattle.translate_laws.specs.ScopeTyping.{TypeOver, TypesOver, ConstantOver, TermOver, TypeOver-filled_in, TypeOver-type_under, length-type_trees, types-agree}
use Rattle.translate_laws.specs.ShapeLaws.{term-weaken, Solid-products, constant-at, operator-at}

-- what stands for each type variable is a simple type, and what stands for each free variable of a type over the symbols is a term of it
abbrev pub ShapedTypes : List Declaration → List Tree → TypeScope → Type 0
ShapedTypes m G scope = (n : Name) → IsSimple m G (scope n)

pub record ShapedScope (m : List Declaration) (symbols : SymbolMap) (G : List Tree) (scope : Scope) : Type 0 where
  pub types : ShapedTypes m G scope.types
  pub terms : (v : Variable) → TypeOver m symbols v.1 → IsTerm m G (scope.terms v) (type_tree symbols scope.types v.1)

-- what stands for each bound number is a term of its binder's type
abbrev pub ShapedBounds : List Declaration → SymbolMap → List Tree → Scope → List HolType → Type 0
ShapedBounds m symbols G scope binders = (k : ℕ) (a : HolType) → slice_get binders k ≡ Some a → IsTerm m G (scope.bounds k) (type_tree symbols scope.types a)

Solid-replicate : (k : ℕ) → Solid (products (replicate k types) types)
Solid-replicate k = Solid-products (replicate k types) types tt

module _ (m : List Declaration) (G : List Tree) (symbols : SymbolMap) (scope : TypeScope) (is : ShapedTypes m G scope) where
  mutual
    -- the tree of a type is a simple type
    pub type_tree-shaped : (t : HolType) → TypeOver m symbols t → IsSimple m G (type_tree symbols scope t)
    type_tree-shaped (variable n) h = is n
    type_tree-shaped (operator n ts) h =
        operator-at m G (Sym (operator_symbol symbols n (count ts))) (type_trees symbols scope ts)
        (subst (λ k. IsConstant m G (Sym (operator_symbol symbols n (count ts))) (products (replicate k types) types)) (length-type_trees symbols scope ts)
        (shape.IsConstant.constant h.0 (Solid-replicate (count ts))))
        (type_trees-shaped ts h.1)

    type_trees-shaped : (ts : HolTypes) → TypesOver m symbols ts → AllByRecursion (λ x. IsSimple m G x) (type_trees symbols scope ts)
    type_trees-shaped none h = tt
    type_trees-shaped (more t ts) h = (type_tree-shaped t h.0, type_trees-shaped ts h.1)

module _ (m : List Declaration) (closed : IsClosed m) (symbols : SymbolMap) where
  -- a scope under a binder more
  pub lifted-shaped : (G : List Tree) (A : Tree) (scope : Scope) → ShapedScope m symbols G scope → ShapedScope m symbols (A ∷ G) (lifted scope)
  lifted-shaped G A scope h = record {
    types = λ n. simple-weaken m closed (h.types n);
    terms = λ v o. subst (IsTerm m (A ∷ G) (lift 1 (scope.terms v))) (type_tree-lift symbols scope.types v.1) (term-weaken m closed (h.terms v o));
  }

  pub inside-shaped : (G : List Tree) (A : Tree) (scope : Scope) → ShapedScope m symbols G scope → ShapedScope m symbols (A ∷ G) (inside scope)
  inside-shaped G A scope h = let l = lifted-shaped G A scope h in record { types = l.types; terms = l.terms }

  bounds-inside : (G : List Tree) (scope : Scope) (binders : List HolType) (t : HolType) → ShapedTypes m G scope.types → TypeOver m symbols t
      → ShapedBounds m symbols G scope binders
      → ShapedBounds m symbols (term_of (type_tree symbols scope.types t) ∷ G) (inside scope) (t ∷ binders)
  bounds-inside G scope binders t is o b zero a e =
      let A = type_tree symbols scope.types t in
      let same : lift 1 A ≡ type_tree symbols (lifted_types scope.types) a =
      type_tree-lift symbols scope.types t ∙ ap (type_tree symbols (lifted_types scope.types)) (same_Some _ _ e) in
      of_entry refl same (subst (IsSimple m (term_of A ∷ G)) same (simple-weaken m closed (type_tree-shaped m G symbols scope.types is t o)))
  bounds-inside G scope binders t is o b (suc k) a e =
      subst (IsTerm m (term_of (type_tree symbols scope.types t) ∷ G) (lift 1 (scope.bounds k))) (type_tree-lift symbols scope.types a)
      (term-weaken m closed (b k a e))

  -- the tree of a constant has the tree of its type
  pub constant_tree-shaped : (G : List Tree) (scope : TypeScope) → ShapedTypes m G scope → (n : Name) (t : HolType) → ConstantOver m symbols n t
      → IsConstant m G (constant_tree symbols scope n t) (term_of (type_tree symbols scope t))
  constant_tree-shaped G scope is n t h =
      let generic = generic_type symbols n in
      let pairs = h.instance.0 in
      let names = type_variables generic in
      let other : TypeScope = λ k. type_tree symbols scope (image pairs k) in
      let own : filled_in (image pairs) generic ≡ t = sym (substitute-is pairs generic) ∙ h.instance.1 in
      let over : TypeOver m symbols (filled_in (image pairs) generic) = subst (TypeOver m symbols) (sym own) h.ty in
      let shaped : AllByRecursion (λ k. IsSimple m G (other k)) names =
      All-each _ names
      (λ k i. type_tree-shaped m G symbols scope is (image pairs k)
      (TypeOver-filled_in m symbols (image pairs) generic k (IsIn-distinct_of name_eq name_eq-Decides (variable_places generic) k i) over)) in
      let B = term_of (type_tree symbols (under_types names unfilled) generic) in
      let call = constant-at m G other names Var (Sym (constant_symbol symbols n)) B
      (shape.IsConstant.constant (h.declared ∙ ap Some (sym (sub_var (generic_tree symbols generic))))
      (subst Solid (sym (sub_var (generic_tree symbols generic))) (Solid-products (map (λ n. types) names) B tt))) shaped in
      let result : sub (after Var (map other names)) (type_tree symbols (under_types names unfilled) generic) ≡ type_tree symbols scope t =
      type_tree-sub symbols (after Var (map other names)) (under_types names unfilled) generic
      ∙ type_tree-agrees symbols (IsIn names) (through_types (after Var (map other names)) (under_types names unfilled)) other
      (λ k i. types-agree m G other names unfilled Var k (inl i)) generic
      (All-each _ (variable_places generic) (λ k i. IsIn-distinct name_eq name_eq-Decides (variable_places generic) k i))
      ∙ sym (type_tree-substitute symbols pairs scope generic)
      ∙ ap (type_tree symbols scope) h.instance.1 in
      let arguments : map other names ≡ map (type_tree symbols scope) (type_arguments generic t) =
      sym (map-twice (type_tree symbols scope) (image pairs) names)
      ∙ ap (map (type_tree symbols scope)) (sym (type_arguments-filled_in (image pairs) generic) ∙ ap (type_arguments generic) own) in
      subst₂ (λ xs a. IsConstant m G (applied (Sym (constant_symbol symbols n)) xs) (term_of a)) arguments result call

  -- Translated terms are shaped
  pub term_tree-shaped : (G : List Tree) (scope : Scope) (binders : List HolType) → ShapedScope m symbols G scope → ShapedBounds m symbols G scope binders
      → ((k : ℕ) (a : HolType) → slice_get binders k ≡ Some a → TypeOver m symbols a)
      → (t : Term) (a : HolType) → TermOver m symbols t → type_under binders t ≡ Some a
      → IsTerm m G (term_tree symbols scope t) (type_tree symbols scope.types a)
  term_tree-shaped G scope binders is b o (free n t) a h e =
      subst (λ u. IsTerm m G (scope.terms (n, t)) (type_tree symbols scope.types u)) (same_Some _ _ e) (is.terms (n, t) h)
  term_tree-shaped G scope binders is b o (bound k) a h e = b k a e
  term_tree-shaped G scope binders is b o (constant n t) a h e =
      subst (λ u. IsTerm m G (constant_tree symbols scope.types n t) (type_tree symbols scope.types u)) (same_Some _ _ e)
      (of_constant (constant_tree-shaped G scope.types is.types n t h) (type_tree-shaped m G symbols scope.types is.types t h.ty))
  term_tree-shaped G scope binders is b o (app f x) a h e =
      let p = application_type-is (type_under binders f) (type_under binders x) a e in
      of_function (term_tree-shaped G scope binders is b o f (function p.0 a) h.0 p.1.0) (term_tree-shaped G scope binders is b o x p.0 h.1 p.1.1)
  term_tree-shaped G scope binders is b o (lam t c) a h e =
      let p = abstraction_type-is t (type_under (t ∷ binders) c) a e in
      let A = type_tree symbols scope.types t in
      let B = type_tree symbols scope.types p.0 in
      let inner = under t h.0 in
      let over : TypeOver m symbols p.0 = TypeOver-type_under m symbols (t ∷ binders) inner c p.0 h.1 p.1.0 in
      let hA = type_tree-shaped m G symbols scope.types is.types t h.0 in
      let hB = type_tree-shaped m G symbols scope.types is.types p.0 over in
      let body = term_tree-shaped (term_of A ∷ G) (inside scope) (t ∷ binders) (inside-shaped G (term_of A) scope is)
      (bounds-inside G scope binders t is.types h.0 b) inner c p.0 h.1 p.1.0 in
      let lowered : IsTerm m (term_of A ∷ G) (term_tree symbols (inside scope) c) (lift 1 B) =
      subst (IsTerm m (term_of A ∷ G) (term_tree symbols (inside scope) c)) (sym (type_tree-lift symbols scope.types p.0)) body in
      subst (λ u. IsTerm m G (Lam (term_of A) (term_tree symbols (inside scope) c)) (type_tree symbols scope.types u)) (sym p.1.1) (of_binder hA hB lowered)
    where
      under : (t : HolType) → TypeOver m symbols t → (k : ℕ) (a : HolType) → slice_get (t ∷ binders) k ≡ Some a → TypeOver m symbols a
      under t h zero a e = subst (TypeOver m symbols) (same_Some _ _ e) h
      under t h (suc k) a e = o k a e
