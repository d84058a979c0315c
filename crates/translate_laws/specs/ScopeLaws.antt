-- Laws of scopes: the translation of a substitution is the translation in the scope of the images.
use Rattle.std.proofs.Common.{◌≡◌, ℕ, zero, suc, List, [], ◌∷◌, map, refl, sym, ap, ◌∙◌}
use Rattle.std.proofs.Math.Path.{fun_ext, ap₂}
use Rattle.hol_spec.specs.Names.{Name}
use Rattle.hol_spec.specs.Types.{HolType, HolTypes, variable, operator, none, more, count}
use Rattle.hol_spec.specs.Substitution.{TypePairs, image, substitute, substitute_all, type_arguments}
use Rattle.hol_spec.specs.Terms.{Term, free, bound, constant, app, lam, Variable}
use Rattle.lp_spec.specs.Trees.{Tree, Var, Sym, App, Lam, lift}
use Rattle.lp_binding_laws.specs.Composition.{ren_is_sub}
use Rattle.lp_spec.specs.Substitution.{ups, sub, cons}
use Rattle.lp_binding_laws.specs.SubstitutionLaws.{lift_one, sub-lift}
use Rattle.lp_spec.specs.Modules.{applied, term_of}
use Rattle.hol_laws.specs.Members.{map-twice}
use Rattle.hol_laws.specs.GenericInstances.{count-substitute_all}
use Rattle.translate_spec.specs.Scopes.{SymbolMap, operator_symbol, constant_symbol, generic_type, TypeScope, type_tree, type_trees, Scope, lifted_types, lifted, inside, term_tree}

-- a tree at arguments after a substitution
pub sub-applied : (s : ℕ → Tree) (f : Tree) (xs : List Tree) → sub s (applied f xs) ≡ applied (sub s f) (map (sub s) xs)
sub-applied s f [] = refl
sub-applied s f (x ∷ xs) = sub-applied s (App f x) xs

-- to lift by one is to substitute each variable by the next
pub lift_sub : (t : Tree) → lift 1 t ≡ sub (λ n. Var (suc n)) t
lift_sub t = lift_one t ∙ ren_is_sub suc t

-- a scope after a substitution
abbrev pub through_types : (ℕ → Tree) → TypeScope → TypeScope
through_types s scope n = sub s (scope n)

abbrev pub through : (ℕ → Tree) → Scope → Scope
through s scope = record {
  types = through_types s scope.types;
  terms = λ v. sub s (scope.terms v);
  proofs = λ h. sub s (scope.proofs h);
  bounds = λ k. sub s (scope.bounds k);
}

-- scopes with equal parts are equal
pub same_scope : (scope other : Scope) → ((n : Name) → scope.types n ≡ other.types n) → ((v : Variable) → scope.terms v ≡ other.terms v)
    → ((h : Term) → scope.proofs h ≡ other.proofs h) → ((k : ℕ) → scope.bounds k ≡ other.bounds k) → scope ≡ other
same_scope scope other a b c d = λ i. record { types = fun_ext a i; terms = fun_ext b i; proofs = fun_ext c i; bounds = fun_ext d i }

inside-through : (s : ℕ → Tree) (scope : Scope) → through (ups s) (inside scope) ≡ inside (through s scope)
inside-through s scope = same_scope (through (ups s) (inside scope)) (inside (through s scope)) (λ n. sub-lift s (scope.types n))
    (λ v. sub-lift s (scope.terms v)) (λ h. sub-lift s (scope.proofs h)) go
  where
    go : (k : ℕ) → sub (ups s) (cons (Var 0) (λ k. lift 1 (scope.bounds k)) k) ≡ cons (Var 0) (λ k. lift 1 (sub s (scope.bounds k))) k
    go zero = refl
    go (suc k) = sub-lift s (scope.bounds k)

module _ (symbols : SymbolMap) where
  mutual
    -- substitution in the tree of a type is substitution in its scope
    pub type_tree-sub : (s : ℕ → Tree) (scope : TypeScope) (t : HolType) → sub s (type_tree symbols scope t) ≡ type_tree symbols (through_types s scope) t
    type_tree-sub s scope (variable n) = refl
    type_tree-sub s scope (operator n ts) =
        sub-applied s (Sym (operator_symbol symbols n (count ts))) (type_trees symbols scope ts)
        ∙ ap (applied (Sym (operator_symbol symbols n (count ts)))) (type_trees-sub s scope ts)

    type_trees-sub : (s : ℕ → Tree) (scope : TypeScope) (ts : HolTypes)
        → map (sub s) (type_trees symbols scope ts) ≡ type_trees symbols (through_types s scope) ts
    type_trees-sub s scope none = refl
    type_trees-sub s scope (more t ts) = ap₂ (λ x xs. x ∷ xs) (type_tree-sub s scope t) (type_trees-sub s scope ts)

  -- and so is lifting
  pub type_tree-lift : (scope : TypeScope) (t : HolType) → lift 1 (type_tree symbols scope t) ≡ type_tree symbols (lifted_types scope) t
  type_tree-lift scope t = lift_sub (type_tree symbols scope t) ∙ type_tree-sub (λ n. Var (suc n)) scope t ∙ ap (λ w. type_tree symbols w t)
      (fun_ext (λ n. sym (lift_sub (scope n))))

  -- substitution in the tree of a term is substitution in its scope
  pub term_tree-sub : (s : ℕ → Tree) (scope : Scope) (t : Term) → sub s (term_tree symbols scope t) ≡ term_tree symbols (through s scope) t
  term_tree-sub s scope (free n t) = refl
  term_tree-sub s scope (bound k) = refl
  term_tree-sub s scope (constant n t) =
      sub-applied s (Sym (constant_symbol symbols n)) (map (type_tree symbols scope.types) (type_arguments (generic_type symbols n) t))
      ∙ ap (applied (Sym (constant_symbol symbols n)))
      (map-twice (sub s) (type_tree symbols scope.types) (type_arguments (generic_type symbols n) t)
      ∙ ap (λ f. map f (type_arguments (generic_type symbols n) t)) (fun_ext (type_tree-sub s scope.types)))
  term_tree-sub s scope (app f x) = ap₂ App (term_tree-sub s scope f) (term_tree-sub s scope x)
  term_tree-sub s scope (lam t b) =
      ap₂ (λ a c. Lam (term_of a) c) (type_tree-sub s scope.types t)
      (term_tree-sub (ups s) (inside scope) b ∙ ap (λ w. term_tree symbols w b) (inside-through s scope))

  -- and so is lifting
  pub term_tree-lift : (scope : Scope) (t : Term) → lift 1 (term_tree symbols scope t) ≡ term_tree symbols (lifted scope) t
  term_tree-lift scope t =
      lift_sub (term_tree symbols scope t) ∙ term_tree-sub (λ n. Var (suc n)) scope t
      ∙ ap (λ w. term_tree symbols w t)
      (same_scope (through (λ n. Var (suc n)) scope) (lifted scope) (λ n. sym (lift_sub (scope.types n))) (λ v. sym (lift_sub (scope.terms v)))
      (λ h. sym (lift_sub (scope.proofs h))) (λ k. sym (lift_sub (scope.bounds k))))

  mutual
    -- the tree of a type with types substituted is the tree in the scope of the images
    pub type_tree-substitute : (pairs : TypePairs) (scope : TypeScope) (t : HolType) → type_tree symbols scope (substitute pairs t)
        ≡ type_tree symbols (λ n. type_tree symbols scope (image pairs n)) t
    type_tree-substitute pairs scope (variable n) = refl
    type_tree-substitute pairs scope (operator n ts) =
        ap₂ (λ k xs. applied (Sym (operator_symbol symbols n k)) xs) (count-substitute_all pairs ts) (type_trees-substitute pairs scope ts)

    type_trees-substitute : (pairs : TypePairs) (scope : TypeScope) (ts : HolTypes) → type_trees symbols scope (substitute_all pairs ts)
        ≡ type_trees symbols (λ n. type_tree symbols scope (image pairs n)) ts
    type_trees-substitute pairs scope none = refl
    type_trees-substitute pairs scope (more t ts) = ap₂ (λ x xs. x ∷ xs) (type_tree-substitute pairs scope t) (type_trees-substitute pairs scope ts)
