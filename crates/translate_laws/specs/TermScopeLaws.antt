-- Laws of the trees of terms: what they owe to their scope, and substitution, closing and putting.
use Rattle.std.proofs.Common.{◌≡◌, ℕ, zero, suc, ◌≤◌, ◌<◌, ◌∷◌, map, Bool, true, false, cond, refl, sym, ap, ◌∙◌, arith}
use Rattle.std.specs.List.{AllByRecursion}
use Rattle.std.proofs.Math.Path.{fun_ext, ap₂}
use Rattle.hol_spec.specs.Names.{Name}
use Rattle.hol_spec.specs.Types.{HolType, HolTypes, variable, operator, none, more, count, variable_places, variable_places_of_all}
use Rattle.hol_spec.specs.Substitution.{TypePairs, image, substitute, Instance, type_arguments}
use Rattle.hol_spec.specs.Terms.{Term, free, bound, constant, app, lam, Variable, variable_eq, type_variable_places, free_places}
use Rattle.hol_spec.specs.TermBinding.{raised, close_at, close, loose}
use Rattle.hol_spec.specs.TermSubstitution.{TermPairs, term_image, sub}
use Rattle.lp_spec.specs.Trees.{Tree, Var, Sym, App, Lam, lift}
use Rattle.lp_spec.specs.Substitution.{cons}
use Rattle.lp_spec.specs.Modules.{applied, term_of}
use Rattle.hol_laws.specs.Members.{map-twice, map-each, All-left, All-right, All-weaker}
use Rattle.hol_laws.specs.GenericInstances.{type_arguments-substitute, type_arguments-All}
use Rattle.translate_spec.specs.Scopes.{SymbolMap, operator_symbol, constant_symbol, generic_type, TypeScope, type_tree, type_trees, Scope, lifted, inside, term_tree, under_term, images}
use Rattle.translate_laws.specs.ScopeLaws.{same_scope, type_tree-lift, term_tree-lift, type_tree-substitute}

-- a scope with other bounds
abbrev pub with_bounds : (ℕ → Tree) → Scope → Scope
with_bounds bounds scope = record { types = scope.types; terms = scope.terms; proofs = scope.proofs; bounds = bounds }

-- each constant of a term is an instance of its generic type
abbrev pub AreInstances : SymbolMap → Term → Type 0
AreInstances symbols (free n t) = Unit {0}
AreInstances symbols (bound k) = Unit {0}
AreInstances symbols (constant n t) = Instance (generic_type symbols n) t
AreInstances symbols (app f x) = AreInstances symbols f × AreInstances symbols x
AreInstances symbols (lam t b) = AreInstances symbols b

-- the terms that are put have no loose number
abbrev pub AreClosed : TermPairs → Type 0
AreClosed terms = (v : Variable) → loose (term_image terms v) ≤ 0

module _ (symbols : SymbolMap) where
  -- a term owes nothing to the bounds that it doesn't have
  pub term_tree-bounds : (d : ℕ) (scope : Scope) (bounds : ℕ → Tree) → ((k : ℕ) → k < d → scope.bounds k ≡ bounds k) → (t : Term) → loose t ≤ d
      → term_tree symbols scope t ≡ term_tree symbols (with_bounds bounds scope) t
  term_tree-bounds d scope bounds e (free n t) h = refl
  term_tree-bounds d scope bounds e (bound k) h = e k (omega (arith, h))
  term_tree-bounds d scope bounds e (constant n t) h = refl
  term_tree-bounds d scope bounds e (app f x) h = ap₂ App (term_tree-bounds d scope bounds e f (omega (arith, h)))
      (term_tree-bounds d scope bounds e x (omega (arith, h)))
  term_tree-bounds d scope bounds e (lam t b) h = ap (Lam (term_of (type_tree symbols scope.types t)))
      (term_tree-bounds (suc d) (inside scope) (cons (Var 0) (λ k. lift 1 (bounds k))) go b (omega (arith, h)))
    where
      go : (k : ℕ) → k < suc d → (inside scope).bounds k ≡ cons (Var 0) (λ k. lift 1 (bounds k)) k
      go zero l = refl
      go (suc k) l = ap (lift 1) (e k (omega (arith, l)))

  -- a term without loose numbers under a binder
  pub term_tree-inside : (scope : Scope) (t : Term) → loose t ≤ 0 → lift 1 (term_tree symbols scope t) ≡ term_tree symbols (inside scope) t
  term_tree-inside scope t h = term_tree-lift symbols scope t ∙ term_tree-bounds 0 (lifted scope) (inside scope).bounds (λ k l. absurd (omega (arith, l))) t h

  -- Translation of substitution: the tree of a term with types and terms substituted is the tree of the term in the scope of the images
  pub term_tree-substitution : (pairs : TypePairs) (terms : TermPairs) → AreClosed terms → (scope : Scope) (t : Term) → AreInstances symbols t
      → term_tree symbols scope (sub pairs terms t) ≡ term_tree symbols (images symbols pairs terms scope) t
  term_tree-substitution pairs terms c scope (free n t) h = refl
  term_tree-substitution pairs terms c scope (bound k) h = refl
  term_tree-substitution pairs terms c scope (constant n t) h =
      ap (applied (Sym (constant_symbol symbols n)))
      (ap (map (type_tree symbols scope.types)) (type_arguments-substitute pairs (generic_type symbols n) t h)
      ∙ map-twice (type_tree symbols scope.types) (substitute pairs) (type_arguments (generic_type symbols n) t)
      ∙ ap (λ f. map f (type_arguments (generic_type symbols n) t)) (fun_ext (type_tree-substitute symbols pairs scope.types)))
  term_tree-substitution pairs terms c scope (app f x) h =
      ap₂ App (term_tree-substitution pairs terms c scope f h.0) (term_tree-substitution pairs terms c scope x h.1)
  term_tree-substitution pairs terms c scope (lam t b) h =
      ap₂ (λ a d. Lam (term_of a) d) (type_tree-substitute symbols pairs scope.types t)
      (term_tree-substitution pairs terms c (inside scope) b h
      ∙ ap (λ w. term_tree symbols w b)
      (same_scope (images symbols pairs terms (inside scope)) (inside (images symbols pairs terms scope))
      (λ n. sym (type_tree-lift symbols scope.types (image pairs n)))
      (λ v. sym (term_tree-inside scope (term_image terms (v.0, substitute pairs v.1)) (c (v.0, substitute pairs v.1))))
      (λ h. refl) (λ k. refl)))

  -- what a term's tree is where the free variable v stands for the bound number d, and the numbers from there on are raised
  abbrev opened : ℕ → Variable → Scope → Scope
  opened d v scope = record {
    types = scope.types;
    terms = λ w. cond (variable_eq w v) (scope.bounds d) (scope.terms w);
    proofs = scope.proofs;
    bounds = λ k. scope.bounds (raised d 1 k);
  }

  closed_free : (b : Bool) (d : ℕ) (scope : Scope) (n : Name) (t : HolType)
      → term_tree symbols scope (cond b (bound d) (free n t)) ≡ cond b (scope.bounds d) (scope.terms (n, t))
  closed_free true d scope n t = refl
  closed_free false d scope n t = refl

  lift_cond : (b : Bool) (x y : Tree) → cond b (lift 1 x) (lift 1 y) ≡ lift 1 (cond b x y)
  lift_cond true x y = refl
  lift_cond false x y = refl

  term_tree-close_at : (d : ℕ) (v : Variable) (scope : Scope) (t : Term) → term_tree symbols scope (close_at d v t) ≡ term_tree symbols (opened d v scope) t
  term_tree-close_at d v scope (free n t) = closed_free (variable_eq (n, t) v) d scope n t
  term_tree-close_at d v scope (bound k) = refl
  term_tree-close_at d v scope (constant n t) = refl
  term_tree-close_at d v scope (app f x) = ap₂ App (term_tree-close_at d v scope f) (term_tree-close_at d v scope x)
  term_tree-close_at d v scope (lam t b) =
      ap (Lam (term_of (type_tree symbols scope.types t)))
      (term_tree-close_at (suc d) v (inside scope) b
      ∙ ap (λ w. term_tree symbols w b)
      (same_scope (opened (suc d) v (inside scope)) (inside (opened d v scope)) (λ n. refl) (λ w. lift_cond (variable_eq w v) (scope.bounds d) (scope.terms w))
      (λ h. refl) go))
    where
      low : raised (suc d) 1 0 ≡ 0
      low = grind arith

      high : (k : ℕ) → raised (suc d) 1 (suc k) ≡ suc (raised d 1 k)
      high k = grind arith

      go : (k : ℕ) → (opened (suc d) v (inside scope)).bounds k ≡ (inside (opened d v scope)).bounds k
      go zero = ap (inside scope).bounds low
      go (suc k) = ap (inside scope).bounds (high k)

  -- the body of a binder that closed a free variable is the body's tree where the variable stands for the binder
  pub term_tree-close : (v : Variable) (scope : Scope) (t : Term) → term_tree symbols (inside scope) (close v t) ≡ term_tree symbols (under_term v scope) t
  term_tree-close v scope t =
      term_tree-close_at 0 v (inside scope) t
      ∙ ap (λ w. term_tree symbols w t)
      (same_scope (opened 0 v (inside scope)) (under_term v scope) (λ n. refl) (λ w. refl) (λ h. refl) (λ k. ap (inside scope).bounds (one k)))
    where
      one : (k : ℕ) → raised 0 1 k ≡ suc k
      one k = grind arith

  module _ (P : Name → Type 0) where
    mutual
      -- a type owes its tree to what stands for the variables that it has
      pub type_tree-agrees : (scope other : TypeScope) → ((n : Name) → P n → scope n ≡ other n) → (t : HolType) → AllByRecursion P (variable_places t)
          → type_tree symbols scope t ≡ type_tree symbols other t
      type_tree-agrees scope other e (variable n) h = e n h.0
      type_tree-agrees scope other e (operator n ts) h = ap (applied (Sym (operator_symbol symbols n (count ts)))) (type_trees-agree scope other e ts h)

      type_trees-agree : (scope other : TypeScope) → ((n : Name) → P n → scope n ≡ other n) → (ts : HolTypes) → AllByRecursion P (variable_places_of_all ts)
          → type_trees symbols scope ts ≡ type_trees symbols other ts
      type_trees-agree scope other e none h = refl
      type_trees-agree scope other e (more t ts) h =
          ap₂ (λ x xs. x ∷ xs) (type_tree-agrees scope other e t (All-left P (variable_places t) (variable_places_of_all ts) h))
          (type_trees-agree scope other e ts (All-right P (variable_places t) (variable_places_of_all ts) h))

    module _ (Q : Variable → Type 0) where
      -- two scopes agree on these type variables and free variables, and on the numbers below d
      pub record Agrees (d : ℕ) (scope other : Scope) : Type 0 where
        pub types : (n : Name) → P n → scope.types n ≡ other.types n
        pub terms : (v : Variable) → Q v → scope.terms v ≡ other.terms v
        pub bounds : (k : ℕ) → k < d → scope.bounds k ≡ other.bounds k

      Agrees-inside : (d : ℕ) (scope other : Scope) → Agrees d scope other → Agrees (suc d) (inside scope) (inside other)
      Agrees-inside d scope other a = record { types = λ n p. ap (lift 1) (a.types n p); terms = λ v q. ap (lift 1) (a.terms v q); bounds = go }
        where
          go : (k : ℕ) → k < suc d → (inside scope).bounds k ≡ (inside other).bounds k
          go zero l = refl
          go (suc k) l = ap (lift 1) (a.bounds k (omega (arith, l)))

      -- a term owes its tree to what stands for what it has
      pub term_tree-agrees : (d : ℕ) (scope other : Scope) → Agrees d scope other → (t : Term) → AreInstances symbols t
          → AllByRecursion P (type_variable_places t) → AllByRecursion Q (free_places t) → loose t ≤ d
          → term_tree symbols scope t ≡ term_tree symbols other t
      term_tree-agrees d scope other a (free n t) i p q h = a.terms (n, t) q.0
      term_tree-agrees d scope other a (bound k) i p q h = a.bounds k (omega (arith, h))
      term_tree-agrees d scope other a (constant n t) i p q h =
          ap (applied (Sym (constant_symbol symbols n)))
          (map-each (type_tree symbols scope.types) (type_tree symbols other.types) (type_arguments (generic_type symbols n) t)
          (All-weaker _ _ (λ u all. type_tree-agrees scope.types other.types a.types u all) (type_arguments (generic_type symbols n) t)
          (type_arguments-All P (generic_type symbols n) t i p)))
      term_tree-agrees d scope other a (app f x) i p q h =
          ap₂ App
          (term_tree-agrees d scope other a f i.0 (All-left P (type_variable_places f) (type_variable_places x) p)
          (All-left Q (free_places f) (free_places x) q) (omega (arith, h)))
          (term_tree-agrees d scope other a x i.1 (All-right P (type_variable_places f) (type_variable_places x) p)
          (All-right Q (free_places f) (free_places x) q) (omega (arith, h)))
      term_tree-agrees d scope other a (lam t b) i p q h =
          ap₂ (λ x y. Lam (term_of x) y)
          (type_tree-agrees scope.types other.types a.types t (All-left P (variable_places t) (type_variable_places b) p))
          (term_tree-agrees (suc d) (inside scope) (inside other) (Agrees-inside d scope other a) b i
          (All-right P (variable_places t) (type_variable_places b) p) q (omega (arith, h)))
