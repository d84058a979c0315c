-- The scope of a sequent under its binders, as the lists of its parameters tell it: each variable that is had has the binder of its place.
use Rattle.std.proofs.Common.{◌≡◌, ℕ, suc, ◌+◌, ◌-◌, ◌≤◌, List, [], ◌∷◌, length, Bool, true, false, cond, Option, None, Some, inl, inr, refl, sym, ap, subst, ◌∙◌, arith}
use Rattle.std.specs.Option.{option_map, unwrap_or}
use Rattle.std.specs.Bool.{Decides}
use Rattle.std.specs.List.{IsDistinct}
use Rattle.std.specs.Map.{lookup}
use Rattle.hol_spec.specs.Names.{Name}
use Rattle.hol_spec.specs.NameEquality.{name_eq}
use Rattle.hol_laws.specs.NameEqualityLaws.{name_eq-Decides}
use Rattle.hol_spec.specs.Terms.{Variable, variable_eq}
use Rattle.hol_laws.specs.TermLaws.{variable_eq-Decides}
use Rattle.lp_spec.specs.Trees.{Tree, Var, raised, lift}
use Rattle.lp_spec.specs.Modules.{bools}
use Rattle.translate_spec.specs.TypeEnc.{parameter}
use Rattle.hol_spec.specs.Lists.{IsIn}
use Rattle.translate_spec.specs.Scopes.{Scope, TypeScope, lifted_types, under_types, under_term, under_terms, unfilled}
use Rattle.translate_laws.specs.ListedScopes.{told_types, parameters, under_all-is, under_types-all, under_terms-all}

-- equal elements are told apart from the same others
pub same-apart : {A : Type 0} (same : A → A → Bool) → ((x y : A) → Decides (same x y) (x ≡ y)) → (a b c : A) → same a b ≡ true → same b c ≡ false
    → same a c ≡ false
same-apart same decides a b c e f = ap (λ x. same x c) ((decides a b).0 e) ∙ f

-- a list of parameters under a binder more
pub parameter-lift : (d p : ℕ) → suc p ≤ d → lift 1 (parameter d p) ≡ parameter (suc d) p
parameter-lift d p h = let e : suc d - suc p ≡ suc (d - suc p) = omega (arith, h) in ap Var (one (d - suc p) ∙ sym e)
  where
    one : (n : ℕ) → raised 0 1 n ≡ suc n
    one n = grind arith

module _ {A : Type 0} (test : A → Bool) where
  lookup-shift : (d from : ℕ) (xs : List A) → from + length xs ≤ d
      → lookup test (parameters (suc d) from xs) ≡ option_map (lift 1) (lookup test (parameters d from xs))
  lookup-shift d from [] h = refl
  lookup-shift d from (x ∷ xs) h = go (test x) (parameter-lift d from (omega (arith, h))) (lookup-shift d (suc from) xs (omega (arith, h)))
    where
      go : (b : Bool) → lift 1 (parameter d from) ≡ parameter (suc d) from
          → lookup test (parameters (suc d) (suc from) xs) ≡ option_map (lift 1) (lookup test (parameters d (suc from) xs))
          → cond b (Some (parameter (suc d) from)) (lookup test (parameters (suc d) (suc from) xs))
          ≡ option_map (lift 1) (cond b (Some (parameter d from)) (lookup test (parameters d (suc from) xs)))
      go true e f = ap Some (sym e)
      go false e f = f

unwrap-lift : (o : Option Tree) (x : Tree) → unwrap_or (option_map (lift 1) o) (lift 1 x) ≡ lift 1 (unwrap_or o x)
unwrap-lift None x = refl
unwrap-lift (Some a) x = refl

-- what stands for each type variable is the binder of its place, seen under d
abbrev pub TypesTold : List Name → ℕ → TypeScope → Type 0
TypesTold names d scope = (n : Name) → scope n ≡ told_types (parameters d 0 names) n

pub TypesTold-lifted : (names : List Name) (d : ℕ) (scope : TypeScope) → length names ≤ d → TypesTold names d scope
    → TypesTold names (suc d) (lifted_types scope)
TypesTold-lifted names d scope l h n =
    let low : 0 + length names ≤ d = omega (arith, l) in
    ap (lift 1) (h n) ∙ sym (unwrap-lift (lookup (name_eq n) (parameters d 0 names)) bools)
    ∙ ap (λ o. unwrap_or o bools) (sym (lookup-shift (name_eq n) d 0 names low))

pub TypesTold-own : (names : List Name) → IsDistinct name_eq names → TypesTold names (length names) (under_types names unfilled)
TypesTold-own names h n =
    let z : 0 + length names ≡ length names = omega arith in
    under_types-all names unfilled n ∙ under_all-is name_eq (same-apart name_eq name_eq-Decides) names unfilled 0 n h
    ∙ ap (λ d. unwrap_or (lookup (name_eq n) (parameters d 0 names)) bools) z

-- an element of a list is told by its parameters
told-in : {A : Type 0} (same : A → A → Bool) → ((x y : A) → Decides (same x y) (x ≡ y)) → (d from : ℕ) (xs : List A) (y : A) → IsIn xs y
    → (t : Tree) × (lookup (same y) (parameters d from xs) ≡ Some t)
told-in same decides d from [] y k = absurd k
told-in same decides d from (x ∷ xs) y k = go (same y x) refl (decides y x).1 (λ i. told-in same decides d (suc from) xs y i) k
  where
    go : (b : Bool) → same y x ≡ b → (y ≡ x → same y x ≡ true) → (IsIn xs y → (t : Tree) × (lookup (same y) (parameters d (suc from) xs) ≡ Some t))
        → IsIn (x ∷ xs) y
        → (t : Tree) × (lookup (same y) (parameters d from (x ∷ xs)) ≡ Some t)
    go true e f later k = (parameter d from, ap (λ b. cond b (Some (parameter d from)) (lookup (same y) (parameters d (suc from) xs))) e)
    go false e f later (inl is) = absurd (let yes = f is in cc)
    go false e f later (inr i) = let r = later i in (r.0, ap (λ b. cond b (Some (parameter d from)) (lookup (same y) (parameters d (suc from) xs))) e ∙ r.1)

whatever : (o : Option Tree) (t x y : Tree) → o ≡ Some t → unwrap_or o x ≡ unwrap_or o y
whatever o t x y e = ap (λ p. unwrap_or p x) e ∙ ap (λ p. unwrap_or p y) (sym e)

-- what stands for each free variable that is had is the binder of its place, seen under d
abbrev pub TermsTold : List Name → List Variable → ℕ → Scope → Type 0
TermsTold names vs d scope = (v : Variable) → IsIn vs v → (x : Tree) → scope.terms v ≡ unwrap_or (lookup (variable_eq v) (parameters d (length names) vs)) x

pub TermsTold-lifted : (names : List Name) (vs : List Variable) (d : ℕ) (scope other : Scope) → length names + length vs ≤ d → TermsTold names vs d scope
    → ((v : Variable) → other.terms v ≡ lift 1 (scope.terms v)) → TermsTold names vs (suc d) other
TermsTold-lifted names vs d scope other l h e v k x =
    let t = told-in variable_eq variable_eq-Decides d (length names) vs v k in
    let shifted : lookup (variable_eq v) (parameters (suc d) (length names) vs)
    ≡ option_map (lift 1) (lookup (variable_eq v) (parameters d (length names) vs)) = lookup-shift (variable_eq v) d (length names) vs l in
    e v ∙ ap (lift 1) (h v k bools) ∙ sym (unwrap-lift (lookup (variable_eq v) (parameters d (length names) vs)) bools)
    ∙ ap (λ o. unwrap_or o bools) (sym shifted)
    ∙ whatever (lookup (variable_eq v) (parameters (suc d) (length names) vs)) (lift 1 t.0) bools x (shifted ∙ ap (option_map (lift 1)) t.1)

pub TermsTold-own : (names : List Name) (vs : List Variable) (scope : Scope) → IsDistinct variable_eq vs
    → TermsTold names vs (length names + length vs) (under_terms vs scope)
TermsTold-own names vs scope h v k x =
    let t = told-in variable_eq variable_eq-Decides (length names + length vs) (length names) vs v k in
    under_terms-all vs scope v ∙ under_all-is variable_eq (same-apart variable_eq variable_eq-Decides) vs scope.terms (length names) v h
    ∙ whatever (lookup (variable_eq v) (parameters (length names + length vs) (length names) vs)) t.0 (lift (length vs) (scope.terms v)) x t.1

pub TypesTold-terms : (names : List Name) (vs : List Variable) (d : ℕ) (scope : Scope) → length names ≤ d → TypesTold names d scope.types
    → TypesTold names (d + length vs) (under_terms vs scope).types
TypesTold-terms names [] d scope l h = let z : d ≡ d + 0 = omega arith in subst (λ k. TypesTold names k scope.types) z h
TypesTold-terms names (v ∷ vs) d scope l h =
    let z : suc d + length vs ≡ d + suc (length vs) = omega arith in
    let m : length names ≤ suc d = omega (arith, l) in
    subst (λ k. TypesTold names k (under_terms (v ∷ vs) scope).types) z
    (TypesTold-terms names vs (suc d) (under_term v scope) m (TypesTold-lifted names d scope.types l h))
