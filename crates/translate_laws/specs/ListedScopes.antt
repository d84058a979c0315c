-- Scopes that lists tell: what stands there, and fillers elsewhere. And which list the scope of a sequent is: each variable has the binder of
-- its place.
use Rattle.std.proofs.Common.{◌≡◌, ℕ, zero, suc, ◌+◌, ◌-◌, List, [], ◌∷◌, length, Bool, true, false, cond, None, Some, refl, sym, ap, ◌∙◌, arith}
use Rattle.std.specs.Option.{unwrap_or}
use Rattle.std.specs.List.{AllByRecursion, IsDistinct}
use Rattle.std.specs.Map.{lookup}
use Rattle.std.proofs.Math.Path.{fun_ext}
use Rattle.hol_spec.specs.Names.{Name}
use Rattle.hol_spec.specs.NameEquality.{name_eq}
use Rattle.hol_spec.specs.Terms.{Term, Variable, variable_eq}
use Rattle.lp_spec.specs.Trees.{Tree, Var, Sym, App, Lam, raised, lift, lift_at}
use Rattle.lp_binding_laws.specs.Composition.{lift_at_is, lift_zero}
use Rattle.lp_spec.specs.Substitution.{up, ren}
use Rattle.lp_binding_laws.specs.Binding.{lift-lift}
use Rattle.lp_binding_laws.specs.SubstitutionLaws.{lift_one, ren-lift}
use Rattle.lp_spec.specs.Modules.{select_symbol, bools, term_of, eq_of}
use Rattle.translate_spec.specs.TypeEnc.{parameter}
use Rattle.translate_spec.specs.Scopes.{SymbolMap, TypeScope, type_tree, Scope, under_type, under_types, under_term, under_terms, under_proof, under_proofs, filler}

-- the scope that lists tell
abbrev pub told_types : List (Name × Tree) → TypeScope
told_types entries n = unwrap_or (lookup (name_eq n) entries) bools

abbrev pub told : SymbolMap → List (Name × Tree) → List (Variable × Tree) → Scope
told symbols entries terms = record {
  types = told_types entries;
  terms = λ v. unwrap_or (lookup (variable_eq v) terms) (filler (type_tree symbols (told_types entries) v.1));
  proofs = λ h. Sym 0;
  bounds = Var;
}

-- each element with the binder of its place, the places counted from here
abbrev pub parameters : {A : Type 0} → ℕ → ℕ → List A → List (A × Tree)
parameters depth place [] = []
parameters depth place (x ∷ xs) = (x, parameter depth place) ∷ parameters depth (suc place) xs

lift-lift_at : (a : Tree) → lift_at 1 1 (lift 1 a) ≡ lift 1 (lift 1 a)
lift-lift_at a = lift_at_is 1 1 (lift 1 a) ∙ ap (λ r. ren r (lift 1 a)) (fun_ext go) ∙ ren-lift suc a ∙ ap (lift 1) (sym (lift_one a))
  where
    low : raised 1 1 0 ≡ 0
    low = grind arith

    high : (n : ℕ) → raised 1 1 (suc n) ≡ suc (suc n)
    high n = grind arith

    go : (n : ℕ) → raised 1 1 n ≡ up suc n
    go zero = low
    go (suc n) = high n

-- a filler under a binder more
pub filler-lift : (a : Tree) → lift 1 (filler a) ≡ filler (lift 1 a)
filler-lift a = ap (λ w. App (App (Sym select_symbol) (lift 1 a)) (Lam (term_of (lift 1 a)) (eq_of w (Var 0) (Var 0)))) (lift-lift_at a)

-- which list the binders of several are: each has its place
module _ {A : Type 0} (same : A → A → Bool) where
  abbrev pub under_all : List A → (A → Tree) → A → Tree
  under_all [] f = f
  under_all (x ∷ xs) f = under_all xs (λ y. cond (same y x) (Var 0) (lift 1 (f y)))

  absent : (y x : A) (xs : List A) (d from : ℕ) → ((a b c : A) → same a b ≡ true → same b c ≡ false → same a c ≡ false) → same y x ≡ true
      → AllByRecursion (λ z. same x z ≡ false) xs → lookup (same y) (parameters d from xs) ≡ None
  absent y x [] d from apart e h = refl
  absent y x (z ∷ zs) d from apart e h =
      let n : same y z ≡ false = apart y x z e h.0 in
      ap (λ b. cond b (Some (parameter d from)) (lookup (same y) (parameters d (suc from) zs))) n ∙ absent y x zs d (suc from) apart e h.1

  pub under_all-is : (apart : (a b c : A) → same a b ≡ true → same b c ≡ false → same a c ≡ false) (xs : List A) (f : A → Tree) (from : ℕ) (y : A)
      → IsDistinct same xs
      → under_all xs f y ≡ unwrap_or (lookup (same y) (parameters (from + length xs) from xs)) (lift (length xs) (f y))
  unfolding IsDistinct
  under_all-is apart [] f from y h = sym (lift_zero (f y))
  under_all-is apart (x ∷ xs) f from y h =
      under_all-is apart xs (λ z. cond (same z x) (Var 0) (lift 1 (f z))) (suc from) y h.1
      ∙ ap (λ d. unwrap_or (lookup (same y) (parameters d (suc from) xs)) (lift (length xs) (cond (same y x) (Var 0) (lift 1 (f y))))) more
      ∙ go (same y x) (λ e. absent y x xs (from + suc (length xs)) (suc from) apart e h.0)
    where
      more : suc from + length xs ≡ from + suc (length xs)
      more = omega arith

      own : lift (length xs) (Var 0) ≡ Var (from + suc (length xs) - suc from)
      own = let e : 0 + length xs ≡ from + suc (length xs) - suc from = omega arith in grind (arith, e)

      one : (k : ℕ) → k + 1 ≡ suc k
      one k = omega arith

      go : (b : Bool) → (b ≡ true → lookup (same y) (parameters (from + suc (length xs)) (suc from) xs) ≡ None)
          → unwrap_or (lookup (same y) (parameters (from + suc (length xs)) (suc from) xs)) (lift (length xs) (cond b (Var 0) (lift 1 (f y))))
          ≡ unwrap_or (cond b (Some (parameter (from + suc (length xs)) from)) (lookup (same y) (parameters (from + suc (length xs)) (suc from) xs)))
          (lift (suc (length xs)) (f y))
      go true e = ap (λ o. unwrap_or o (lift (length xs) (Var 0))) (e refl) ∙ own
      go false e = ap (unwrap_or (lookup (same y) (parameters (from + suc (length xs)) (suc from) xs)))
          (lift-lift (length xs) 1 (f y) ∙ ap (λ k. lift k (f y)) (one (length xs)))

pub under_types-all : (ns : List Name) (scope : TypeScope) (n : Name) → under_types ns scope n ≡ under_all name_eq ns scope n
under_types-all [] scope n = refl
under_types-all (k ∷ ns) scope n = under_types-all ns (under_type k scope) n

pub under_terms-all : (vs : List Variable) (scope : Scope) (v : Variable) → (under_terms vs scope).terms v ≡ under_all variable_eq vs scope.terms v
under_terms-all [] scope v = refl
under_terms-all (w ∷ vs) scope v = under_terms-all vs (under_term w scope) v

-- the binders of free variables and of hypotheses lift what stands for the others
suc_lift : (k : ℕ) (x : Tree) → lift k (lift 1 x) ≡ lift (suc k) x
suc_lift k x = lift-lift k 1 x ∙ ap (λ j. lift j x) (let e : k + 1 ≡ suc k = omega arith in e)

pub under_terms-types : (vs : List Variable) (scope : Scope) (n : Name) → (under_terms vs scope).types n ≡ lift (length vs) (scope.types n)
under_terms-types [] scope n = sym (lift_zero (scope.types n))
under_terms-types (v ∷ vs) scope n = under_terms-types vs (under_term v scope) n ∙ suc_lift (length vs) (scope.types n)

pub under_proofs-types : (hs : List Term) (scope : Scope) (n : Name) → (under_proofs hs scope).types n ≡ lift (length hs) (scope.types n)
under_proofs-types [] scope n = sym (lift_zero (scope.types n))
under_proofs-types (h ∷ hs) scope n = under_proofs-types hs (under_proof h scope) n ∙ suc_lift (length hs) (scope.types n)

pub under_proofs-terms : (hs : List Term) (scope : Scope) (v : Variable) → (under_proofs hs scope).terms v ≡ lift (length hs) (scope.terms v)
under_proofs-terms [] scope v = sym (lift_zero (scope.terms v))
under_proofs-terms (h ∷ hs) scope v = under_proofs-terms hs (under_proof h scope) v ∙ suc_lift (length hs) (scope.terms v)
