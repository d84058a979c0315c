-- A scope under several binders of abstractions: what a walk that counts its binders looks up.
use Rattle.std.proofs.Common.{◌≡◌, ℕ, zero, suc, ◌+◌, ◌-◌, Bool, true, false, cond, refl, sym, ap, ◌∙◌, arith}
use Rattle.std.specs.Prelude.{nat_lt, if◌then◌else◌}
use Rattle.lp_spec.specs.Trees.{Tree, Var, lift}
use Rattle.lp_binding_laws.specs.Composition.{lift_zero}
use Rattle.lp_binding_laws.specs.Binding.{lift-lift}
use Rattle.translate_spec.specs.Scopes.{Scope, inside}
use Rattle.translate_laws.specs.ScopeLaws.{same_scope}

-- under d binders: what stands outside is lifted by d, and the numbers below d are the binders' own
abbrev pub deep : ℕ → Scope → Scope
deep d scope = record {
  types = λ n. lift d (scope.types n);
  terms = λ v. lift d (scope.terms v);
  proofs = λ h. lift d (scope.proofs h);
  bounds = λ k. if nat_lt k d then Var k else lift d (scope.bounds (k - d));
}

-- under none it is the scope
pub deep-zero : (scope : Scope) → deep 0 scope ≡ scope
deep-zero scope = same_scope (deep 0 scope) scope (λ n. lift_zero (scope.types n)) (λ v. lift_zero (scope.terms v)) (λ h. lift_zero (scope.proofs h)) go
  where
    same : (k : ℕ) → k - 0 ≡ k
    same k = omega arith

    none : (k : ℕ) → nat_lt k 0 ≡ false
    none k = grind arith

    go : (k : ℕ) → (deep 0 scope).bounds k ≡ scope.bounds k
    go k = ap (λ b. cond b (Var k) (lift 0 (scope.bounds (k - 0)))) (none k) ∙ lift_zero (scope.bounds (k - 0)) ∙ ap scope.bounds (same k)

-- and under one more it is inside
pub deep-suc : (d : ℕ) (scope : Scope) → inside (deep d scope) ≡ deep (suc d) scope
deep-suc d scope = same_scope (inside (deep d scope)) (deep (suc d) scope) (λ n. lift-lift 1 d (scope.types n) ∙ one (scope.types n))
    (λ v. lift-lift 1 d (scope.terms v) ∙ one (scope.terms v)) (λ h. lift-lift 1 d (scope.proofs h) ∙ one (scope.proofs h)) go
  where
    one : (x : Tree) → lift (1 + d) x ≡ lift (suc d) x
    one x = ap (λ k. lift k x) (let e : 1 + d ≡ suc d = omega arith in e)

    go : (k : ℕ) → (inside (deep d scope)).bounds k ≡ (deep (suc d) scope).bounds k
    go zero = sym (ap (λ b. cond b (Var 0) (lift (suc d) (scope.bounds (0 - suc d)))) (low d))
      where
        low : (d : ℕ) → nat_lt 0 (suc d) ≡ true
        low d = grind arith
    go (suc k) = by (nat_lt k d) refl
      where
        next : nat_lt (suc k) (suc d) ≡ nat_lt k d
        next = grind arith

        less : suc k - suc d ≡ k - d
        less = omega arith

        own : lift 1 (Var k) ≡ Var (suc k)
        own = grind arith

        by : (b : Bool) → nat_lt k d ≡ b
            → lift 1 (cond (nat_lt k d) (Var k) (lift d (scope.bounds (k - d))))
            ≡ cond (nat_lt (suc k) (suc d)) (Var (suc k)) (lift (suc d) (scope.bounds (suc k - suc d)))
        by true e = ap (λ b. lift 1 (cond b (Var k) (lift d (scope.bounds (k - d))))) e ∙ own
            ∙ ap (λ b. cond b (Var (suc k)) (lift (suc d) (scope.bounds (suc k - suc d)))) (sym (next ∙ e))
        by false e =
            ap (λ b. lift 1 (cond b (Var k) (lift d (scope.bounds (k - d))))) e ∙ lift-lift 1 d (scope.bounds (k - d)) ∙ one (scope.bounds (k - d))
            ∙ ap (λ j. lift (suc d) (scope.bounds j)) (sym less)
            ∙ ap (λ b. cond b (Var (suc k)) (lift (suc d) (scope.bounds (suc k - suc d)))) (sym (next ∙ e))
