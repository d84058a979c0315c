-- Sizes under lifting, and what is put in after other arguments.
use Rattle.std.proofs.Common.{◌≡◌, refl, sym, ap, ◌∙◌, ℕ, suc, ◌+◌, arith, List, [], ◌∷◌, length}
use Rattle.std.proofs.Math.Path.{fun_ext, ap₂}
use Rattle.lp_spec.specs.Trees.{Tree, SortType, SortKind, Var, Sym, App, Lam, Pi, lift, put_var, put_at, put, put_all, size}
use Rattle.lp_binding_laws.specs.Composition.{sub_ren, sub_var, ren_is_sub, lift_is, lift_zero, put_at_is, put_all_at_is}
use Rattle.lp_spec.specs.Substitution.{up, ren, sub}
use Rattle.lp_binding_laws.specs.Binding.{put_at-put, puts, put_all-puts}

pub size-ren : (r : ℕ → ℕ) (t : Tree) → size (ren r t) ≡ size t
size-ren r SortType = refl
size-ren r SortKind = refl
size-ren r (Var n) = refl
size-ren r (Sym s) = refl
size-ren r (App f x) = ap₂ (λ a b. 1 + a + b) (size-ren r f) (size-ren r x)
size-ren r (Lam a b) = ap₂ (λ m n. 1 + m + n) (size-ren r a) (size-ren (up r) b)
size-ren r (Pi a b) = ap₂ (λ m n. 1 + m + n) (size-ren r a) (size-ren (up r) b)

pub size-lift : (k : ℕ) (t : Tree) → size (lift k t) ≡ size t
size-lift k t = ap size (lift_is k t) ∙ size-ren (λ n. n + k) t

-- no arguments leave a tree alone
pub put_all-nil : (t : Tree) → put_all [] t ≡ t
put_all-nil t = put_all_at_is 0 [] t ∙ ap (λ w. sub w t) (fun_ext (λ n. grind arith)) ∙ sub_var t

-- what is put for a variable that a lifted tree lacks goes away
put_at-lift : (d : ℕ) (x u : Tree) → put_at d x (lift (suc d) u) ≡ lift d u
put_at-lift d x u =
    put_at_is d x (lift (suc d) u) ∙ ap (sub (put_var d x)) (lift_is (suc d) u) ∙ sub_ren (put_var d x) (λ n. n + suc d) u
    ∙ ap (λ w. sub w u) (fun_ext each) ∙ sym (ren_is_sub (λ n. n + d) u) ∙ sym (lift_is d u)
  where
    each : (n : ℕ) → put_var d x (n + suc d) ≡ Var (n + d)
    each n = grind arith

put_at-puts : (d : ℕ) (x : Tree) (us : List Tree) (t : Tree) → put_at d x (puts (suc d) us t) ≡ puts d us (put_at (length us + d) x t)
put_at-puts d x [] t = let e : d ≡ 0 + d = omega arith in ap (λ n. put_at n x t) e
put_at-puts d x (u ∷ us) t =
    let e : length us + suc d ≡ length (u ∷ us) + d = omega arith in
    put_at-put d (lift (suc d) u) x (puts (suc (suc d)) us t)
    ∙ ap₂ put (put_at-lift d x u) (put_at-puts (suc d) x us t)
    ∙ ap (λ n. put (lift d u) (puts (suc d) us (put_at n x t))) e

-- an argument before others is put in first
pub put_all-cons : (x : Tree) (us : List Tree) (t : Tree) → put_all (x ∷ us) t ≡ put_all us (put_at (length us) x t)
put_all-cons x us t =
    let e : length us + 0 ≡ length us = omega arith in
    put_all-puts (x ∷ us) t ∙ ap (λ w. put w (puts 1 us t)) (lift_zero x) ∙ put_at-puts 0 x us t
    ∙ ap (λ n. puts 0 us (put_at n x t)) e ∙ sym (put_all-puts us (put_at (length us) x t))
