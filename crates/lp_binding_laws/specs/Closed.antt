-- Lifting and putting leave a tree alone under as many binders as close it.
use Rattle.std.proofs.Common.{◌≡◌, ℕ, suc, ◌≤◌, refl, arith, List}
use Rattle.std.proofs.Math.Path.{ap₂}
use Rattle.lp_spec.specs.Trees.{Tree, SortType, SortKind, Var, Sym, App, Lam, Pi, lift_at, put_at, put_all_at, loose}

pub lift_at-closed : (d k : ℕ) (t : Tree) → loose t ≤ d → lift_at d k t ≡ t
lift_at-closed d k SortType h = refl
lift_at-closed d k SortKind h = refl
lift_at-closed d k (Var n) h = grind arith
lift_at-closed d k (Sym s) h = refl
lift_at-closed d k (App f x) h = ap₂ App (lift_at-closed d k f (omega (arith, h))) (lift_at-closed d k x (omega (arith, h)))
lift_at-closed d k (Lam a b) h = ap₂ Lam (lift_at-closed d k a (omega (arith, h))) (lift_at-closed (suc d) k b (omega (arith, h)))
lift_at-closed d k (Pi a b) h = ap₂ Pi (lift_at-closed d k a (omega (arith, h))) (lift_at-closed (suc d) k b (omega (arith, h)))

pub put_at-closed : (d : ℕ) (a t : Tree) → loose t ≤ d → put_at d a t ≡ t
put_at-closed d u SortType h = refl
put_at-closed d u SortKind h = refl
put_at-closed d u (Var n) h = grind arith
put_at-closed d u (Sym s) h = refl
put_at-closed d u (App f x) h = ap₂ App (put_at-closed d u f (omega (arith, h))) (put_at-closed d u x (omega (arith, h)))
put_at-closed d u (Lam a b) h = ap₂ Lam (put_at-closed d u a (omega (arith, h))) (put_at-closed (suc d) u b (omega (arith, h)))
put_at-closed d u (Pi a b) h = ap₂ Pi (put_at-closed d u a (omega (arith, h))) (put_at-closed (suc d) u b (omega (arith, h)))

pub put_all_at-closed : (d : ℕ) (us : List Tree) (t : Tree) → loose t ≤ d → put_all_at d us t ≡ t
put_all_at-closed d us SortType h = refl
put_all_at-closed d us SortKind h = refl
put_all_at-closed d us (Var n) h = grind arith
put_all_at-closed d us (Sym s) h = refl
put_all_at-closed d us (App f x) h = ap₂ App (put_all_at-closed d us f (omega (arith, h))) (put_all_at-closed d us x (omega (arith, h)))
put_all_at-closed d us (Lam a b) h = ap₂ Lam (put_all_at-closed d us a (omega (arith, h))) (put_all_at-closed (suc d) us b (omega (arith, h)))
put_all_at-closed d us (Pi a b) h = ap₂ Pi (put_all_at-closed d us a (omega (arith, h))) (put_all_at-closed (suc d) us b (omega (arith, h)))

-- to lift by nothing leaves a tree alone
pub lift_at-zero : (d : ℕ) (t : Tree) → lift_at d 0 t ≡ t
lift_at-zero d SortType = refl
lift_at-zero d SortKind = refl
lift_at-zero d (Var n) = grind arith
lift_at-zero d (Sym s) = refl
lift_at-zero d (App f x) = ap₂ App (lift_at-zero d f) (lift_at-zero d x)
lift_at-zero d (Lam a b) = ap₂ Lam (lift_at-zero d a) (lift_at-zero (suc d) b)
lift_at-zero d (Pi a b) = ap₂ Pi (lift_at-zero d a) (lift_at-zero (suc d) b)
