-- Laws of terms without loose numbers: under as many binders as close a term, lifting and putting leave it alone.
use Rattle.std.proofs.Common.{◌≡◌, ℕ, suc, ◌≤◌, refl, ap, arith, List}
use Rattle.std.proofs.Math.Path.{ap₂}
use Rattle.hol_spec.specs.Terms.{Term, free, bound, constant, app, lam}
use Rattle.hol_spec.specs.TermBinding.{lift_at, put_at, put_all_at, loose}

pub lift_at-closed : (d k : ℕ) (t : Term) → loose t ≤ d → lift_at d k t ≡ t
lift_at-closed d k (free m c) h = refl
lift_at-closed d k (bound n) h = grind arith
lift_at-closed d k (constant m c) h = refl
lift_at-closed d k (app f x) h = ap₂ app (lift_at-closed d k f (omega (arith, h))) (lift_at-closed d k x (omega (arith, h)))
lift_at-closed d k (lam c b) h = ap (lam c) (lift_at-closed (suc d) k b (omega (arith, h)))

pub put_at-closed : (d : ℕ) (a t : Term) → loose t ≤ d → put_at d a t ≡ t
put_at-closed d u (free m c) h = refl
put_at-closed d u (bound n) h = grind arith
put_at-closed d u (constant m c) h = refl
put_at-closed d u (app f x) h = ap₂ app (put_at-closed d u f (omega (arith, h))) (put_at-closed d u x (omega (arith, h)))
put_at-closed d u (lam c b) h = ap (lam c) (put_at-closed (suc d) u b (omega (arith, h)))

pub put_all_at-closed : (d : ℕ) (us : List Term) (t : Term) → loose t ≤ d → put_all_at d us t ≡ t
put_all_at-closed d us (free m c) h = refl
put_all_at-closed d us (bound n) h = grind arith
put_all_at-closed d us (constant m c) h = refl
put_all_at-closed d us (app f x) h = ap₂ app (put_all_at-closed d us f (omega (arith, h))) (put_all_at-closed d us x (omega (arith, h)))
put_all_at-closed d us (lam c b) h = ap (lam c) (put_all_at-closed (suc d) us b (omega (arith, h)))

-- To lift by nothing leaves a term alone.
pub lift_at-zero : (d : ℕ) (t : Term) → lift_at d 0 t ≡ t
lift_at-zero d (free m c) = refl
lift_at-zero d (bound n) = grind arith
lift_at-zero d (constant m c) = refl
lift_at-zero d (app f x) = ap₂ app (lift_at-zero d f) (lift_at-zero d x)
lift_at-zero d (lam c b) = ap (lam c) (lift_at-zero (suc d) b)
