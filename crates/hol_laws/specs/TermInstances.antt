-- Laws of binding and substitution: to put a term for the variable of a binder that closed a free variable is to substitute it for that variable.
use Rattle.std.proofs.Common.{◌≡◌, ℕ, suc, ◌≤◌, refl, sym, ap, ◌∙◌, arith, [], ◌∷◌, Bool, true, false, cond, Some, None, Option}
use Rattle.std.specs.Prelude.{IsSome}
use Rattle.std.specs.Option.{unwrap_or}
use Rattle.std.proofs.Math.Path.{ap₂}
use Rattle.hol_spec.specs.Types.{HolType, HolTypes, variable, operator, none, more}
use Rattle.hol_spec.specs.Substitution.{substitute, substitute_all}
use Rattle.hol_spec.specs.Terms.{Term, free, bound, constant, app, lam, Variable, variable_eq, type_of, IsTerm}
use Rattle.hol_spec.specs.TermBinding.{raised, lift, put_bound, put_at, close_at, loose}
use Rattle.hol_spec.specs.TermSubstitution.{term_image, sub}
use Rattle.hol_laws.specs.TermClosed.{lift_at-closed}
use Rattle.hol_laws.specs.TermTyping.{loose-typed}
use Rattle.hol_spec.specs.BindingStatements.{PutClose}

-- No pair changes nothing.
mutual
  pub substitute-nothing : (t : HolType) → substitute [] t ≡ t
  substitute-nothing (variable n) = refl
  substitute-nothing (operator n ts) = ap (operator n) (substitute_all-nothing ts)

  substitute_all-nothing : (ts : HolTypes) → substitute_all [] ts ≡ ts
  substitute_all-nothing none = refl
  substitute_all-nothing (more t ts) = ap₂ more (substitute-nothing t) (substitute_all-nothing ts)

-- A term of some type has that type.
typed : (o : Option HolType) → IsSome o → (a : HolType) × (o ≡ Some a)
typed None h = absurd (cc)
typed (Some a) h = (a, refl)

-- A term has no loose number.
pub loose-IsTerm : (u : Term) → IsTerm u → loose u ≤ 0
loose-IsTerm u h = let p = typed (type_of u) h in loose-typed [] u p.0 p.1

-- A number that closing raised is lowered again.
put_bound-raised : (d : ℕ) (u : Term) (n : ℕ) → put_bound d u (raised d 1 n) ≡ bound n
put_bound-raised d u n = grind arith

put_closed_free : (b : Bool) (d : ℕ) (u : Term) (w : Variable) → loose u ≤ 0
    → put_at d u (cond b (bound d) (free w.0 w.1)) ≡ unwrap_or (cond b (Some u) None) (free w.0 w.1)
put_closed_free true d u w h = own ∙ lift_at-closed 0 d u h
  where
    own : put_bound d u d ≡ lift d u
    own = grind arith
put_closed_free false d u w h = refl

pub put_at-close_at : (d : ℕ) (v : Variable) (u : Term) → loose u ≤ 0 → (t : Term) → put_at d u (close_at d v t) ≡ sub [] ((v, u) ∷ []) t
put_at-close_at d v u h (free m c) =
    put_closed_free (variable_eq (m, c) v) d u (m, c) h ∙ sym (ap (λ a. term_image ((v, u) ∷ []) (m, a)) (substitute-nothing c))
put_at-close_at d v u h (bound n) = put_bound-raised d u n
put_at-close_at d v u h (constant m c) = ap (constant m) (sym (substitute-nothing c))
put_at-close_at d v u h (app f x) = ap₂ app (put_at-close_at d v u h f) (put_at-close_at d v u h x)
put_at-close_at d v u h (lam c b) = ap₂ lam (sym (substitute-nothing c)) (put_at-close_at (suc d) v u h b)

pub put-close : PutClose
put-close v u t h = put_at-close_at 0 v u (loose-IsTerm u h) t
