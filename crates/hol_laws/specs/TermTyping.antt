-- Laws of typing and binding: lifting, closing and putting keep the types, and a typed term has no number that passes its binders.
use Rattle.std.proofs.Common.{◌≡◌, ℕ, zero, suc, ◌+◌, refl, sym, ap, ◌∙◌, arith, List, [], ◌∷◌, ◌++◌, length, Bool, true, false, cond, Option, Some, None}
use Rattle.std.specs.Prelude.{slice_get}
use Rattle.std.specs.Option.{option_map}
use Rattle.std.proofs.lemmas.Option.{slice_get_within}
use Rattle.std.proofs.Math.Path.{fun_ext, ap₂}
use Rattle.hol_spec.specs.Types.{HolType}
use Rattle.hol_spec.specs.Primitives.{function}
use Rattle.hol_spec.specs.Terms.{Term, free, bound, constant, app, lam, Variable, variable_eq, type_under, application_type}
use Rattle.hol_laws.specs.TermLaws.{variable_eq-Decides}
use Rattle.hol_spec.specs.TermBinding.{raised, lift_at, lift, put_bound, put_at, close_at}
use Rattle.hol_laws.specs.TermRenamings.{rename, lift_is, up_terms_put_bound}
use Rattle.hol_laws.specs.TermClosed.{lift_at-zero}
use Rattle.hol_spec.specs.BindingStatements.{TypeOfAbstraction, TypeOfInstance, LooseTyped}

-- Of a list with something in between, what stands before and behind it stays.
slice_get-raised : (front mid back : List HolType) (n : ℕ)
    → slice_get (front ++ (mid ++ back)) (raised (length front) (length mid) n) ≡ slice_get (front ++ back) n
slice_get-raised [] [] back n = grind arith
slice_get-raised [] (m ∷ mid) back n = ap (slice_get (m ∷ (mid ++ back))) (more (length mid)) ∙ slice_get-raised [] mid back n
  where
    more : (k : ℕ) → raised 0 (suc k) n ≡ suc (raised 0 k n)
    more k = grind arith
slice_get-raised (f ∷ front) mid back zero = ap (slice_get (f ∷ (front ++ (mid ++ back)))) (low (length front))
  where
    low : (d : ℕ) → raised (suc d) (length mid) 0 ≡ 0
    low d = grind arith
slice_get-raised (f ∷ front) mid back (suc n) = ap (slice_get (f ∷ (front ++ (mid ++ back)))) (one (length front)) ∙ slice_get-raised front mid back n
  where
    one : (d : ℕ) → raised (suc d) (length mid) (suc n) ≡ suc (raised d (length mid) n)
    one d = grind arith

-- A lifted term has the same type under more binders.
pub type_under-lift_at : (front mid back : List HolType) (t : Term)
    → type_under (front ++ (mid ++ back)) (lift_at (length front) (length mid) t) ≡ type_under (front ++ back) t
type_under-lift_at front mid back (free m c) = refl
type_under-lift_at front mid back (bound n) = slice_get-raised front mid back n
type_under-lift_at front mid back (constant m c) = refl
type_under-lift_at front mid back (app f x) = ap₂ application_type (type_under-lift_at front mid back f) (type_under-lift_at front mid back x)
type_under-lift_at front mid back (lam c b) = ap (option_map (function c)) (type_under-lift_at (c ∷ front) mid back b)

-- The variable of a new binder has the type of the free variable that it was.
slice_get-seam : (front back : List HolType) (a : HolType) → slice_get (front ++ a ∷ back) (length front) ≡ Some a
slice_get-seam [] back a = refl
slice_get-seam (f ∷ front) back a = slice_get-seam front back a

close_free : (b : Bool) (front back : List HolType) (v w : Variable) → (b ≡ true → w ≡ v)
    → type_under (front ++ v.1 ∷ back) (cond b (bound (length front)) (free w.0 w.1)) ≡ Some w.1
close_free true front back v w e = slice_get-seam front back v.1 ∙ ap (λ (x : Variable). Some x.1) (sym (e refl))
close_free false front back v w e = refl

-- Closing keeps the type.
pub type_under-close_at : (front back : List HolType) (v : Variable) (t : Term)
    → type_under (front ++ v.1 ∷ back) (close_at (length front) v t) ≡ type_under (front ++ back) t
type_under-close_at front back v (free m c) = close_free (variable_eq (m, c) v) front back v (m, c) (variable_eq-Decides (m, c) v).0
type_under-close_at front back v (bound n) = slice_get-raised front (v.1 ∷ []) back n
type_under-close_at front back v (constant m c) = refl
type_under-close_at front back v (app f x) = ap₂ application_type (type_under-close_at front back v f) (type_under-close_at front back v x)
type_under-close_at front back v (lam c b) = ap (option_map (function c)) (type_under-close_at (c ∷ front) back v b)

pub type_of-close : TypeOfAbstraction
type_of-close v t = ap (option_map (function v.1)) (type_under-close_at [] [] v t)

-- Under a binder more, what is put for a number is lifted.
put_bound-suc : (d : ℕ) (u : Term) (n : ℕ) → put_bound (suc d) u (suc n) ≡ lift 1 (put_bound d u n)
put_bound-suc d u n =
    sym (up_terms_put_bound d u (suc n)) ∙ ap (λ r. rename r (put_bound d u n)) (fun_ext (λ m. let e : suc m ≡ m + 1 = omega arith in e))
    ∙ sym (lift_is 1 (put_bound d u n))

-- What is put for a number has its type, where the term put has the type of the binder that goes.
type_under-put_bound : (front back : List HolType) (a : HolType) (u : Term) → type_under back u ≡ Some a → (n : ℕ)
    → type_under (front ++ back) (put_bound (length front) u n) ≡ slice_get (front ++ a ∷ back) n
type_under-put_bound [] back a u e zero = ap (type_under back) (lift_at-zero 0 u) ∙ e
type_under-put_bound [] back a u e (suc n) = ap (type_under back) lowered
  where
    lowered : put_bound 0 u (suc n) ≡ bound n
    lowered = grind arith
type_under-put_bound (f ∷ front) back a u e zero = ap (type_under (f ∷ (front ++ back))) (kept (length front))
  where
    kept : (d : ℕ) → put_bound (suc d) u 0 ≡ bound 0
    kept d = grind arith
type_under-put_bound (f ∷ front) back a u e (suc n) =
    ap (type_under (f ∷ (front ++ back))) (put_bound-suc (length front) u n)
    ∙ type_under-lift_at [] (f ∷ []) (front ++ back) (put_bound (length front) u n)
    ∙ type_under-put_bound front back a u e n

-- To put a term of a binder's type for its variable keeps the type.
pub type_under-put_at : (front back : List HolType) (a : HolType) (u : Term) → type_under back u ≡ Some a → (t : Term)
    → type_under (front ++ back) (put_at (length front) u t) ≡ type_under (front ++ a ∷ back) t
type_under-put_at front back a u e (free m c) = refl
type_under-put_at front back a u e (bound n) = type_under-put_bound front back a u e n
type_under-put_at front back a u e (constant m c) = refl
type_under-put_at front back a u e (app f x) = ap₂ application_type (type_under-put_at front back a u e f) (type_under-put_at front back a u e x)
type_under-put_at front back a u e (lam c b) = ap (option_map (function c)) (type_under-put_at (c ∷ front) back a u e b)

pub type_of-put : TypeOfInstance
type_of-put a b u body e h = type_under-put_at [] [] a u e body ∙ h

-- An application that has a type has parts that have types.
application_type-parts : (f x : Option HolType) (b : HolType) → application_type f x ≡ Some b → ((p : HolType) × (f ≡ Some p)) × ((q : HolType) × (x ≡ Some q))
application_type-parts None x b e = absurd (cc)
application_type-parts (Some p) None b e = absurd (cc)
application_type-parts (Some p) (Some q) b e = ((p, refl), (q, refl))

abstraction_type-part : (a : HolType) (t : Option HolType) (b : HolType) → option_map (function a) t ≡ Some b → (c : HolType) × (t ≡ Some c)
abstraction_type-part a None b e = absurd (cc)
abstraction_type-part a (Some c) b e = (c, refl)

pub loose-typed : LooseTyped
loose-typed binders (free m c) a e = omega arith
loose-typed binders (bound n) a e = omega (arith, slice_get_within binders n a e)
loose-typed binders (constant m c) a e = omega arith
loose-typed binders (app f x) a e =
    let p = application_type-parts (type_under binders f) (type_under binders x) a e in
    omega (arith, loose-typed binders f p.0.0 p.0.1, loose-typed binders x p.1.0 p.1.1)
loose-typed binders (lam c b) a e =
    let p = abstraction_type-part c (type_under (c ∷ binders) b) a e in
    omega (arith, loose-typed (c ∷ binders) b p.0 p.1)
