-- A part under binders of a term, with a variable put for each loose number: what the stack machine builds on the way to the term.
use Rattle.std.proofs.Common.{◌≡◌, ℕ, zero, suc, ◌+◌, ◌<◌, ◌≤◌, ◌^◌, max, Bool, true, false, ◌&&◌, cond, List, [], ◌∷◌, ◌++◌, map, length, Some, slice_get, option_map, refl, ap, ap₂, ◌∙◌, arith, decimal, nat_lt}
use Rattle.std.proofs.lemmas.Bool.Decides.{nat_tests}
use Rattle.std.proofs.lemmas.Fmt.{decimal_injective}
use Rattle.std.proofs.lemmas.List.{append_cancel_left}
use Rattle.hol_spec.specs.NameEquality.{name_eq}
use Rattle.hol_laws.specs.NameEqualityLaws.{name_eq-Decides}
use Rattle.hol_laws.specs.TermLaws.{variable_eq-Decides}
use Rattle.hol_spec.specs.Types.{HolType, type_eq}
use Rattle.hol_spec.specs.Primitives.{function}
use Rattle.hol_spec.specs.Limits.{TermWithin, term_size, term_depth, type_size, type_depth}
use Rattle.hol_spec.specs.Terms.{Term, free, bound, constant, app, lam, Variable, variable_eq, type_under, application_type}
use Rattle.hol_spec.specs.TermBinding.{raised, close_at, loose}
use Rattle.article_write_spec.specs.BinderNames.{binder_front, binder_name}
use Rattle.article_write_spec.specs.WrittenTerms.{binder_at}

-- what stands for a number under d binders that stay
pub data Atom : Type 0 where
  stays : ℕ → Atom
  opens : Variable → Atom

abbrev pub deeper : Atom → Atom
deeper (stays n) = stays (suc n)
deeper (opens v) = opens v

abbrev pub atom_at : ℕ → List Variable → ℕ → Atom
atom_at zero vs k = opens (binder_at vs k)
atom_at (suc d) vs zero = stays 0
atom_at (suc d) vs (suc k) = deeper (atom_at d vs k)

abbrev pub atom_term : Atom → Term
atom_term (stays n) = bound n
atom_term (opens v) = free v.0 v.1

abbrev pub opened : ℕ → List Variable → Term → Term
opened d vs (free n a) = free n a
opened d vs (bound k) = atom_term (atom_at d vs k)
opened d vs (constant n a) = constant n a
opened d vs (app f x) = app (opened d vs f) (opened d vs x)
opened d vs (lam a b) = lam a (opened (suc d) vs b)

-- Nothing loose
atom-stays : (d : ℕ) (vs : List Variable) (k : ℕ) → suc k ≤ d → atom_at d vs k ≡ stays k
atom-stays zero vs k h = absurd (omega (arith, h))
atom-stays (suc d) vs zero h = refl
atom-stays (suc d) vs (suc k) h = ap deeper (atom-stays d vs k (omega (arith, h)))

pub opened-closed : (d : ℕ) (vs : List Variable) (t : Term) → loose t ≤ d → opened d vs t ≡ t
opened-closed d vs (free n a) h = refl
opened-closed d vs (bound k) h = ap atom_term (atom-stays d vs k h)
opened-closed d vs (constant n a) h = refl
opened-closed d vs (app f x) h = ap₂ app (opened-closed d vs f (omega (arith, h))) (opened-closed d vs x (omega (arith, h)))
opened-closed d vs (lam a b) h = ap (lam a) (opened-closed (suc d) vs b (omega (arith, h)))

-- Closing over the innermost
-- a variable that is not free in a term
abbrev pub IsFresh : Variable → Term → Type 0
IsFresh v (free n a) = variable_eq (n, a) v ≡ false
IsFresh v (bound k) = Unit {0}
IsFresh v (constant n a) = Unit {0}
IsFresh v (app f x) = IsFresh v f × IsFresh v x
IsFresh v (lam a b) = IsFresh v b

variable_eq-refl : (v : Variable) → variable_eq v v ≡ true
variable_eq-refl v = (variable_eq-Decides v v).1 refl

pub raised-suc : (d n : ℕ) → raised (suc d) 1 (suc n) ≡ suc (raised d 1 n)
raised-suc d n = go (nat_lt n d) (nat_lt (suc n) (suc d)) (let e : nat_lt (suc n) (suc d) ≡ nat_lt n d = grind (arith, nat_tests) in e)
  where
    go : (b c : Bool) → c ≡ b → cond c (suc n) (suc n + 1) ≡ suc (cond b n (n + 1))
    go true true e = refl
    go false false e = omega arith
    go true false e = absurd (cc)
    go false true e = absurd (cc)

close-deeper : (d : ℕ) (v : Variable) (a b : Atom) → close_at d v (atom_term a) ≡ atom_term b → close_at (suc d) v (atom_term (deeper a)) ≡ atom_term (deeper b)
close-deeper d v (stays n) (stays m) e = let f : raised d 1 n ≡ m = cc in ap bound (raised-suc d n ∙ ap suc f)
close-deeper d v (stays n) (opens w) e = absurd (cc)
close-deeper d v (opens u) b e = go (variable_eq (u.0, u.1) v) b e
  where
    go : (x : Bool) (b : Atom) → cond x (bound d) (free u.0 u.1) ≡ atom_term b → cond x (bound (suc d)) (free u.0 u.1) ≡ atom_term (deeper b)
    go true (stays m) e = let f : d ≡ m = cc in ap (λ k. bound (suc k)) f
    go true (opens w) e = absurd (cc)
    go false (stays m) e = absurd (cc)
    go false (opens w) e = e

close-atom : (d : ℕ) (v : Variable) (vs : List Variable) (k : ℕ) → ((j : ℕ) → variable_eq (binder_at vs j) v ≡ false)
    → close_at d v (atom_term (atom_at d (v ∷ vs) k)) ≡ atom_term (atom_at (suc d) vs k)
close-atom zero v vs zero h = ap (λ b. cond b (bound 0) (free v.0 v.1)) (variable_eq-refl v)
close-atom zero v vs (suc k) h = ap (λ b. cond b (bound 0) (free (binder_at vs k).0 (binder_at vs k).1)) (h k)
close-atom (suc d) v vs zero h = (let e : nat_lt 0 (suc d) ≡ true = grind (arith, nat_tests) in ap (λ b. bound (cond b 0 (0 + 1))) e)
close-atom (suc d) v vs (suc k) h = close-deeper d v (atom_at d (v ∷ vs) k) (atom_at (suc d) vs k) (close-atom d v vs k h)

pub close-opened : (d : ℕ) (v : Variable) (vs : List Variable) (t : Term) → ((j : ℕ) → variable_eq (binder_at vs j) v ≡ false) → IsFresh v t
    → close_at d v (opened d (v ∷ vs) t) ≡ opened (suc d) vs t
close-opened d v vs (free n a) h f = ap (λ b. cond b (bound d) (free n a)) f
close-opened d v vs (bound k) h f = close-atom d v vs k h
close-opened d v vs (constant n a) h f = refl
close-opened d v vs (app g x) h f = ap₂ app (close-opened d v vs g h f.0) (close-opened d v vs x h f.1)
close-opened d v vs (lam a b) h f = ap (lam a) (close-opened (suc d) v vs b h f)

-- What type it has
type-deeper : (f : HolType) (front : List HolType) (a : Atom) → type_under (f ∷ front) (atom_term (deeper a)) ≡ type_under front (atom_term a)
type-deeper f front (stays n) = refl
type-deeper f front (opens v) = refl

type-binder : (vs : List Variable) (k : ℕ) → suc k ≤ length vs → Some (binder_at vs k).1 ≡ slice_get (map (λ (v : Variable). v.1) vs) k
type-binder [] k h = absurd (omega (arith, h))
type-binder (v ∷ vs) zero h = refl
type-binder (v ∷ vs) (suc k) h = type-binder vs k (omega (arith, h))

type-atom : (front : List HolType) (vs : List Variable) (k : ℕ) → suc k ≤ length front + length vs → type_under front (atom_term (atom_at (length front) vs k))
    ≡ slice_get (front ++ map (λ (v : Variable). v.1) vs) k
type-atom [] vs k h = type-binder vs k (omega (arith, h))
type-atom (f ∷ front) vs zero h = refl
type-atom (f ∷ front) vs (suc k) h = type-deeper f front (atom_at (length front) vs k) ∙ type-atom front vs k (omega (arith, h))

pub type-opened : (front : List HolType) (vs : List Variable) (t : Term) → loose t ≤ length front + length vs → type_under front (opened (length front) vs t)
    ≡ type_under (front ++ map (λ (v : Variable). v.1) vs) t
type-opened front vs (free n a) h = refl
type-opened front vs (bound k) h = type-atom front vs k h
type-opened front vs (constant n a) h = refl
type-opened front vs (app f x) h = ap₂ application_type (type-opened front vs f (omega (arith, h))) (type-opened front vs x (omega (arith, h)))
type-opened front vs (lam a b) h = ap (option_map (function a)) (type-opened (a ∷ front) vs b (omega (arith, h)))

-- How large it is
-- variables of these types, without names
abbrev pub unnamed : List HolType → List Variable
unnamed types = map (λ a. ([], a)) types

-- the binders of these types, the innermost first
abbrev pub binders : ℕ → List HolType → List Variable
binders q [] = []
binders q (a ∷ types) = (binder_name q (length (binders q types)), a) ∷ binders q types

pub length-binders : (q : ℕ) (types : List HolType) → length (binders q types) ≡ length types
length-binders q [] = refl
length-binders q (a ∷ types) = ap suc (length-binders q types)

pub types-binders : (q : ℕ) (types : List HolType) → map (λ (v : Variable). v.1) (binders q types) ≡ types
types-binders q [] = refl
types-binders q (a ∷ types) = ap (λ l. a ∷ l) (types-binders q types)

binder-type : (q : ℕ) (types : List HolType) (k : ℕ) → (binder_at (binders q types) k).1 ≡ (binder_at (unnamed types) k).1
binder-type q [] k = refl
binder-type q (a ∷ types) zero = refl
binder-type q (a ∷ types) (suc k) = binder-type q types k

-- two measures of a term
pub record HasMeasures (t u : Term) : Type 0 where
  pub size : term_size t ≡ term_size u
  pub depth : term_depth t ≡ term_depth u

pub deeper-measures : (a b : Atom) → HasMeasures (atom_term a) (atom_term b) → HasMeasures (atom_term (deeper a)) (atom_term (deeper b))
deeper-measures (stays n) (stays m) h = record { size = refl; depth = refl }
deeper-measures (stays n) (opens w) h = record { size = h.size; depth = h.depth }
deeper-measures (opens v) (stays m) h = record { size = h.size; depth = h.depth }
deeper-measures (opens v) (opens w) h = h

atom-measures : (d q : ℕ) (types : List HolType) (k : ℕ) → HasMeasures (atom_term (atom_at d (binders q types) k)) (atom_term (atom_at d (unnamed types) k))
atom-measures zero q types k = record { size = ap (λ a. 1 + type_size a) (binder-type q types k); depth = ap (λ a. 1 + type_depth a) (binder-type q types k) }
atom-measures (suc d) q types zero = record { size = refl; depth = refl }
atom-measures (suc d) q types (suc k) = deeper-measures (atom_at d (binders q types) k) (atom_at d (unnamed types) k) (atom-measures d q types k)

opened-measures : (d q : ℕ) (types : List HolType) (t : Term) → HasMeasures (opened d (binders q types) t) (opened d (unnamed types) t)
opened-measures d q types (free n a) = record { size = refl; depth = refl }
opened-measures d q types (bound k) = atom-measures d q types k
opened-measures d q types (constant n a) = record { size = refl; depth = refl }
opened-measures d q types (app f x) =
    let g = opened-measures d q types f in
    let y = opened-measures d q types x in
    record { size = ap₂ (λ m n. 1 + m + n) g.size y.size; depth = ap₂ (λ m n. 1 + max m n) g.depth y.depth }
opened-measures d q types (lam a b) =
    let c = opened-measures (suc d) q types b in
    record { size = ap (λ n. 1 + type_size a + n) c.size; depth = ap (λ n. 1 + max (type_depth a) n) c.depth }

-- so the names don't matter to the limits
pub opened-within : (q : ℕ) (types : List HolType) (t : Term) → TermWithin (opened 0 (unnamed types) t) → TermWithin (opened 0 (binders q types) t)
opened-within q types t h =
    let m = opened-measures 0 q types t in
    record { size = omega (arith, m.size, h.size); depth = omega (arith, m.depth, h.depth) }

-- No two binders are one
pub binders-apart : (q : ℕ) (types : List HolType) (m : ℕ) (a : HolType) → length types ≤ m → m < 2 ^ 64 → (j : ℕ)
    → variable_eq (binder_at (binders q types) j) (binder_name q m, a) ≡ false
binders-apart q [] m a h small j = refl
binders-apart q (b ∷ types) m a h small zero = ap (λ x. x && type_eq b a)
    (go (name_eq (binder_name q (length (binders q types))) (binder_name q m)) (name_eq-Decides (binder_name q (length (binders q types))) (binder_name q m)).0)
  where
    go : (x : Bool) → (x ≡ true → binder_name q (length (binders q types)) ≡ binder_name q m) → x ≡ false
    go false f = refl
    go true f =
        let e : binder_name q (length (binders q types)) ≡ binder_name q m = f refl in
        let c : binder_front q ++ decimal (length (binders q types)) ≡ binder_front q ++ decimal m = cc in
        let long : length (binders q types) ≡ length types = length-binders q types in
        let same : length (binders q types) ≡ m = decimal_injective (length (binders q types)) m (omega (arith, long, h, small)) small
        (append_cancel_left (binder_front q) (decimal (length (binders q types))) (decimal m) c) in
        absurd (omega (arith, long, same, h))
binders-apart q (b ∷ types) m a h small (suc j) = binders-apart q types m a (omega (arith, h)) small j
