-- An abstraction is built where its body was, with the variable in place.
use Rattle.std.proofs.Common.{◌≡◌, ℕ, zero, suc, ◌+◌, max, Bool, true, false, cond, List, [], ◌∷◌, ◌++◌, length, refl, sym, ap, ap₂, subst, ◌∙◌, arith, nat_lt}
use Rattle.std.proofs.lemmas.Bool.Decides.{nat_tests}
use Rattle.hol_spec.specs.Types.{HolType}
use Rattle.hol_spec.specs.Limits.{TermWithin, term_size, term_depth, type_size, type_depth}
use Rattle.hol_spec.specs.Terms.{Term, free, bound, constant, app, lam, Variable, variable_eq}
use Rattle.hol_laws.specs.TermLaws.{variable_eq-Decides}
use Rattle.hol_spec.specs.TermBinding.{raised, close_at}
use Rattle.article_write_spec.specs.WrittenTerms.{binder_at}
use Rattle.article_write_laws.specs.Opened.{opens, atom_at, atom_term, opened, unnamed, HasMeasures, deeper-measures, raised-suc}
use Rattle.article_write_laws.specs.Built.{IsBuilt}

same-measures : (t u : Term) → t ≡ u → HasMeasures t u
same-measures t u e = record { size = ap term_size e; depth = ap term_depth e }

-- the types at the places of the loose numbers
place-type : (front back : List HolType) (a : HolType) (k : ℕ)
    → (binder_at (unnamed (front ++ a ∷ back)) (raised (length front) 1 k)).1 ≡ (binder_at (unnamed (front ++ back)) k).1
place-type [] back a k = let e : nat_lt k 0 ≡ false = grind (arith, nat_tests) in let f : k + 1 ≡ suc k =
    omega arith in ap (λ b. (binder_at (unnamed (a ∷ back)) (cond b k (k + 1))).1) e ∙ ap (λ j. (binder_at (unnamed (a ∷ back)) j).1) f
place-type (f ∷ front) back a zero = let e : nat_lt 0 (suc (length front)) ≡ true =
    grind (arith, nat_tests) in ap (λ b. (binder_at (unnamed (f ∷ (front ++ a ∷ back))) (cond b 0 (0 + 1))).1) e
place-type (f ∷ front) back a (suc k) = ap (λ j. (binder_at (unnamed (f ∷ (front ++ a ∷ back))) j).1) (raised-suc (length front) k) ∙ place-type front back a k

own-type : (front back : List HolType) (a : HolType) → (binder_at (unnamed (front ++ a ∷ back)) (length front)).1 ≡ a
own-type [] back a = refl
own-type (f ∷ front) back a = own-type front back a

opens-measures : (v w : Variable) → v.1 ≡ w.1 → HasMeasures (free v.0 v.1) (free w.0 w.1)
opens-measures v w e = record { size = ap (λ a. 1 + type_size a) e; depth = ap (λ a. 1 + type_depth a) e }

bound-measures : (e : ℕ) (front back : List HolType) (a : HolType) (k : ℕ)
    → HasMeasures (atom_term (atom_at e (unnamed (front ++ a ∷ back)) (raised (e + length front) 1 k))) (atom_term (atom_at e (unnamed (front ++ back)) k))
bound-measures zero front back a k =
    let z : 0 + length front ≡ length front = omega arith in
    subst (λ j. HasMeasures (atom_term (atom_at 0 (unnamed (front ++ a ∷ back)) (raised j 1 k))) (atom_term (atom_at 0 (unnamed (front ++ back)) k))) (sym z)
    (opens-measures (binder_at (unnamed (front ++ a ∷ back)) (raised (length front) 1 k)) (binder_at (unnamed (front ++ back)) k) (place-type front back a k))
bound-measures (suc e) front back a zero =
    let z : nat_lt 0 (suc e + length front) ≡ true = grind (arith, nat_tests) in
    same-measures _ _ (ap (λ b. atom_term (atom_at (suc e) (unnamed (front ++ a ∷ back)) (cond b 0 (0 + 1)))) z)
bound-measures (suc e) front back a (suc k) =
    let z : suc e + length front ≡ suc (e + length front) = omega arith in
    subst (λ j. HasMeasures (atom_term (atom_at (suc e) (unnamed (front ++ a ∷ back)) j)) (atom_term (atom_at (suc e) (unnamed (front ++ back)) (suc k))))
    (sym (ap (λ d. raised d 1 (suc k)) z ∙ raised-suc (e + length front) k))
    (deeper-measures (atom_at e (unnamed (front ++ a ∷ back)) (raised (e + length front) 1 k)) (atom_at e (unnamed (front ++ back)) k)
    (bound-measures e front back a k))

own-measures : (e : ℕ) (front back : List HolType) (v : Variable)
    → HasMeasures (atom_term (atom_at e (unnamed (front ++ v.1 ∷ back)) (e + length front))) (free v.0 v.1)
own-measures zero front back v =
    let z : 0 + length front ≡ length front = omega arith in
    subst (λ j. HasMeasures (atom_term (atom_at 0 (unnamed (front ++ v.1 ∷ back)) j)) (free v.0 v.1)) (sym z)
    (opens-measures (binder_at (unnamed (front ++ v.1 ∷ back)) (length front)) v (own-type front back v.1))
own-measures (suc e) front back v =
    let z : suc e + length front ≡ suc (e + length front) = omega arith in
    subst (λ j. HasMeasures (atom_term (atom_at (suc e) (unnamed (front ++ v.1 ∷ back)) j)) (free v.0 v.1)) (sym z)
    (deeper-measures (atom_at e (unnamed (front ++ v.1 ∷ back)) (e + length front)) (opens v) (own-measures e front back v))

closed-measures : (e : ℕ) (front back : List HolType) (v : Variable) (t : Term)
    → HasMeasures (opened e (unnamed (front ++ v.1 ∷ back)) (close_at (e + length front) v t)) (opened e (unnamed (front ++ back)) t)
closed-measures e front back v (free n a) = go (variable_eq (n, a) v) (variable_eq-Decides (n, a) v).0
  where
    go : (b : Bool) → (b ≡ true → (n, a) ≡ v) → HasMeasures (opened e (unnamed (front ++ v.1 ∷ back)) (cond b (bound (e + length front)) (free n a))) (free n a)
    go false f = same-measures _ _ refl
    go true f = subst (λ (w : Variable). HasMeasures (atom_term (atom_at e (unnamed (front ++ v.1 ∷ back)) (e + length front))) (free w.0 w.1)) (sym (f refl))
        (own-measures e front back v)
closed-measures e front back v (bound k) = bound-measures e front back v.1 k
closed-measures e front back v (constant n a) = same-measures _ _ refl
closed-measures e front back v (app f x) =
    let g = closed-measures e front back v f in
    let y = closed-measures e front back v x in
    record { size = ap₂ (λ m n. 1 + m + n) g.size y.size; depth = ap₂ (λ m n. 1 + max m n) g.depth y.depth }
closed-measures e front back v (lam a b) =
    let z : suc e + length front ≡ suc (e + length front) = omega arith in
    let c = subst (λ j. HasMeasures (opened (suc e) (unnamed (front ++ v.1 ∷ back)) (close_at j v b)) (opened (suc e) (unnamed (front ++ back)) b)) z
    (closed-measures (suc e) front back v b) in
    record { size = ap (λ n. 1 + type_size a + n) c.size; depth = ap (λ n. 1 + max (type_depth a) n) c.depth }

within-alike : (t u : Term) → HasMeasures t u → TermWithin u → TermWithin t
within-alike t u m h = record { size = omega (arith, m.size, h.size); depth = omega (arith, m.depth, h.depth) }

part-within : (front back : List HolType) (v : Variable) (t : Term) → TermWithin (opened 0 (unnamed (front ++ back)) t)
    → TermWithin (opened 0 (unnamed (front ++ v.1 ∷ back)) (close_at (length front) v t))
part-within front back v t h =
    let z : 0 + length front ≡ length front = omega arith in
    within-alike _ _
    (subst (λ j. HasMeasures (opened 0 (unnamed (front ++ v.1 ∷ back)) (close_at j v t)) (opened 0 (unnamed (front ++ back)) t)) z
    (closed-measures 0 front back v t)) h

-- what was built stays built when a variable is closed
pub close-built : (front back : List HolType) (v : Variable) (t : Term) → IsBuilt (front ++ back) t
    → IsBuilt (front ++ v.1 ∷ back) (close_at (length front) v t)
close-built front back v (free n a) h = go (variable_eq (n, a) v) (part-within front back v (free n a) h)
  where
    go : (b : Bool) → TermWithin (opened 0 (unnamed (front ++ v.1 ∷ back)) (cond b (bound (length front)) (free n a)))
        → IsBuilt (front ++ v.1 ∷ back) (cond b (bound (length front)) (free n a))
    go true k = k
    go false k = k
close-built front back v (bound k) h = part-within front back v (bound k) h
close-built front back v (constant n a) h = h
close-built front back v (app f x) h = (part-within front back v (app f x) h.0, (close-built front back v f h.1.0, close-built front back v x h.1.1))
close-built front back v (lam a b) h = (part-within front back v (lam a b) h.0, close-built (a ∷ front) back v b h.1)
