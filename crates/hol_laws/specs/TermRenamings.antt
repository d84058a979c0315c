-- Renamings and replacements of bound numbers as functions of the number, how they compose, and that lifting and putting are such.
-- Source: Abadi, Cardelli, Curien and Lévy, "Explicit substitutions" (1991).
use Rattle.std.proofs.Common.{◌≡◌, ℕ, zero, suc, ◌+◌, ◌-◌, ◌<◌, ◌≤◌, refl, sym, ap, ◌∙◌, ◌⊎◌, ⊎_elim, inl, inr, arith, List, [], ◌∷◌, length, reverse, get_or, Option, Some, None}
use Rattle.std.specs.Prelude.{slice_get}
use Rattle.std.proofs.lemmas.List.{length-reverse}
use Rattle.std.proofs.lemmas.Option.{slice_get_cases}
use Rattle.std.specs.Option.{option_map_or}
use Rattle.std.proofs.lemmas.Bool.{cases_lt}
use Rattle.std.proofs.Math.Path.{fun_ext, ap₂}
use Rattle.hol_spec.specs.Terms.{Term, free, bound, constant, app, lam}
use Rattle.hol_spec.specs.TermBinding.{raised, lift_at, lift, put_bound, put_at, put, put_all_bound, put_all_at}

-- A renaming under a binder.
abbrev pub up : (ℕ → ℕ) → ℕ → ℕ
up r zero = zero
up r (suc n) = suc (r n)

abbrev pub rename : (ℕ → ℕ) → Term → Term
rename r (free name ty) = free name ty
rename r (bound n) = bound (r n)
rename r (constant name ty) = constant name ty
rename r (app f x) = app (rename r f) (rename r x)
rename r (lam a b) = lam a (rename (up r) b)

-- A replacement under a binder.
abbrev pub up_terms : (ℕ → Term) → ℕ → Term
up_terms s zero = bound zero
up_terms s (suc n) = rename suc (s n)

abbrev pub replace : (ℕ → Term) → Term → Term
replace s (free name ty) = free name ty
replace s (bound n) = s n
replace s (constant name ty) = constant name ty
replace s (app f x) = app (replace s f) (replace s x)
replace s (lam a b) = lam a (replace (up_terms s) b)

up_up : (r q : ℕ → ℕ) (n : ℕ) → up r (up q n) ≡ up (λ m. r (q m)) n
up_up r q zero = refl
up_up r q (suc n) = refl

pub rename_rename : (r q : ℕ → ℕ) (t : Term) → rename r (rename q t) ≡ rename (λ n. r (q n)) t
rename_rename r q (free name ty) = refl
rename_rename r q (bound n) = refl
rename_rename r q (constant name ty) = refl
rename_rename r q (app f x) = ap₂ app (rename_rename r q f) (rename_rename r q x)
rename_rename r q (lam a b) = ap (lam a) (rename_rename (up r) (up q) b ∙ ap (λ w. rename w b) (fun_ext (up_up r q)))

up_terms_up : (s : ℕ → Term) (q : ℕ → ℕ) (n : ℕ) → up_terms s (up q n) ≡ up_terms (λ m. s (q m)) n
up_terms_up s q zero = refl
up_terms_up s q (suc n) = refl

pub replace_rename : (s : ℕ → Term) (q : ℕ → ℕ) (t : Term) → replace s (rename q t) ≡ replace (λ n. s (q n)) t
replace_rename s q (free name ty) = refl
replace_rename s q (bound n) = refl
replace_rename s q (constant name ty) = refl
replace_rename s q (app f x) = ap₂ app (replace_rename s q f) (replace_rename s q x)
replace_rename s q (lam a b) = ap (lam a) (replace_rename (up_terms s) (up q) b ∙ ap (λ w. replace w b) (fun_ext (up_terms_up s q)))

rename_up_terms : (r : ℕ → ℕ) (s : ℕ → Term) (n : ℕ) → rename (up r) (up_terms s n) ≡ up_terms (λ m. rename r (s m)) n
rename_up_terms r s zero = refl
rename_up_terms r s (suc n) = rename_rename (up r) suc (s n) ∙ sym (rename_rename suc r (s n))

pub rename_replace : (r : ℕ → ℕ) (s : ℕ → Term) (t : Term) → rename r (replace s t) ≡ replace (λ n. rename r (s n)) t
rename_replace r s (free name ty) = refl
rename_replace r s (bound n) = refl
rename_replace r s (constant name ty) = refl
rename_replace r s (app f x) = ap₂ app (rename_replace r s f) (rename_replace r s x)
rename_replace r s (lam a b) = ap (lam a) (rename_replace (up r) (up_terms s) b ∙ ap (λ w. replace w b) (fun_ext (rename_up_terms r s)))

replace_up_terms : (s u : ℕ → Term) (n : ℕ) → replace (up_terms s) (up_terms u n) ≡ up_terms (λ m. replace s (u m)) n
replace_up_terms s u zero = refl
replace_up_terms s u (suc n) = replace_rename (up_terms s) suc (u n) ∙ sym (rename_replace suc s (u n))

pub replace_replace : (s u : ℕ → Term) (t : Term) → replace s (replace u t) ≡ replace (λ n. replace s (u n)) t
replace_replace s u (free name ty) = refl
replace_replace s u (bound n) = refl
replace_replace s u (constant name ty) = refl
replace_replace s u (app f x) = ap₂ app (replace_replace s u f) (replace_replace s u x)
replace_replace s u (lam a b) = ap (lam a) (replace_replace (up_terms s) (up_terms u) b ∙ ap (λ w. replace w b) (fun_ext (replace_up_terms s u)))

up_terms_bound : (n : ℕ) → up_terms bound n ≡ bound n
up_terms_bound zero = refl
up_terms_bound (suc n) = refl

pub replace_bound : (t : Term) → replace bound t ≡ t
replace_bound (free name ty) = refl
replace_bound (bound n) = refl
replace_bound (constant name ty) = refl
replace_bound (app f x) = ap₂ app (replace_bound f) (replace_bound x)
replace_bound (lam a b) = ap (lam a) (ap (λ w. replace w b) (fun_ext up_terms_bound) ∙ replace_bound b)

up_terms_rename : (r : ℕ → ℕ) (n : ℕ) → up_terms (λ m. bound (r m)) n ≡ bound (up r n)
up_terms_rename r zero = refl
up_terms_rename r (suc n) = refl

pub rename_is_replace : (r : ℕ → ℕ) (t : Term) → rename r t ≡ replace (λ n. bound (r n)) t
rename_is_replace r (free name ty) = refl
rename_is_replace r (bound n) = refl
rename_is_replace r (constant name ty) = refl
rename_is_replace r (app f x) = ap₂ app (rename_is_replace r f) (rename_is_replace r x)
rename_is_replace r (lam a b) = ap (lam a) (rename_is_replace (up r) b ∙ sym (ap (λ w. replace w b) (fun_ext (up_terms_rename r))))

-- Lifting and putting are such renamings and replacements.
up_raised : (c k n : ℕ) → up (raised c k) n ≡ raised (suc c) k n
up_raised c k zero = grind arith
up_raised c k (suc n) = grind arith

pub lift_at_is : (c k : ℕ) (t : Term) → lift_at c k t ≡ rename (raised c k) t
lift_at_is c k (free name ty) = refl
lift_at_is c k (bound n) = refl
lift_at_is c k (constant name ty) = refl
lift_at_is c k (app f x) = ap₂ app (lift_at_is c k f) (lift_at_is c k x)
lift_at_is c k (lam a b) = ap (lam a) (lift_at_is (suc c) k b ∙ sym (ap (λ w. rename w b) (fun_ext (up_raised c k))))

raised_zero : (n : ℕ) → raised 0 0 n ≡ n
raised_zero n = grind arith

pub lift_is : (k : ℕ) (t : Term) → lift k t ≡ rename (λ n. n + k) t
lift_is k t = lift_at_is 0 k t ∙ ap (λ w. rename w t) (fun_ext (λ n. grind arith))

pub rename_id : (t : Term) → rename (λ n. n) t ≡ t
rename_id t = rename_is_replace (λ n. n) t ∙ replace_bound t

pub lift_zero : (t : Term) → lift 0 t ≡ t
lift_zero t = lift_at_is 0 0 t ∙ ap (λ w. rename w t) (fun_ext raised_zero) ∙ rename_id t

pub suc_lift : (d : ℕ) (a : Term) → rename suc (lift d a) ≡ lift (suc d) a
suc_lift d a = ap (rename suc) (lift_is d a) ∙ rename_rename suc (λ n. n + d) a ∙ ap (λ w. rename w a) (fun_ext (λ n. grind arith)) ∙ sym (lift_is (suc d) a)

pub up_terms_put_bound : (d : ℕ) (a : Term) (n : ℕ) → up_terms (put_bound d a) n ≡ put_bound (suc d) a n
up_terms_put_bound d a zero = grind arith
up_terms_put_bound d a (suc n) = grind (arith, suc_lift)

pub put_at_is : (d : ℕ) (a t : Term) → put_at d a t ≡ replace (put_bound d a) t
put_at_is d a (free name ty) = refl
put_at_is d a (bound n) = refl
put_at_is d a (constant name ty) = refl
put_at_is d a (app f x) = ap₂ app (put_at_is d a f) (put_at_is d a x)
put_at_is d a (lam t b) = ap (lam t) (put_at_is (suc d) a b ∙ sym (ap (λ w. replace w b) (fun_ext (up_terms_put_bound d a))))

-- The term a for 0, and the others lowered.
abbrev pub cons : Term → (ℕ → Term) → ℕ → Term
cons a s zero = a
cons a s (suc n) = s n

put_bound_cons : (a : Term) (n : ℕ) → put_bound 0 a n ≡ cons a bound n
put_bound_cons a zero = lift_zero a
put_bound_cons a (suc n) = grind arith

pub put_is : (a t : Term) → put a t ≡ replace (cons a bound) t
put_is a t = put_at_is 0 a t ∙ ap (λ w. replace w t) (fun_ext (put_bound_cons a))

-- An argument that is lifted by one more.
option_map_or-lift : (d m : ℕ) (o : Option Term) → rename suc (option_map_or (lift d) o (bound m)) ≡ option_map_or (lift (suc d)) o (bound (suc m))
option_map_or-lift d m None = refl
option_map_or-lift d m (Some a) = suc_lift d a

-- A variable that passes d binders is an argument or a lower variable.
pub put_all_bound-high : (d : ℕ) (us : List Term) (n : ℕ) → d ≤ n
    → put_all_bound d us n ≡ option_map_or (lift d) (slice_get (reverse us) (n - d)) (bound (n - length us))
put_all_bound-high d us n h = grind arith

-- A variable for which there is no argument passes them all.
suc_lowered : (d : ℕ) (us : List Term) (n : ℕ)
    → option_map_or (lift (suc d)) (slice_get (reverse us) (n - d)) (bound (suc (n - length us)))
    ≡ option_map_or (lift (suc d)) (slice_get (reverse us) (n - d)) (bound (suc n - length us))
suc_lowered d us n = go (slice_get_cases (reverse us) (n - d)).1
  where
    go : ((x : Term) × (n - d < length (reverse us)) × (slice_get (reverse us) (n - d) ≡ Some x) × (get_or (reverse us) (n - d) x ≡ x))
        ⊎ ((length (reverse us) ≤ n - d) × (slice_get (reverse us) (n - d) ≡ None))
        → option_map_or (lift (suc d)) (slice_get (reverse us) (n - d)) (bound (suc (n - length us)))
        ≡ option_map_or (lift (suc d)) (slice_get (reverse us) (n - d)) (bound (suc n - length us))
    go (inl w) = rw w.2 refl
    go (inr w) = let e : suc (n - length us) ≡ suc n - length us = omega (arith, w.0, length-reverse us) in rw e refl

pub up_terms_put_all : (d : ℕ) (us : List Term) (n : ℕ) → up_terms (put_all_bound d us) n ≡ put_all_bound (suc d) us n
up_terms_put_all d us zero = grind arith
up_terms_put_all d us (suc n) = ⊎_elim (λ lt. grind arith) (λ ge. high ge) (cases_lt n d)
  where
    high : d ≤ n → rename suc (put_all_bound d us n) ≡ put_all_bound (suc d) us (suc n)
    high ge =
        let e : suc n - suc d ≡ n - d = omega arith in
        let l : suc d ≤ suc n = omega (arith, ge) in
        ap (rename suc) (put_all_bound-high d us n ge)
        ∙ option_map_or-lift d (n - length us) (slice_get (reverse us) (n - d))
        ∙ suc_lowered d us n
        ∙ sym (put_all_bound-high (suc d) us (suc n) l ∙ ap (λ i. option_map_or (lift (suc d)) (slice_get (reverse us) i) (bound (suc n - length us))) e)

pub put_all_at_is : (d : ℕ) (us : List Term) (t : Term) → put_all_at d us t ≡ replace (put_all_bound d us) t
put_all_at_is d us (free name ty) = refl
put_all_at_is d us (bound n) = refl
put_all_at_is d us (constant name ty) = refl
put_all_at_is d us (app f x) = ap₂ app (put_all_at_is d us f) (put_all_at_is d us x)
put_all_at_is d us (lam t b) = ap (lam t) (put_all_at_is (suc d) us b ∙ sym (ap (λ w. replace w b) (fun_ext (up_terms_put_all d us))))

-- To put one argument is to put a list of it.
pub put_all_at-one : (d : ℕ) (a t : Term) → put_all_at d (a ∷ []) t ≡ put_at d a t
put_all_at-one d a t = put_all_at_is d (a ∷ []) t ∙ ap (λ w. replace w t) (fun_ext (one d a)) ∙ sym (put_at_is d a t)
  where
    one : (d : ℕ) (a : Term) (n : ℕ) → put_all_bound d (a ∷ []) n ≡ put_bound d a n
    one d a n = ⊎_elim
        (λ lt. grind arith)
        (λ ge. ⊎_elim
        (λ same. let z : n - d ≡ 0 = omega (arith, ge, same) in
        let e : n ≡ d = omega (arith, ge, same) in
        put_all_bound-high d (a ∷ []) n ge ∙ ap (λ i. option_map_or (lift d) (slice_get (a ∷ []) i) (bound (n - 1))) z ∙ grind arith)
        (λ more. let z : n - d ≡ suc (n - d - 1) = omega (arith, more) in
        put_all_bound-high d (a ∷ []) n ge ∙ ap (λ i. option_map_or (lift d) (slice_get (a ∷ []) i) (bound (n - 1))) z ∙ grind arith)
        (cases_lt n (suc d)))
        (cases_lt n d)
