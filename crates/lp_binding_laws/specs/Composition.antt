-- How renamings and substitutions compose (Abadi, Cardelli, Curien and Lévy, 1991), and that lifting and putting are such.
use Rattle.std.proofs.Common.{◌≡◌, ℕ, zero, suc, ◌+◌, ◌-◌, ◌<◌, ◌≤◌, refl, sym, ap, ◌∙◌, ◌⊎◌, ⊎_elim, inl, inr, arith, List, [], ◌∷◌, length, reverse, get_or, Option, Some, None}
use Rattle.std.specs.Prelude.{slice_get}
use Rattle.std.proofs.lemmas.List.{length-reverse}
use Rattle.std.proofs.lemmas.Option.{slice_get_cases}
use Rattle.std.specs.Option.{option_map_or}
use Rattle.std.proofs.lemmas.Bool.{cases_lt}
use Rattle.std.proofs.Math.Path.{fun_ext, ap₂}
use Rattle.lp_spec.specs.Substitution.{up, ren, ups, sub, cons}
use Rattle.lp_spec.specs.Trees.{Tree, SortType, SortKind, Var, Sym, App, Lam, Pi, raised, lift_at, lift, put_var, put_at, put, put_all_var, put_all_at}

up_up : (r q : ℕ → ℕ) (n : ℕ) → up r (up q n) ≡ up (λ m. r (q m)) n
up_up r q zero = refl
up_up r q (suc n) = refl

pub ren_ren : (r q : ℕ → ℕ) (t : Tree) → ren r (ren q t) ≡ ren (λ n. r (q n)) t
ren_ren r q SortType = refl
ren_ren r q SortKind = refl
ren_ren r q (Var n) = refl
ren_ren r q (Sym s) = refl
ren_ren r q (App f x) = ap₂ App (ren_ren r q f) (ren_ren r q x)
ren_ren r q (Lam a b) = ap₂ Lam (ren_ren r q a) (ren_ren (up r) (up q) b ∙ ap (λ w. ren w b) (fun_ext (up_up r q)))
ren_ren r q (Pi a b) = ap₂ Pi (ren_ren r q a) (ren_ren (up r) (up q) b ∙ ap (λ w. ren w b) (fun_ext (up_up r q)))

ups_up : (s : ℕ → Tree) (q : ℕ → ℕ) (n : ℕ) → ups s (up q n) ≡ ups (λ m. s (q m)) n
ups_up s q zero = refl
ups_up s q (suc n) = refl

pub sub_ren : (s : ℕ → Tree) (q : ℕ → ℕ) (t : Tree) → sub s (ren q t) ≡ sub (λ n. s (q n)) t
sub_ren s q SortType = refl
sub_ren s q SortKind = refl
sub_ren s q (Var n) = refl
sub_ren s q (Sym x) = refl
sub_ren s q (App f x) = ap₂ App (sub_ren s q f) (sub_ren s q x)
sub_ren s q (Lam a b) = ap₂ Lam (sub_ren s q a) (sub_ren (ups s) (up q) b ∙ ap (λ w. sub w b) (fun_ext (ups_up s q)))
sub_ren s q (Pi a b) = ap₂ Pi (sub_ren s q a) (sub_ren (ups s) (up q) b ∙ ap (λ w. sub w b) (fun_ext (ups_up s q)))

ren_ups : (r : ℕ → ℕ) (s : ℕ → Tree) (n : ℕ) → ren (up r) (ups s n) ≡ ups (λ m. ren r (s m)) n
ren_ups r s zero = refl
ren_ups r s (suc n) = ren_ren (up r) suc (s n) ∙ sym (ren_ren suc r (s n))

pub ren_sub : (r : ℕ → ℕ) (s : ℕ → Tree) (t : Tree) → ren r (sub s t) ≡ sub (λ n. ren r (s n)) t
ren_sub r s SortType = refl
ren_sub r s SortKind = refl
ren_sub r s (Var n) = refl
ren_sub r s (Sym x) = refl
ren_sub r s (App f x) = ap₂ App (ren_sub r s f) (ren_sub r s x)
ren_sub r s (Lam a b) = ap₂ Lam (ren_sub r s a) (ren_sub (up r) (ups s) b ∙ ap (λ w. sub w b) (fun_ext (ren_ups r s)))
ren_sub r s (Pi a b) = ap₂ Pi (ren_sub r s a) (ren_sub (up r) (ups s) b ∙ ap (λ w. sub w b) (fun_ext (ren_ups r s)))

sub_ups : (s u : ℕ → Tree) (n : ℕ) → sub (ups s) (ups u n) ≡ ups (λ m. sub s (u m)) n
sub_ups s u zero = refl
sub_ups s u (suc n) = sub_ren (ups s) suc (u n) ∙ sym (ren_sub suc s (u n))

pub sub_sub : (s u : ℕ → Tree) (t : Tree) → sub s (sub u t) ≡ sub (λ n. sub s (u n)) t
sub_sub s u SortType = refl
sub_sub s u SortKind = refl
sub_sub s u (Var n) = refl
sub_sub s u (Sym x) = refl
sub_sub s u (App f x) = ap₂ App (sub_sub s u f) (sub_sub s u x)
sub_sub s u (Lam a b) = ap₂ Lam (sub_sub s u a) (sub_sub (ups s) (ups u) b ∙ ap (λ w. sub w b) (fun_ext (sub_ups s u)))
sub_sub s u (Pi a b) = ap₂ Pi (sub_sub s u a) (sub_sub (ups s) (ups u) b ∙ ap (λ w. sub w b) (fun_ext (sub_ups s u)))

ups_var : (n : ℕ) → ups Var n ≡ Var n
ups_var zero = refl
ups_var (suc n) = refl

pub sub_var : (t : Tree) → sub Var t ≡ t
sub_var SortType = refl
sub_var SortKind = refl
sub_var (Var n) = refl
sub_var (Sym x) = refl
sub_var (App f x) = ap₂ App (sub_var f) (sub_var x)
sub_var (Lam a b) = ap₂ Lam (sub_var a) (ap (λ w. sub w b) (fun_ext ups_var) ∙ sub_var b)
sub_var (Pi a b) = ap₂ Pi (sub_var a) (ap (λ w. sub w b) (fun_ext ups_var) ∙ sub_var b)

ups_ren : (r : ℕ → ℕ) (n : ℕ) → ups (λ m. Var (r m)) n ≡ Var (up r n)
ups_ren r zero = refl
ups_ren r (suc n) = refl

pub ren_is_sub : (r : ℕ → ℕ) (t : Tree) → ren r t ≡ sub (λ n. Var (r n)) t
ren_is_sub r SortType = refl
ren_is_sub r SortKind = refl
ren_is_sub r (Var n) = refl
ren_is_sub r (Sym x) = refl
ren_is_sub r (App f x) = ap₂ App (ren_is_sub r f) (ren_is_sub r x)
ren_is_sub r (Lam a b) = ap₂ Lam (ren_is_sub r a) (ren_is_sub (up r) b ∙ sym (ap (λ w. sub w b) (fun_ext (ups_ren r))))
ren_is_sub r (Pi a b) = ap₂ Pi (ren_is_sub r a) (ren_is_sub (up r) b ∙ sym (ap (λ w. sub w b) (fun_ext (ups_ren r))))

-- the words of the specification are such renamings and substitutions
up_raised : (c k n : ℕ) → up (raised c k) n ≡ raised (suc c) k n
up_raised c k zero = grind arith
up_raised c k (suc n) = grind arith

pub lift_at_is : (c k : ℕ) (t : Tree) → lift_at c k t ≡ ren (raised c k) t
lift_at_is c k SortType = refl
lift_at_is c k SortKind = refl
lift_at_is c k (Var n) = refl
lift_at_is c k (Sym s) = refl
lift_at_is c k (App f x) = ap₂ App (lift_at_is c k f) (lift_at_is c k x)
lift_at_is c k (Lam a b) = ap₂ Lam (lift_at_is c k a) (lift_at_is (suc c) k b ∙ sym (ap (λ w. ren w b) (fun_ext (up_raised c k))))
lift_at_is c k (Pi a b) = ap₂ Pi (lift_at_is c k a) (lift_at_is (suc c) k b ∙ sym (ap (λ w. ren w b) (fun_ext (up_raised c k))))

raised_zero : (n : ℕ) → raised 0 0 n ≡ n
raised_zero n = grind arith

pub lift_is : (k : ℕ) (t : Tree) → lift k t ≡ ren (λ n. n + k) t
lift_is k t = lift_at_is 0 k t ∙ ap (λ w. ren w t) (fun_ext (λ n. grind arith))

pub ren_id : (t : Tree) → ren (λ n. n) t ≡ t
ren_id t = ren_is_sub (λ n. n) t ∙ sub_var t

pub lift_zero : (t : Tree) → lift 0 t ≡ t
lift_zero t = lift_at_is 0 0 t ∙ ap (λ w. ren w t) (fun_ext raised_zero) ∙ ren_id t

pub suc_lift : (d : ℕ) (a : Tree) → ren suc (lift d a) ≡ lift (suc d) a
suc_lift d a = ap (ren suc) (lift_is d a) ∙ ren_ren suc (λ n. n + d) a ∙ ap (λ w. ren w a) (fun_ext (λ n. grind arith)) ∙ sym (lift_is (suc d) a)

pub ups_put_var : (d : ℕ) (a : Tree) (n : ℕ) → ups (put_var d a) n ≡ put_var (suc d) a n
ups_put_var d a zero = grind arith
ups_put_var d a (suc n) = grind (arith, suc_lift)

pub put_at_is : (d : ℕ) (a t : Tree) → put_at d a t ≡ sub (put_var d a) t
put_at_is d a SortType = refl
put_at_is d a SortKind = refl
put_at_is d a (Var n) = refl
put_at_is d a (Sym s) = refl
put_at_is d a (App f x) = ap₂ App (put_at_is d a f) (put_at_is d a x)
put_at_is d a (Lam t b) = ap₂ Lam (put_at_is d a t) (put_at_is (suc d) a b ∙ sym (ap (λ w. sub w b) (fun_ext (ups_put_var d a))))
put_at_is d a (Pi t b) = ap₂ Pi (put_at_is d a t) (put_at_is (suc d) a b ∙ sym (ap (λ w. sub w b) (fun_ext (ups_put_var d a))))

put_var_cons : (a : Tree) (n : ℕ) → put_var 0 a n ≡ cons a Var n
put_var_cons a zero = lift_zero a
put_var_cons a (suc n) = grind arith

pub put_is : (a t : Tree) → put a t ≡ sub (cons a Var) t
put_is a t = put_at_is 0 a t ∙ ap (λ w. sub w t) (fun_ext (put_var_cons a))

-- an argument that is lifted by one more
option_map_or-lift : (d m : ℕ) (o : Option Tree) → ren suc (option_map_or (lift d) o (Var m)) ≡ option_map_or (lift (suc d)) o (Var (suc m))
option_map_or-lift d m None = refl
option_map_or-lift d m (Some a) = suc_lift d a

-- a variable that passes d binders is an argument or a lower variable
pub put_all_var-high : (d : ℕ) (us : List Tree) (n : ℕ) → d ≤ n
    → put_all_var d us n ≡ option_map_or (lift d) (slice_get (reverse us) (n - d)) (Var (n - length us))
put_all_var-high d us n h = grind arith

-- a variable for which there is no argument passes them all
suc_lowered : (d : ℕ) (us : List Tree) (n : ℕ)
    → option_map_or (lift (suc d)) (slice_get (reverse us) (n - d)) (Var (suc (n - length us)))
    ≡ option_map_or (lift (suc d)) (slice_get (reverse us) (n - d)) (Var (suc n - length us))
suc_lowered d us n = go (slice_get_cases (reverse us) (n - d)).1
  where
    go : ((x : Tree) × (n - d < length (reverse us)) × (slice_get (reverse us) (n - d) ≡ Some x) × (get_or (reverse us) (n - d) x ≡ x))
        ⊎ ((length (reverse us) ≤ n - d) × (slice_get (reverse us) (n - d) ≡ None))
        → option_map_or (lift (suc d)) (slice_get (reverse us) (n - d)) (Var (suc (n - length us)))
        ≡ option_map_or (lift (suc d)) (slice_get (reverse us) (n - d)) (Var (suc n - length us))
    go (inl w) = rw w.2 refl
    go (inr w) = let e : suc (n - length us) ≡ suc n - length us = omega (arith, w.0, length-reverse us) in rw e refl

pub ups_put_all : (d : ℕ) (us : List Tree) (n : ℕ) → ups (put_all_var d us) n ≡ put_all_var (suc d) us n
ups_put_all d us zero = grind arith
ups_put_all d us (suc n) = ⊎_elim (λ lt. grind arith) (λ ge. high ge) (cases_lt n d)
  where
    high : d ≤ n → ren suc (put_all_var d us n) ≡ put_all_var (suc d) us (suc n)
    high ge =
        let e : suc n - suc d ≡ n - d = omega arith in
        let l : suc d ≤ suc n = omega (arith, ge) in
        ap (ren suc) (put_all_var-high d us n ge)
        ∙ option_map_or-lift d (n - length us) (slice_get (reverse us) (n - d))
        ∙ suc_lowered d us n
        ∙ sym (put_all_var-high (suc d) us (suc n) l ∙ ap (λ i. option_map_or (lift (suc d)) (slice_get (reverse us) i) (Var (suc n - length us))) e)

pub put_all_at_is : (d : ℕ) (us : List Tree) (t : Tree) → put_all_at d us t ≡ sub (put_all_var d us) t
put_all_at_is d us SortType = refl
put_all_at_is d us SortKind = refl
put_all_at_is d us (Var n) = refl
put_all_at_is d us (Sym s) = refl
put_all_at_is d us (App f x) = ap₂ App (put_all_at_is d us f) (put_all_at_is d us x)
put_all_at_is d us (Lam t b) = ap₂ Lam (put_all_at_is d us t) (put_all_at_is (suc d) us b ∙ sym (ap (λ w. sub w b) (fun_ext (ups_put_all d us))))
put_all_at_is d us (Pi t b) = ap₂ Pi (put_all_at_is d us t) (put_all_at_is (suc d) us b ∙ sym (ap (λ w. sub w b) (fun_ext (ups_put_all d us))))

-- to put one argument is to put a list of it
pub put_all_at-one : (d : ℕ) (a t : Tree) → put_all_at d (a ∷ []) t ≡ put_at d a t
put_all_at-one d a t = put_all_at_is d (a ∷ []) t ∙ ap (λ w. sub w t) (fun_ext (one d a)) ∙ sym (put_at_is d a t)
  where
    one : (d : ℕ) (a : Tree) (n : ℕ) → put_all_var d (a ∷ []) n ≡ put_var d a n
    one d a n = ⊎_elim
        (λ lt. grind arith)
        (λ ge. ⊎_elim
        (λ same. let z : n - d ≡ 0 = omega (arith, ge, same) in
        let e : n ≡ d = omega (arith, ge, same) in
        put_all_var-high d (a ∷ []) n ge ∙ ap (λ i. option_map_or (lift d) (slice_get (a ∷ []) i) (Var (n - 1))) z ∙ grind arith)
        (λ more. let z : n - d ≡ suc (n - d - 1) = omega (arith, more) in
        put_all_var-high d (a ∷ []) n ge ∙ ap (λ i. option_map_or (lift d) (slice_get (a ∷ []) i) (Var (n - 1))) z ∙ grind arith)
        (cases_lt n (suc d)))
        (cases_lt n d)

-- what was lifted over the variable of its place, with that variable put, is itself again
pub put-lift_at : (t : Tree) → put (Var 0) (lift_at 1 1 t) ≡ t
put-lift_at t = put_is (Var 0) (lift_at 1 1 t) ∙ ap (sub (cons (Var 0) Var)) (lift_at_is 1 1 t) ∙ sub_ren (cons (Var 0) Var) (raised 1 1) t
    ∙ ap (λ w. sub w t) (fun_ext each) ∙ sub_var t
  where
    low : raised 1 1 0 ≡ 0
    low = grind arith

    high : (n : ℕ) → raised 1 1 (suc n) ≡ suc (suc n)
    high n = grind arith

    each : (n : ℕ) → cons (Var 0) Var (raised 1 1 n) ≡ Var n
    each zero = ap (cons (Var 0) Var) low
    each (suc n) = ap (cons (Var 0) Var) (high n)
