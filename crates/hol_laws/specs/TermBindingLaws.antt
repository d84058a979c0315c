-- The laws of binding in terms: how lifting and putting compose.
-- Source: Huet, "Residual theory in lambda-calculus" (1994).
use Rattle.std.proofs.Common.{◌≡◌, ℕ, zero, suc, ◌+◌, ◌-◌, ◌≤◌, refl, sym, ap, ◌∙◌, arith, List, [], ◌∷◌, ◌++◌, length, reverse}
use Rattle.std.specs.Prelude.{slice_get}
use Rattle.std.specs.Option.{option_map_or}
use Rattle.std.proofs.lemmas.List.{length-reverse, reverse-append}
use Rattle.std.proofs.Math.Path.{fun_ext}
use Rattle.hol_spec.specs.Terms.{Term, bound}
use Rattle.hol_spec.specs.TermBinding.{raised, lift, put_bound, put_at, put, put_all_bound, put_all}
use Rattle.hol_laws.specs.TermRenamings.{rename, replace, cons, rename_rename, replace_rename, replace_replace, replace_bound, lift_at_is, lift_is, suc_lift, up_terms_put_bound, put_at_is, put_is, put_all_at_is, put_all_bound-high}

raised_raised : (j k n : ℕ) → raised 0 j (raised 0 k n) ≡ raised 0 (j + k) n
raised_raised j k n = grind arith

pub lift-lift : (j k : ℕ) (t : Term) → lift j (lift k t) ≡ lift (j + k) t
lift-lift j k t =
    ap (λ u. lift j u) (lift_at_is 0 k t) ∙ lift_at_is 0 j (rename (raised 0 k) t) ∙ rename_rename (raised 0 j) (raised 0 k) t
    ∙ ap (λ w. rename w t) (fun_ext (raised_raised j k)) ∙ sym (lift_at_is 0 (j + k) t)

pub put-lift : (a t : Term) → put a (lift 1 t) ≡ t
put-lift a t =
    put_is a (lift 1 t) ∙ ap (replace (cons a bound)) (lift_is 1 t) ∙ replace_rename (cons a bound) (λ n. n + 1) t
    ∙ ap (λ w. replace w t) (fun_ext (λ n. let e : n + 1 ≡ suc n = omega arith in ap (cons a bound) e)) ∙ replace_bound t

put_put_bound : (d : ℕ) (a b : Term) (n : ℕ) → replace (put_bound d b) (cons a bound n) ≡ replace (cons (put_at d b a) bound) (put_bound (suc d) b n)
put_put_bound d a b zero = sym (put_at_is d b a) ∙ ap (replace (cons (put_at d b a) bound)) (up_terms_put_bound d b zero)
put_put_bound d a b (suc n) =
    sym (replace_bound (put_bound d b n)) ∙ sym (replace_rename (cons (put_at d b a) bound) suc (put_bound d b n))
    ∙ ap (replace (cons (put_at d b a) bound)) (up_terms_put_bound d b (suc n))

pub put_at-put : (d : ℕ) (a b t : Term) → put_at d b (put a t) ≡ put (put_at d b a) (put_at (suc d) b t)
put_at-put d a b t =
    put_at_is d b (put a t) ∙ ap (replace (put_bound d b)) (put_is a t) ∙ replace_replace (put_bound d b) (cons a bound) t
    ∙ ap (λ w. replace w t) (fun_ext (put_put_bound d a b))
    ∙ sym (replace_replace (cons (put_at d b a) bound) (put_bound (suc d) b) t)
    ∙ sym (ap (replace (cons (put_at d b a) bound)) (put_at_is (suc d) b t)) ∙ sym (put_is (put_at d b a) (put_at (suc d) b t))

-- The arguments put one after another, the last first, each lifted by the number still to come, where k more come after them.
abbrev pub puts : ℕ → List Term → Term → Term
puts k [] t = t
puts k (u ∷ us) t = put (lift k u) (puts (suc k) us t)

-- What the puts of a list put for a variable.
abbrev list_var : ℕ → List Term → ℕ → Term
list_var k [] n = bound n
list_var k (u ∷ us) n = replace (cons (lift k u) bound) (list_var (suc k) us n)

puts_is : (k : ℕ) (us : List Term) (t : Term) → puts k us t ≡ replace (list_var k us) t
puts_is k [] t = sym (replace_bound t)
puts_is k (u ∷ us) t = put_is (lift k u) (puts (suc k) us t) ∙ ap (replace (cons (lift k u) bound)) (puts_is (suc k) us t) ∙ replace_replace
    (cons (lift k u) bound) (list_var (suc k) us) t

cons_lift : (k : ℕ) (u a : Term) → replace (cons (lift k u) bound) (lift (suc k) a) ≡ lift k a
cons_lift k u a = ap (replace (cons (lift k u) bound)) (sym (suc_lift k a)) ∙ replace_rename (cons (lift k u) bound) suc (lift k a) ∙ replace_bound (lift k a)

-- A put more among the variables of a list.
module _ (k : ℕ) (u : Term) where
  one_more : (xs : List Term) (n : ℕ)
      → replace (cons (lift k u) bound) (option_map_or (lift (suc k)) (slice_get xs n) (bound (n - length xs)))
      ≡ option_map_or (lift k) (slice_get (xs ++ u ∷ []) n) (bound (n - suc (length xs)))
  one_more [] zero = refl
  one_more [] (suc n) =
      let a : suc n - 0 ≡ suc n = omega arith in
      let b : n ≡ suc n - 1 = omega arith in
      ap (cons (lift k u) bound) a ∙ ap bound b
  one_more (x ∷ xs) zero = cons_lift k u x
  one_more (x ∷ xs) (suc n) =
      let a : suc n - suc (length xs) ≡ n - length xs = omega arith in
      let b : n - suc (length xs) ≡ suc n - suc (suc (length xs)) = omega arith in
      ap (λ m. replace (cons (lift k u) bound) (option_map_or (lift (suc k)) (slice_get xs n) (bound m))) a
      ∙ one_more xs n
      ∙ ap (λ m. option_map_or (lift k) (slice_get (xs ++ u ∷ []) n) (bound m)) b

-- The puts put for a variable the argument at its number from the end.
pub list_var_is : (k : ℕ) (us : List Term) (n : ℕ) → list_var k us n ≡ option_map_or (lift k) (slice_get (reverse us) n) (bound (n - length us))
list_var_is k [] n = let e : n ≡ n - 0 = omega arith in ap bound e
list_var_is k (u ∷ us) n =
    ap (replace (cons (lift k u) bound)) (list_var_is (suc k) us n
    ∙ ap (λ m. option_map_or (lift (suc k)) (slice_get (reverse us) n) (bound (n - m))) (sym (length-reverse us)))
    ∙ one_more k u (reverse us) n
    ∙ ap (λ m. option_map_or (lift k) (slice_get (reverse us ++ u ∷ []) n) (bound (n - suc m))) (length-reverse us)
    ∙ ap (λ xs. option_map_or (lift k) (slice_get xs n) (bound (n - suc (length us)))) (sym (reverse-append (u ∷ []) us))

-- To put a list is to put its terms one after another.
pub put_all-puts : (us : List Term) (t : Term) → put_all us t ≡ puts 0 us t
put_all-puts us t =
    put_all_at_is 0 us t ∙ ap (λ w. replace w t) (fun_ext (λ n. first n ∙ sym (list_var_is 0 us n))) ∙ sym (puts_is 0 us t)
  where
    first : (n : ℕ) → put_all_bound 0 us n ≡ option_map_or (lift 0) (slice_get (reverse us) n) (bound (n - length us))
    first n = let h : 0 ≤ n = omega arith in let e : n - 0 ≡ n = omega arith in
        put_all_bound-high 0 us n h ∙ ap (λ i. option_map_or (lift 0) (slice_get (reverse us) i) (bound (n - length us))) e
