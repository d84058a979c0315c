-- The laws of binding: how lifting and putting compose (Huet, Residual theory in lambda-calculus, 1994).
use Rattle.std.proofs.Common.{◌≡◌, ℕ, zero, suc, ◌+◌, ◌-◌, ◌<◌, ◌≤◌, refl, sym, ap, ◌∙◌, arith, List, [], ◌∷◌, ◌++◌, length, reverse}
use Rattle.std.specs.Prelude.{slice_get}
use Rattle.std.specs.Option.{option_map_or}
use Rattle.std.proofs.lemmas.List.{length-reverse, reverse-append}
use Rattle.std.proofs.Math.Path.{fun_ext}
use Rattle.lp_spec.specs.Trees.{Tree, SortType, SortKind, Var, Sym, App, Lam, Pi, size, raised, lift, put_var, put_at, put, put_all_var, put_all}
use Rattle.lp_spec.specs.Substitution.{ren, sub, cons}
use Rattle.lp_binding_laws.specs.Composition.{ren_ren, sub_ren, sub_sub, sub_var, lift_at_is, lift_is, suc_lift, ups_put_var, put_at_is, put_is, put_all_at_is, put_all_var-high}

raised_raised : (j k n : ℕ) → raised 0 j (raised 0 k n) ≡ raised 0 (j + k) n
raised_raised j k n = grind arith

pub lift-lift : (j k : ℕ) (t : Tree) → lift j (lift k t) ≡ lift (j + k) t
lift-lift j k t =
    ap (λ u. lift j u) (lift_at_is 0 k t) ∙ lift_at_is 0 j (ren (raised 0 k) t) ∙ ren_ren (raised 0 j) (raised 0 k) t
    ∙ ap (λ w. ren w t) (fun_ext (raised_raised j k)) ∙ sym (lift_at_is 0 (j + k) t)

pub put-lift : (a t : Tree) → put a (lift 1 t) ≡ t
put-lift a t =
    put_is a (lift 1 t) ∙ ap (sub (cons a Var)) (lift_is 1 t) ∙ sub_ren (cons a Var) (λ n. n + 1) t
    ∙ ap (λ w. sub w t) (fun_ext (λ n. let e : n + 1 ≡ suc n = omega arith in ap (cons a Var) e)) ∙ sub_var t

put_put_var : (d : ℕ) (a b : Tree) (n : ℕ) → sub (put_var d b) (cons a Var n) ≡ sub (cons (put_at d b a) Var) (put_var (suc d) b n)
put_put_var d a b zero = sym (put_at_is d b a) ∙ ap (sub (cons (put_at d b a) Var)) (ups_put_var d b zero)
put_put_var d a b (suc n) =
    sym (sub_var (put_var d b n)) ∙ sym (sub_ren (cons (put_at d b a) Var) suc (put_var d b n))
    ∙ ap (sub (cons (put_at d b a) Var)) (ups_put_var d b (suc n))

pub put_at-put : (d : ℕ) (a b t : Tree) → put_at d b (put a t) ≡ put (put_at d b a) (put_at (suc d) b t)
put_at-put d a b t =
    put_at_is d b (put a t) ∙ ap (sub (put_var d b)) (put_is a t) ∙ sub_sub (put_var d b) (cons a Var) t
    ∙ ap (λ w. sub w t) (fun_ext (put_put_var d a b))
    ∙ sym (sub_sub (cons (put_at d b a) Var) (put_var (suc d) b) t)
    ∙ sym (ap (sub (cons (put_at d b a) Var)) (put_at_is (suc d) b t)) ∙ sym (put_is (put_at d b a) (put_at (suc d) b t))

-- the arguments put one after another, the last first, each lifted by the number still to come, where k more come after them
abbrev pub puts : ℕ → List Tree → Tree → Tree
puts k [] t = t
puts k (u ∷ us) t = put (lift k u) (puts (suc k) us t)

-- what the puts of a list put for a variable
abbrev list_var : ℕ → List Tree → ℕ → Tree
list_var k [] n = Var n
list_var k (u ∷ us) n = sub (cons (lift k u) Var) (list_var (suc k) us n)

puts_is : (k : ℕ) (us : List Tree) (t : Tree) → puts k us t ≡ sub (list_var k us) t
puts_is k [] t = sym (sub_var t)
puts_is k (u ∷ us) t = put_is (lift k u) (puts (suc k) us t) ∙ ap (sub (cons (lift k u) Var)) (puts_is (suc k) us t) ∙ sub_sub (cons (lift k u) Var)
    (list_var (suc k) us) t

cons_lift : (k : ℕ) (u a : Tree) → sub (cons (lift k u) Var) (lift (suc k) a) ≡ lift k a
cons_lift k u a = ap (sub (cons (lift k u) Var)) (sym (suc_lift k a)) ∙ sub_ren (cons (lift k u) Var) suc (lift k a) ∙ sub_var (lift k a)

-- a put more among the variables of a list
module _ (k : ℕ) (u : Tree) where
  one_more : (xs : List Tree) (n : ℕ)
      → sub (cons (lift k u) Var) (option_map_or (lift (suc k)) (slice_get xs n) (Var (n - length xs)))
      ≡ option_map_or (lift k) (slice_get (xs ++ u ∷ []) n) (Var (n - suc (length xs)))
  one_more [] zero = refl
  one_more [] (suc n) =
      let a : suc n - 0 ≡ suc n = omega arith in
      let b : n ≡ suc n - 1 = omega arith in
      ap (cons (lift k u) Var) a ∙ ap Var b
  one_more (x ∷ xs) zero = cons_lift k u x
  one_more (x ∷ xs) (suc n) =
      let a : suc n - suc (length xs) ≡ n - length xs = omega arith in
      let b : n - suc (length xs) ≡ suc n - suc (suc (length xs)) = omega arith in
      ap (λ m. sub (cons (lift k u) Var) (option_map_or (lift (suc k)) (slice_get xs n) (Var m))) a
      ∙ one_more xs n
      ∙ ap (λ m. option_map_or (lift k) (slice_get (xs ++ u ∷ []) n) (Var m)) b

-- the puts put for a variable the argument at its number from the end
pub list_var_is : (k : ℕ) (us : List Tree) (n : ℕ) → list_var k us n ≡ option_map_or (lift k) (slice_get (reverse us) n) (Var (n - length us))
list_var_is k [] n = let e : n ≡ n - 0 = omega arith in ap Var e
list_var_is k (u ∷ us) n =
    ap (sub (cons (lift k u) Var)) (list_var_is (suc k) us n
    ∙ ap (λ m. option_map_or (lift (suc k)) (slice_get (reverse us) n) (Var (n - m))) (sym (length-reverse us)))
    ∙ one_more k u (reverse us) n
    ∙ ap (λ m. option_map_or (lift k) (slice_get (reverse us ++ u ∷ []) n) (Var (n - suc m))) (length-reverse us)
    ∙ ap (λ xs. option_map_or (lift k) (slice_get xs n) (Var (n - suc (length us)))) (sym (reverse-append (u ∷ []) us))

-- put_all is its puts one after another
pub put_all-puts : (us : List Tree) (t : Tree) → put_all us t ≡ puts 0 us t
put_all-puts us t =
    put_all_at_is 0 us t ∙ ap (λ w. sub w t) (fun_ext (λ n. first n ∙ sym (list_var_is 0 us n))) ∙ sym (puts_is 0 us t)
  where
    first : (n : ℕ) → put_all_var 0 us n ≡ option_map_or (lift 0) (slice_get (reverse us) n) (Var (n - length us))
    first n = let h : 0 ≤ n = omega arith in let e : n - 0 ≡ n = omega arith in
        put_all_var-high 0 us n h ∙ ap (λ i. option_map_or (lift 0) (slice_get (reverse us) i) (Var (n - length us))) e

-- every tree has a size
pub size-positive : (t : Tree) → 0 < size t
size-positive SortType = omega arith
size-positive SortKind = omega arith
size-positive (Var n) = omega arith
size-positive (Sym s) = omega arith
size-positive (App f x) = omega arith
size-positive (Lam a b) = omega arith
size-positive (Pi a b) = omega arith
