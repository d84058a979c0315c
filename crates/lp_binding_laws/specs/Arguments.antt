-- A function of several arguments at its arguments: each has its domain with those before it put in.
use Rattle.std.proofs.Common.{◌≡◌, ℕ, zero, suc, ◌-◌, ◌<◌, ◌≤◌, sym, ap, ◌∙◌, subst, arith, inl, inr, ◌⊎◌, List, [], ◌∷◌, ◌++◌, length, reverse, append_assoc, get_or, Some, None}
use Rattle.std.specs.Prelude.{slice_get}
use Rattle.std.specs.Option.{option_map_or}
use Rattle.std.proofs.lemmas.List.{append-nil, length-append, length-reverse, reverse-append}
use Rattle.std.proofs.lemmas.Option.{slice_get_cases}
use Rattle.std.proofs.Math.Path.{fun_ext}
use Rattle.lp_spec.specs.Trees.{Tree, Var, Sym, App, lift, put, put_all_var, put_all_at, put_all, loose}
use Rattle.lp_spec.specs.Substitution.{sub, cons}
use Rattle.lp_binding_laws.specs.Composition.{sub_sub, put_is, lift_zero, put_all_at_is, put_all_var-high}
use Rattle.lp_binding_laws.specs.Binding.{put-lift}
use Rattle.lp_binding_laws.specs.Closed.{put_all_at-closed}
use Rattle.lp_spec.specs.Modules.{Declaration, applied, products, symbol_type}
use Rattle.lp_spec.specs.Typing.{Typed, of_symbol, of_application}

-- what is put for a variable by one argument more, after the others
module _ (x : Tree) (us : List Tree) where
  -- the last argument is the first from the end
  reversed : reverse (us ++ x ∷ []) ≡ x ∷ reverse us
  reversed = reverse-append us (x ∷ [])

  -- the innermost variable has the last argument
  put_last : put_all_var 0 (us ++ x ∷ []) 0 ≡ x
  put_last =
      put_all_var-high 0 (us ++ x ∷ []) 0 (omega arith)
      ∙ ap (λ l. option_map_or (lift 0) (slice_get l 0) (Var (0 - length (us ++ x ∷ [])))) reversed
      ∙ lift_zero x

  -- each other variable has its argument among the others
  put_earlier : (n : ℕ) → sub (cons x Var) (put_all_var 1 us (suc n)) ≡ put_all_var 0 (us ++ x ∷ []) (suc n)
  put_earlier n =
      let one : 1 ≤ suc n = omega arith in
      let none : 0 ≤ suc n = omega arith in
      let less : suc n - 1 ≡ n = omega arith in
      let all : suc n - 0 ≡ suc n = omega arith in
      ap (sub (cons x Var)) (put_all_var-high 1 us (suc n) one ∙ ap (λ i. option_map_or (lift 1) (slice_get (reverse us) i) (Var (suc n - length us))) less)
      ∙ either (slice_get_cases (reverse us) n).1
      ∙ sym (put_all_var-high 0 (us ++ x ∷ []) (suc n) none
      ∙ ap (λ i. option_map_or (lift 0) (slice_get (reverse (us ++ x ∷ [])) i) (Var (suc n - length (us ++ x ∷ [])))) all
      ∙ ap (λ l. option_map_or (lift 0) (slice_get l (suc n)) (Var (suc n - length (us ++ x ∷ [])))) reversed)
    where
      either : ((a : Tree) × (n < length (reverse us)) × (slice_get (reverse us) n ≡ Some a) × (get_or (reverse us) n a ≡ a))
          ⊎ ((length (reverse us) ≤ n) × (slice_get (reverse us) n ≡ None))
          → sub (cons x Var) (option_map_or (lift 1) (slice_get (reverse us) n) (Var (suc n - length us)))
          ≡ option_map_or (lift 0) (slice_get (reverse us) n) (Var (suc n - length (us ++ x ∷ [])))
      either (inl w) = rw w.2 (sym (put_is x (lift 1 w.0)) ∙ put-lift x w.0 ∙ sym (lift_zero w.0))
      either (inr w) =
          let l : suc n - length us ≡ suc (n - length us) = omega (arith, w.0, length-reverse us) in
          let r : n - length us ≡ suc n - length (us ++ x ∷ []) = omega (arith, length-append us (x ∷ [])) in
          rw w.1 (ap (λ i. sub (cons x Var) (Var i)) l ∙ ap Var r)

-- an argument more is put after the others
pub put-put_all : (x : Tree) (us : List Tree) (b : Tree) → put x (put_all_at 1 us b) ≡ put_all (us ++ x ∷ []) b
put-put_all x us b =
    put_is x (put_all_at 1 us b) ∙ ap (sub (cons x Var)) (put_all_at_is 1 us b) ∙ sub_sub (cons x Var) (put_all_var 1 us) b
    ∙ ap (λ w. sub w b) (fun_ext each) ∙ sym (put_all_at_is 0 (us ++ x ∷ []) b)
  where
    each : (n : ℕ) → sub (cons x Var) (put_all_var 1 us n) ≡ put_all_var 0 (us ++ x ∷ []) n
    each zero = sym (put_last x us)
    each (suc n) = put_earlier x us n

-- the arguments after these have the types of the domains, each with the arguments before it put in
abbrev pub AreArguments : List Declaration → List Tree → List Tree → List Tree → List Tree → Type 0
AreArguments m G before [] [] = Unit {0}
AreArguments m G before (a ∷ domains) (x ∷ args) = Typed m G x (put_all before a) × AreArguments m G (before ++ x ∷ []) domains args
AreArguments m G before _ _ = ⊥

module _ (m : List Declaration) (G : List Tree) where
  -- a function at arguments has what remains of its product, with the arguments put in
  pub Typed-applied : (domains args before : List Tree) (f t : Tree) → Typed m G f (put_all before (products domains t)) → AreArguments m G before domains args
      → Typed m G (applied f args) (put_all (before ++ args) t)
  Typed-applied [] [] before f t h k = subst (λ l. Typed m G f (put_all l t)) (sym (append-nil before)) h
  Typed-applied [] (x ∷ args) before f t h k = absurd k
  Typed-applied (a ∷ domains) [] before f t h k = absurd k
  Typed-applied (a ∷ domains) (x ∷ args) before f t h k =
      subst (λ l. Typed m G (applied (App f x) args) (put_all l t)) (append_assoc before (x ∷ []) args)
      (Typed-applied domains args (before ++ x ∷ []) (App f x) t (of_application h k.0 (put-put_all x before (products domains t))) k.1)

  -- a symbol with a closed product for its type, at arguments
  pub Typed-call : (domains args : List Tree) (s : ℕ) (t : Tree) → symbol_type m s ≡ Some (products domains t) → loose (products domains t) ≡ 0
      → AreArguments m G [] domains args → Typed m G (applied (Sym s) args) (put_all args t)
  Typed-call domains args s t e c k =
      Typed-applied domains args [] (Sym s) t (of_symbol (e ∙ ap Some (sym (put_all_at-closed 0 [] (products domains t) (omega (arith, c)))))) k
