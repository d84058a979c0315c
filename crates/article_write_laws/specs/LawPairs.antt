-- The two laws of a type definition are reached together.
use Rattle.std.proofs.Common.{◌≡◌, ℕ, zero, suc, ◌+◌, ◌-◌, Bool, true, false, ◌||◌, List, [], ◌∷◌, ◌++◌, Some, slice_get, refl, sym, ap, ap₂, subst, ◌∙◌, arith, inr}
use Rattle.std.specs.List.{list_any}
use Rattle.hol_spec.specs.Lists.{IsIn}
use Rattle.hol_laws.specs.Members.{IsIn-right}
use Rattle.hol_spec.specs.Proofs.{Step}
use Rattle.hol_spec.specs.declared.StepKind.TheVariants.{FirstLaw, SecondLaw}
use Rattle.article_write_spec.specs.Mentions.{Need, need_eq}
use Rattle.article_write_spec.specs.ReachedSteps.{needs, defines, together, serves, is_reached, reached_from}
use Rattle.article_write_laws.specs.ReachLaws.{needed, is_flagged, flag-here, flag-later, reached-off, serves-reached, flagged-needs}

swap : (a b c : Bool) → (a || (b || c)) ≡ (b || (a || c))
swap true true c = refl
swap true false c = refl
swap false true c = refl
swap false false c = refl

module _ (roots : List Need) where
  -- what serves the same is reached alike
  same-serves : (wanted : List Need) (i : ℕ) (one two : Step) → one.kind ≡ FirstLaw → two.kind ≡ SecondLaw → one.parameters ≡ two.parameters
      → is_reached wanted (record { number = i; step = one }) ≡ is_reached wanted (record { number = i + 1; step = two })
  same-serves wanted i one two first second same =
      ap₂ (λ k p. test (Need.step i) || list_any test (together i k ++ defines p)) first same
      ∙ swap (test (Need.step i)) (test (Need.step (i + 1))) (list_any test (defines two.parameters))
      ∙ ap (λ j. test (Need.step (i + 1)) || (test (Need.step j) || list_any test (defines two.parameters))) (let e : i ≡ i + 1 - 1 = omega arith in e)
      ∙ sym (ap (λ k. test (Need.step (i + 1)) || list_any test (together (i + 1) k ++ defines two.parameters)) second)
    where
      test : Need → Bool
      test n = list_any (need_eq n) wanted

  pub laws-flagged : (i : ℕ) (xs : List Step) (k : ℕ) (one two : Step) → slice_get xs k ≡ Some one → slice_get xs (suc k) ≡ Some two → one.kind ≡ FirstLaw
      → two.kind ≡ SecondLaw → one.parameters ≡ two.parameters
      → (n : Need) → IsIn (needs two) n → IsIn (defines one.parameters) n → is_flagged roots i xs (i + suc k) ≡ is_flagged roots i xs (i + k)
  laws-flagged i [] k one two a b f s p n h d = absurd (cc)
  laws-flagged i (x ∷ []) zero one two a b f s p n h d = absurd (cc)
  laws-flagged i (x ∷ y ∷ xs) zero one two a b f s p n h d =
      let x_is : x ≡ one = cc in
      let y_is : y ≡ two = cc in
      let later : is_flagged roots i (x ∷ y ∷ xs) (i + 1) ≡ is_reached (needed roots ((i + 1) + 1) xs) (record { number = i + 1; step = y }) =
      flag-later roots i x (y ∷ xs) 0 ∙ flag-here roots (i + 1) y xs in
      let here : is_flagged roots i (x ∷ y ∷ xs) (i + 0) ≡ is_reached (needed roots (i + 1) (y ∷ xs)) (record { number = i; step = x }) =
      (let e : i + 0 ≡ i = omega arith in ap (is_flagged roots i (x ∷ y ∷ xs)) e) ∙ flag-here roots i x (y ∷ xs) in
      later ∙ go (is_reached (needed roots ((i + 1) + 1) xs) (record { number = i + 1; step = y })) refl x_is y_is ∙ sym here
    where
      go : (b : Bool) → is_reached (needed roots ((i + 1) + 1) xs) (record { number = i + 1; step = y }) ≡ b → x ≡ one → y ≡ two → b
          ≡ is_reached (needed roots (i + 1) (y ∷ xs)) (record { number = i; step = x })
      go true e x_is y_is =
          let zero_here : (i + 1) + 0 ≡ i + 1 = omega arith in
          let wanted = flagged-needs roots (i + 1) (y ∷ xs) 0 y n refl (ap (is_flagged roots (i + 1) (y ∷ xs)) zero_here ∙ flag-here roots (i + 1) y xs ∙ e)
          (subst (λ z. IsIn (needs z) n) (sym y_is) h) in
          let mine : IsIn (serves (record { number = i; step = x })) n =
          inr (IsIn-right (together i x.kind) (defines x.parameters) n (subst (λ z. IsIn (defines z.parameters) n) (sym x_is) d)) in
          sym (serves-reached roots (needed roots (i + 1) (y ∷ xs)) (record { number = i; step = x }) n mine wanted)
      go false e x_is y_is =
          sym e ∙ sym
          (same-serves (needed roots ((i + 1) + 1) xs) i x y (ap (λ z. z.kind) x_is ∙ f) (ap (λ z. z.kind) y_is ∙ s)
          (ap (λ z. z.parameters) x_is ∙ p ∙ sym (ap (λ z. z.parameters) y_is)))
          ∙ sym (ap (λ r. is_reached r.needed (record { number = i; step = x }))
          (reached-off roots (reached_from roots ((i + 1) + 1) xs) (record { number = i + 1; step = y }) e))
  laws-flagged i (x ∷ xs) (suc k) one two a b f s p n h d =
      let later : (i + 1) + suc k ≡ i + suc (suc k) = omega arith in
      let sooner : (i + 1) + k ≡ i + suc k = omega arith in
      flag-later roots i x xs (suc k) ∙ ap (is_flagged roots (i + 1) xs) (sym later) ∙ laws-flagged (i + 1) xs k one two a b f s p n h d
      ∙ ap (is_flagged roots (i + 1) xs) sooner ∙ sym (flag-later roots i x xs k)
