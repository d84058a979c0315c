-- Bounds one after another, and that each declaration of a run's module passes within its bound without rechecks of sorts.
use Rattle.std.proofs.Common.{◌≡◌, ℕ, Bool, zero, suc, ◌+◌, ◌<◌, ◌≤◌, false, List, [], ◌∷◌, ◌++◌, map, length, take, slice_get, refl, sym, ap, subst, ◌∙◌, arith}
use Rattle.std.specs.Prelude.{option_map}
use Rattle.std.specs.Option.{option_map_or}
use Rattle.std.proofs.lemmas.List.{length-map}
use Rattle.std.proofs.lemmas.Option.{slice_get-map}
use Rattle.hol_spec.specs.Proofs.{Accepted}
use Rattle.lp_spec.specs.Modules.{Declaration}
use Rattle.lp_spec.specs.FastCheck.{fast_bound}
use Rattle.lp_kernel.specs.Checks.{PassWithin}
use Rattle.holide_sig.specs.declared.module.Module.{Module}
use Rattle.holide_sig.specs.Modules.{declaration_in, declarations_of}
use Rattle.bridge_spec.specs.Headline.{Headline}
use Rattle.bridge_spec.specs.Texts.{module_of}
use Rattle.bridge_laws.specs.Headlines.{declaration-at}

-- what a function gives of the elements so far, and of the next
take_suc-map : {A : Type 0} (f : A → ℕ) (xs : List A) (i : ℕ) → i < length xs → map f (take (suc i) xs) ≡ map f (take i xs)
    ++ option_map_or f (slice_get xs i) 0 ∷ []
take_suc-map f [] i l = absurd (omega (arith, l))
take_suc-map f (x ∷ xs) zero l = refl
take_suc-map f (x ∷ xs) (suc i) l = ap (λ ys. f x ∷ ys) (take_suc-map f xs i (omega (arith, l)))

pub front-more : {A : Type 0} (f : A → ℕ) (xs : List A) (i : ℕ) → i < length xs → map f (take (i + 1) xs) ≡ map f (take i xs)
    ++ option_map_or f (slice_get xs i) 0 ∷ []
front-more f xs i l = let up : i + 1 ≡ suc i = omega arith in ap (λ k. map f (take k xs)) up ∙ take_suc-map f xs i l

-- as many elements as there are, or more, are all of them
pub front-whole : {A : Type 0} (xs : List A) (i : ℕ) → length xs ≤ i → take i xs ≡ xs
front-whole [] zero l = refl
front-whole [] (suc i) l = refl
front-whole (x ∷ xs) zero l = absurd (omega (arith, l))
front-whole (x ∷ xs) (suc i) l = ap (λ ys. x ∷ ys) (front-whole xs i (omega (arith, l)))

-- the check of each declaration of a run's module without rechecks of sorts says yes within its bound
module-PassWithin : (share : Bool) (run : Accepted) → Headline share run
    → PassWithin false (module_of share run) (map (fast_bound (module_of share run)) (module_of share run)) (length (module_of share run))
module-PassWithin share run h k l =
    let m = module_of share run in
    let d = declaration-at m k l in
    let e = h.within_fast k d.0 d.1 in (
      d.0.ty,
      record {
        price = e.price;
        by = e.by;
        budget = fast_bound m d.0;
        at = slice_get-map (fast_bound m) m k ∙ ap (option_map (fast_bound m)) d.1;
        within = e.within;
      },
    )

module _ (share : Bool) (run : Accepted) (good : Headline share run) (back : Module) (same : declarations_of back ≡ module_of share run) (budgets : List ℕ)
    (are : budgets ≡ map (fast_bound (declarations_of back)) (declarations_of back)) where
  length-back : length back.decls ≡ length (module_of share run)
  length-back = sym (length-map back.decls (declaration_in back.table)) ∙ ap length same

  -- there is a budget for each declaration
  pub length-budgets : length budgets ≡ length back.decls
  length-budgets = ap length are ∙ length-map (declarations_of back) (fast_bound (declarations_of back)) ∙ length-map back.decls (declaration_in back.table)

  -- the check of each says yes within its budget
  pub back-PassWithin : PassWithin false (declarations_of back) budgets (length back.decls)
  back-PassWithin =
      subst (λ m. PassWithin false m budgets (length back.decls)) (sym same)
      (subst (λ bounds. PassWithin false (module_of share run) bounds (length back.decls)) (sym (are ∙ ap (λ m. map (fast_bound m) m) same))
      (subst (PassWithin false (module_of share run) (map (fast_bound (module_of share run)) (module_of share run))) (sym length-back)
      (module-PassWithin share run good)))
