-- What passes declaration by declaration, with rechecks or without, is well typed.
use Rattle.std.proofs.Common.{◌≡◌, refl, sym, ap, ◌∙◌, subst, ℕ, suc, arith, Bool, true, false, List, [], ◌∷◌, ◌++◌, ◌+◌, length, append_assoc, Some}
use Rattle.std.proofs.lemmas.List.{length-append}
use Rattle.std.proofs.Math.Seq.{take-append_seam}
use Rattle.std.proofs.Math.Path.{subst₂}
use Rattle.std.specs.Prelude.{slice_get, take}
use Rattle.lp_binding_laws.specs.LookUps.{slice_get-seam}
use Rattle.lp_spec.specs.Trees.{Tree}
use Rattle.lp_spec.specs.Modules.{Declaration, signature}
use Rattle.lp_spec.specs.ModuleOrder.{AreDeclared}
use Rattle.lp_spec.specs.Typing.{Typed, IsContext, IsTypedAfter, AreTypedAfter, WellTyped}
use Rattle.lp_typing_laws.specs.WellTypedLaws.{WellTyped-IsSound, WellTyped-after}
use Rattle.lp_spec.specs.Check.{Found, infer, Ends, declaration_plan}
use Rattle.lp_check_laws.specs.CheckerLaw.{HasBody, HasBody-IsBodyOver, infer-sound, check-sound}
use Rattle.lp_spec.specs.FastCheck.{PassesBy}
use Rattle.lp_fast_laws.specs.FastPrices.{check-ends}
use Rattle.lp_fast_laws.specs.FastTyping.{infer-fast, check-fast}
use Rattle.lp_fast_laws.specs.FastStatements.{CheckerLawBy}

-- what is found over well-typed declarations is typed, with rechecks or without
pub infer-typed : (r : Bool) (m : List Declaration) → WellTyped m → (G : List Tree) (t A : Tree) (n : ℕ) → IsContext m G → Ends m r (infer m r G t) (Found A) n
    → Typed m G t A
infer-typed true m well G t A n c h = infer-sound m (WellTyped-IsSound m well) G t A n c h
infer-typed false m well G t A n c h = infer-fast m well G t A n c h

-- a declaration that passes over well-typed ones is typed, with rechecks or without
pub check-typed : (r : Bool) (m : List Declaration) → WellTyped m → (d : Declaration) (u : Tree) (n : ℕ) → HasBody d.form d.body
    → Ends m r (declaration_plan d) (Found u) n → IsTypedAfter m d
check-typed true m well d u n b h = check-sound m (WellTyped-IsSound m well) d u n b h
check-typed false m well d u n b h = check-fast m well d u n b h

-- the declaration passes over these before it
record Passes (r : Bool) (before : List Declaration) (d : Declaration) : Type 0 where
  pub found : Tree
  pub price : ℕ
  pub by : Ends before r (declaration_plan d) (Found found) price

-- each passes over these and those before it
abbrev ArePassed : Bool → List Declaration → List Declaration → Type 0
ArePassed r before [] = Unit {0}
ArePassed r before (d ∷ ds) = Passes r before d × ArePassed r (before ++ d ∷ []) ds

module _ (r : Bool) where
  passed : (before ds : List Declaration) → WellTyped before → AreDeclared (signature ++ before) ds → ArePassed r before ds → AreTypedAfter before ds
  passed before [] well a h = tt
  passed before (d ∷ ds) well a h =
      let t = check-typed r before well d h.0.found h.0.price (HasBody-IsBodyOver (length (signature ++ before)) d.form d.body a.0.body) h.0.by in
      (t, passed (before ++ d ∷ []) ds (WellTyped-after before d well t) (subst (λ l. AreDeclared l ds) (append_assoc signature before (d ∷ [])) a.1) h.1)

  each_passed : (before ds : List Declaration) → ((i : ℕ) (d : Declaration) → slice_get ds i ≡ Some d → PassesBy r (before ++ ds) (length before + i))
      → ArePassed r before ds
  each_passed before [] h = tt
  each_passed before (d ∷ ds) h = (first (h 0 d refl), each_passed (before ++ d ∷ []) ds (λ i e at. further i (h (suc i) e at)))
    where
      first : PassesBy r (before ++ d ∷ ds) (length before + 0) → Passes r before d
      first p =
          let count : length before + 0 ≡ length before = omega arith in
          let at : slice_get (before ++ d ∷ ds) (length before + 0) ≡ Some d = ap (slice_get (before ++ d ∷ ds)) count ∙ slice_get-seam before ds d in
          let front : take (length before + 0) (before ++ d ∷ ds) ≡ before = ap (λ n. take n (before ++ d ∷ ds)) count ∙ take-append_seam before (d ∷ ds) in
          record {
            found = p.found;
            price = p.price;
            by =
                subst (λ l. Ends l r (declaration_plan d) (Found p.found) p.price) front
                (check-ends (before ++ d ∷ ds) (length before + 0) r (Found p.found) p.price d at p.by);
          }

      further : (i : ℕ) → PassesBy r (before ++ d ∷ ds) (length before + suc i) → PassesBy r ((before ++ d ∷ []) ++ ds) (length (before ++ d ∷ []) + i)
      further i h =
          let count : length before + suc i ≡ length (before ++ d ∷ []) + i = omega (arith, length-append before (d ∷ [])) in
          subst₂ (PassesBy r) (sym (append_assoc before (d ∷ []) ds)) count h

-- The checker's law, with rechecks or without.
pub checker_law_by : CheckerLawBy
checker_law_by r m a h = passed r [] m (tt {0}) a (each_passed r [] m (λ i d at. let none : i ≡ 0 + i = omega arith in subst (PassesBy r m) none (h i d at)))
