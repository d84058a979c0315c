-- The module of a run, read back and checked within its bounds: nothing is refused.
use Rattle.std.proofs.Common.{◌≡◌, ℕ, Bool, true, List, length, sym, ap, subst, ◌∙◌}
use Rattle.std.specs.Prelude.{option_map}
use Rattle.std.proofs.lemmas.List.{length-map}
use Rattle.std.proofs.lemmas.Option.{slice_get-map}
use Rattle.hol_spec.specs.Proofs.{Accepted}
use Rattle.lp_spec.specs.Modules.{Declaration}
use Rattle.lp_spec.specs.Reading.{Reads}
use Rattle.lp_spec.specs.Text.{written}
use Rattle.lp_spec.specs.Weight.{bound}
use Rattle.lp_kernel.specs.Checks.{IsJudged, PassBelow, PassWithin}
use Rattle.lp_kernel.specs.declared.checks.Verdict.{Verdict}
use Rattle.lp_kernel.specs.declared.checks.Verdict.TheVariants as verdict
use Rattle.holide_sig.specs.declared.module.Module.{Module}
use Rattle.holide_sig.specs.Modules.{declaration_in, declarations_of}
use Rattle.bridge_spec.specs.Headline.{Headline}
use Rattle.bridge_spec.specs.Texts.{module_bounds, module_of}
use Rattle.bridge_laws.specs.Headlines.{declaration-at}
use Rattle.bridge_translate.specs.Translations.{IsTranslationOf}
use Rattle.bridge_translate.specs.TranslationLaws.{written-module_text}
use Rattle.bridge_translate.specs.declared.translation.Translation.{Translation}

-- the check of each declaration says yes within its bound
module-PassWithin : (share : Bool) (run : Accepted) → Headline share run
    → PassWithin true (module_of share run) (module_bounds share run) (length (module_of share run))
module-PassWithin share run h k l =
    let m = module_of share run in
    let d = declaration-at m k l in
    let e = h.within k d.0 d.1 in (
      d.0.ty,
      record {
        price = e.price;
        by = e.by;
        budget = bound m d.0;
        at = slice_get-map (bound m) m k ∙ ap (option_map (bound m)) d.1;
        within = e.within;
      },
    )

-- two verdicts are not the third
pub IllTyped-Accepted : (v : Verdict) (i : ℕ) → v ≡ verdict.IllTyped i → v ≡ verdict.Accepted → ⊥
IllTyped-Accepted v i e f = absurd (cc)

pub OverBudget-Accepted : (v : Verdict) (i : ℕ) → v ≡ verdict.OverBudget i → v ≡ verdict.Accepted → ⊥
OverBudget-Accepted v i e f = absurd (cc)

-- of the verdict that is accepted, what it says of the declarations
pub accepted-PassBelow : (rechecks : Bool) (ds : List Declaration) (budgets : List ℕ) (v : Verdict) → IsJudged rechecks ds budgets v → v ≡ verdict.Accepted
    → PassBelow rechecks ds (length ds)
accepted-PassBelow rechecks ds budgets verdict.Accepted h e = h
accepted-PassBelow rechecks ds budgets (verdict.IllTyped i) h e = absurd (cc)
accepted-PassBelow rechecks ds budgets (verdict.OverBudget i) h e = absurd (cc)

module _ (share : Bool) (articles : ℕ) (run : Accepted) (t : Translation) (h : IsTranslationOf share articles run t) (good : Headline share run) where
  -- the text that was gathered reads as the run's module
  pub gathered-Reads : (text : List ℕ) → text ≡ written (declarations_of t.module) t.bounds.items → Reads text (module_of share run)
  gathered-Reads text e = subst (λ text. Reads text (module_of share run)) (sym (e ∙ written-module_text share articles run t h)) good.reads

module _ (share : Bool) (run : Accepted) (good : Headline share run) (back : Module) (same : declarations_of back ≡ module_of share run) (budgets : List ℕ)
    (are : budgets ≡ module_bounds share run) where
  length-back : length back.decls ≡ length (module_of share run)
  length-back = sym (length-map back.decls (declaration_in back.table)) ∙ ap length same

  -- there is a budget for each declaration of what was read back
  pub length-budgets : length budgets ≡ length back.decls
  length-budgets = ap length are ∙ length-map (module_of share run) (bound (module_of share run)) ∙ sym length-back

  -- the check of each declaration of it says yes within its budget
  pub back-PassWithin : PassWithin true (declarations_of back) budgets (length back.decls)
  back-PassWithin =
      subst (λ m. PassWithin true m budgets (length back.decls)) (sym same)
      (subst (λ bounds. PassWithin true (module_of share run) bounds (length back.decls)) (sym are)
      (subst (PassWithin true (module_of share run) (module_bounds share run)) (sym length-back) (module-PassWithin share run good)))
