-- What is to be written of an accepted run is the text of its module, with a bound for each declaration.
use Rattle.std.proofs.Common.{◌≡◌, ℕ, Bool, length, sym, ap, ◌∙◌}
use Rattle.std.proofs.Math.Path.{ap₂}
use Rattle.std.proofs.lemmas.List.{length-map}
use Rattle.hol_spec.specs.Proofs.{Accepted}
use Rattle.lp_spec.specs.Text.{written}
use Rattle.lp_spec.specs.Weight.{bound}
use Rattle.holide_sig.specs.Modules.{declaration_in, declarations_of}
use Rattle.bridge_spec.specs.Texts.{module_of, module_text}
use Rattle.bridge_translate.specs.Translations.{IsTranslationOf}
use Rattle.bridge_translate.specs.declared.translation.Translation.{Translation}

module _ (share : Bool) (articles : ℕ) (run : Accepted) (t : Translation) (h : IsTranslationOf share articles run t) where
  -- the text that is written is that of the run's module
  pub written-module_text : written (declarations_of t.module) t.bounds.items ≡ module_text share run
  written-module_text = ap₂ written h.declared h.bounds

  -- there are as many bounds as declarations
  pub length-bounds : length t.bounds.items ≡ length t.module.decls
  length-bounds =
      ap length h.bounds ∙ length-map (module_of share run) (bound (module_of share run))
      ∙ sym (ap length h.declared) ∙ length-map t.module.decls (declaration_in t.module.table)
