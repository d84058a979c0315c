-- What is to be written of an accepted run.
use Rattle.std.specs.Prelude.{◌≡◌, ℕ, Bool}
use Rattle.hol_spec.specs.Proofs.{Accepted}
use Rattle.holide_sig.specs.Modules.{declarations_of, IsHeld}
use Rattle.bridge_spec.specs.Texts as texts
use Rattle.bridge_spec.specs.Texts.{counts_of, module_bounds, module_of}
use Rattle.bridge_translate.specs.declared.translation.Counts.{Counts}
use Rattle.bridge_translate.specs.declared.translation.Translation.{Translation}

-- what is counted in a translation
abbrev pub counts_in : Counts → texts.Counts
counts_in counts = record {
  articles = counts.articles;
  assumptions = counts.assumptions;
  exports = counts.exports;
  declarations = counts.declarations;
  bounds =
      counts.bounds;
}

-- the module of a run of so many articles, with shared abbreviations or without, its bounds and its counts
pub record IsTranslationOf (share : Bool) (articles : ℕ) (run : Accepted) (t : Translation) : Type 0 where
  pub held : IsHeld t.module
  pub declared : declarations_of t.module ≡ module_of share run
  pub bounds : t.bounds.items ≡ module_bounds share run
  pub counts : counts_in t.counts ≡ counts_of share articles run
