-- The module of every accepted run is faithful to it: it is a well-typed module, what has no body was given to the run, what it defines
-- the run defined, its theorems have names of theorems, and its exports are the run's. It stands for its run where its exports reach what has no body.
use Rattle.std.proofs.Common.{◌≡◌, ℕ, List, Some, None, slice_get, [], refl}
use Rattle.std.specs.List.{AllByRecursion, filter}
use Rattle.hol_spec.specs.Proofs.{Accepted}
use Rattle.article_spec.specs.Run.{accepted, Run}
use Rattle.article_spec.specs.SoundRuns.{IsSoundRun}
use Rattle.article_laws.specs.SoundSteps.{runs_are_sound}
use Rattle.lp_spec.specs.declared.form.Form.TheVariants.{Def, Thm}
use Rattle.lp_spec.specs.Modules.{Declaration}
use Rattle.lp_spec.specs.ModuleOrder.{IsModule}
use Rattle.lp_spec.specs.Typing.{WellTyped}
use Rattle.translate_spec.specs.MadeItems.{items_of}
use Rattle.translate_spec.specs.Image.{name_in, image}
use Rattle.translate_spec.specs.Stands.{IsGiven, IsDefined, IsReached, IsTheoremName, AreExports, is_export_name, StandsForRun}
use Rattle.image_laws.specs.Origins.{Origin, made-origins}
use Rattle.image_laws.specs.Named.{HasNames}
use Rattle.image_laws.specs.RunModules.{image-IsModule, items-named}
use Rattle.image_laws.specs.ExportOrder.{HaveRows, exports-are}
use Rattle.image_laws.specs.ExportSteps.{exports-proved}
use Rattle.image_laws.specs.Standing.{Always, origins-all, item-stands, each-declaration}
use Rattle.image_laws.specs.Givens.{item-given, item-defined, item-theorem}
use Rattle.image_laws.specs.AcceptedRuns.{IsCarried, runs_are_carried}

pub record IsFaithful (m : List Declaration) (run : Accepted) : Type 0 where
  pub is_module : IsModule m
  pub typed : WellTyped m
  pub given : (i : ℕ) (d : Declaration) → slice_get m i ≡ Some d → d.body ≡ None → IsGiven m run d
  pub definitions : (i : ℕ) (d : Declaration) → slice_get m i ≡ Some d → d.form ≡ Def → IsDefined m run d
  pub theorems : (i : ℕ) (d : Declaration) → slice_get m i ≡ Some d → d.form ≡ Thm → IsTheoremName d.name
  pub exports : AreExports m run 0 run.exports (filter (λ d. is_export_name d.name) m)

abbrev pub RunsAreFaithful : Type 0
RunsAreFaithful = (articles : List (List ℕ)) (run : Accepted) → Run articles (accepted run) → HasNames run → IsFaithful (image run) run

module _ (run : Accepted) (named : HasNames run) (sound : IsSoundRun run) (carried : IsCarried (name_in run) run) (rows : HaveRows run) where
  origins : AllByRecursion (Origin run run.made Always) (items_of (name_in run) run.made)
  origins = origins-all run [] (items_of (name_in run) run.made) (made-origins run run.made)

  pub image-faithful : IsFaithful (image run) run
  image-faithful = record {
    is_module = image-IsModule run named sound carried;
    typed = carried.typed;
    given = each-declaration run named sound carried.in_order origins (λ i d. d.body ≡ None → IsGiven (image run) run d) (λ e. absurd (cc)) (λ e. absurd (cc))
        (λ z i k n at e. item-given run named sound rows carried.in_order origins z i k e);
    definitions = each-declaration run named sound carried.in_order origins (λ i d. d.form ≡ Def → IsDefined (image run) run d) (λ e. absurd (cc))
        (λ e. absurd (cc))
        (λ z i k n at e. item-defined run named sound rows carried.in_order origins z i k e);
    theorems = each-declaration run named sound carried.in_order origins (λ i d. d.form ≡ Thm → IsTheoremName d.name) (λ e. IsTheoremName.symmetry refl)
        (λ e. IsTheoremName.transitivity refl)
        (λ z i k n at e. item-theorem run named sound rows carried.in_order origins z i e);
    exports = exports-are run sound rows carried.in_order (item-stands run named sound carried.in_order origins)
        (items-named run named sound [] (items_of (name_in run) run.made) (made-origins run run.made));
  }

-- The law of faithful modules
pub runs_are_faithful : RunsAreFaithful
runs_are_faithful articles run r named =
    image-faithful run named (runs_are_sound articles run r) (runs_are_carried (name_in run) articles run r) (exports-proved articles run r)

-- where the exports reach what has no body, the module stands for its run
pub faithful-stands : (m : List Declaration) (run : Accepted) → IsFaithful m run
    → ((i : ℕ) (d : Declaration) → slice_get m i ≡ Some d → d.body ≡ None → IsReached m i) → StandsForRun m run
faithful-stands m run h reached = record {
  is_module = h.is_module;
  typed = h.typed;
  unproved = λ i d at none. record { given = h.given i d at none; reached = reached i d at none };
  definitions = h.definitions;
  theorems = h.theorems;
  exports = h.exports;
}
