-- The run at whose end the machine is, as its module asks of it, and its image, as a fold asks of it.
use Rattle.std.proofs.Common.{◌≡◌, ◌∙◌, ℕ, Bool, false, true, List, [], Option, sym, ap}
use Rattle.bridge_base.specs.Outside.{Files}
use Rattle.hol_spec.specs.Proofs.{Accepted}
use Rattle.article_spec.specs.SoundRuns.{IsSoundRun}
use Rattle.article_laws.specs.SoundSteps.{runs_are_sound}
use Rattle.lp_spec.specs.ModuleOrder.{IsModule}
use Rattle.lp_spec.specs.Modules.{Declaration}
use Rattle.lp_spec.specs.ShortNames.{NoneShort}
use Rattle.lp_check_laws.specs.ShapedPasses.{AreShaped}
use Rattle.translate_spec.specs.Image.{image, name_in}
use Rattle.image_laws.specs.AcceptedRuns.{runs_are_carried}
use Rattle.image_laws.specs.Named.{HasNames}
use Rattle.image_laws.specs.RunModules.{runs_are_modules}
use Rattle.image_reach_laws.specs.NamedRuns.{run-has_names}
use Rattle.bridge_laws.specs.PlainNames.{image-NoneShort}
use Rattle.share_spec.specs.Folded.{folded}
use Rattle.bridge_spec.specs.Answers.{IsRunOf}
use Rattle.bridge_spec.specs.Texts.{module_of}

module _ (told : Option Files) (names : List (List ℕ)) (run : Accepted) (r : IsRunOf told names run) where
  pub run-sound : IsSoundRun run
  run-sound = runs_are_sound r.texts run r.runs

  pub run-named : HasNames run
  run-named = run-has_names r.texts run r.bytes r.runs

  pub image-IsModule : IsModule (image run)
  image-IsModule = runs_are_modules r.texts run r.runs run-named

  pub image-long : NoneShort (image run)
  image-long = image-NoneShort run run-named run-sound

  pub image-shaped : AreShaped [] (image run)
  image-shaped = (runs_are_carried (name_in run) r.texts run r.runs).shaped

-- what is folded of the image is the run's module, where it is to have shared abbreviations
pub folded-module_of : (share : Bool) (run : Accepted) (source made : List Declaration) → share ≡ true → source ≡ image run → made ≡ folded source → made
    ≡ module_of share run
folded-module_of share run source made e same is = is ∙ ap folded same ∙ ap (λ share. module_of share run) (sym e)

-- and where it is not, the image is
pub image-module_of : (share : Bool) (run : Accepted) (made : List Declaration) → share ≡ false → made ≡ image run → made ≡ module_of share run
image-module_of share run made e is = is ∙ ap (λ share. module_of share run) (sym e)
