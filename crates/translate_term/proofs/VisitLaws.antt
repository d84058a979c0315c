-- Tasks that are set out one after another.
use Rattle.std.proofs.Common.{◌≡◌, ◌≤◌, ◌-◌, refl, sym, ap, ◌∙◌, List, [], ◌∷◌, ◌++◌, length, get_or}
use Rattle.std.specs.Prelude.{take}
use Rattle.translate_term.specs.declared.tasks.Task.{Task}
use Rattle.translate_term.specs.declared.tasks.Task.TheVariants.{Visit}
use Rattle.translate_term.specs.Tasks.{visits}
use Rattle.translate_term.proofs.ListSteps.{front-last}

module _ {K : Type 0} where
  -- a last visit is put on the tasks first
  pub visits-last : (keys : List K) (key : K) (tasks : List (Task K)) → visits (keys ++ key ∷ []) tasks ≡ visits keys (Visit key ∷ tasks)
  visits-last [] key tasks = refl
  visits-last (x ∷ keys) key tasks = ap (λ l. Visit x ∷ l) (visits-last keys key tasks)

  pub visits-front : (keys : List K) (d : K) (tasks : List (Task K)) → 1 ≤ length keys
      → visits (take (length keys - 1) keys) (Visit (get_or keys (length keys - 1) d) ∷ tasks) ≡ visits keys tasks
  visits-front keys d tasks h = sym (visits-last (take (length keys - 1) keys) (get_or keys (length keys - 1) d) tasks) ∙ ap (λ l. visits l tasks)
      (front-last keys d h)
