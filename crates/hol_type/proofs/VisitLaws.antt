-- Tasks that are set out one after another.
use Rattle.std.proofs.Common.{◌≡◌, ◌≤◌, ◌-◌, refl, sym, ap, ◌∙◌, List, [], ◌∷◌, ◌++◌, length, get_or}
use Rattle.std.specs.Prelude.{take}
use Rattle.hol_type.specs.declared.table.TypeId.{TypeId}
use Rattle.hol_type.specs.declared.visits.Task.{Task}
use Rattle.hol_type.specs.declared.visits.Task.TheVariants.{Visit}
use Rattle.hol_type.specs.Walks.{visits}
use Rattle.hol_laws.specs.PlaceLaws.{front-last}

-- a last visit is put on the tasks first
pub visits-last : (ids : List TypeId) (id : TypeId) (tasks : List Task) → visits (ids ++ id ∷ []) tasks ≡ visits ids (Visit id ∷ tasks)
visits-last [] id tasks = refl
visits-last (x ∷ ids) id tasks = ap (λ l. Visit x ∷ l) (visits-last ids id tasks)

pub visits-front : (ids : List TypeId) (d : TypeId) (tasks : List Task) → 1 ≤ length ids
    → visits (take (length ids - 1) ids) (Visit (get_or ids (length ids - 1) d) ∷ tasks) ≡ visits ids tasks
visits-front ids d tasks h = sym (visits-last (take (length ids - 1) ids) (get_or ids (length ids - 1) d) tasks) ∙ ap (λ l. visits l tasks) (front-last ids d h)
