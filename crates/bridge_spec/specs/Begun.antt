-- Which files a call begins, in which order.
use Rattle.std.specs.Prelude.{ℕ, List, [], ◌∷◌, take, Option, None, Some}
use Rattle.bridge_base.specs.Outside.{Begins, BeginsFront}
use Rattle.bridge_spec.specs.Forms.{Form, verify, translate, check, show, decode, trial}
use Rattle.bridge_spec.specs.declared.status.Status.{Status}
use Rattle.bridge_spec.specs.declared.status.Status.TheVariants.{Refused, ReadFault, Memory}

-- the files that a form names, each as often as it is named
abbrev pub names_of : Option Form → List (List ℕ)
names_of (Some (verify share fast names)) = names
names_of (Some (translate share names)) = names
names_of (Some (check fast name budget)) = name ∷ []
names_of (Some (show names)) = names
names_of (Some (decode name)) = name ∷ []
names_of (Some (Form.article names)) = names
names_of _ = []

-- Of these files a call with this answer begins, in order: at a refusal those up to the refused article, where the shelf or memory failed a
-- front of them, and else all.
abbrev pub BeginsFiles : Status → Option (List (List ℕ)) → List (List ℕ) → Option (List (List ℕ)) → Type 0
BeginsFiles (Refused article line kind) before names now = Begins before (take article names) now
BeginsFiles ReadFault before names now = BeginsFront before names now
BeginsFiles Memory before names now = BeginsFront before names now
BeginsFiles _ before names now = Begins before names now
