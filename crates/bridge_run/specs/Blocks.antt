-- The number of blocks of a trial.
use Rattle.std.specs.Prelude.{◌<◌, ◌≤◌, Option, None, Some}
use Rattle.bridge_spec.specs.Forms.{Form, verify, translate, check, show, decode, trial, greatest_trial}

-- where a form asks for a trial, it has a block and no more than the most
abbrev pub HasBlocks : Option Form → Type 0
HasBlocks None = Unit {0}
HasBlocks (Some (verify share fast names)) = Unit {0}
HasBlocks (Some (translate share names)) = Unit {0}
HasBlocks (Some (check fast name budget)) = Unit {0}
HasBlocks (Some (show names)) = Unit {0}
HasBlocks (Some (decode name)) = Unit {0}
HasBlocks (Some (trial n)) = (0 < n) × (n ≤ greatest_trial)
HasBlocks (Some (Form.article names)) = Unit {0}
