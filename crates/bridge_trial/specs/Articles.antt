-- The shelf from which a generated article is read.
use Rattle.std.specs.Prelude.{ℕ, List, [], ◌∷◌, codes}
use Rattle.bridge_base.specs.Outside.{Files}
use Rattle.article_spec.specs.Trial.{trial_text}

-- the name of its file
abbrev pub article_name : List ℕ
article_name = codes "trial"

-- its one file
abbrev pub article_files : ℕ → Files
article_files n = (article_name, trial_text n) ∷ []
