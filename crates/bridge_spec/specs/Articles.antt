-- One article of what a run exports: whether it can be written, and what it tells.
use Rattle.std.specs.Prelude.{ℕ, ◌≡◌, ◌<◌, ◌≤◌, ◌⊎◌, true, false, List, length}
use Rattle.hol_spec.specs.Proofs.{Accepted}
use Rattle.hol_spec.specs.declared.Version.{Version}
use Rattle.article_spec.specs.Lines.{max_article}
use Rattle.article_spec.specs.Run.{accepted, Run}
use Rattle.article_write_spec.specs.Article.{article, fits}
use Rattle.article_write_spec.specs.Retold.{Retells}

-- One article of a version can say what the run exports, in as many bytes as an article may have.
pub record IsWritable (version : Version) (run : Accepted) : Type 0 where
  pub fits : fits version run ≡ true
  pub short : length (article version run) ≤ max_article

-- None can, or not in as many bytes.
abbrev pub IsUnwritable : Version → Accepted → Type 0
IsUnwritable version run = (fits version run ≡ false) ⊎ (max_article < length (article version run))

-- The article of a run in a version is accepted, is of that version, and tells the run again: its steps are exactly the reached ones, its
-- definitions, assumptions and exports are those of the run that are reached, in order, and its own article is the same text.
abbrev pub IsRetold : Version → Accepted → Type 0
IsRetold version run = (a : Accepted) × Retells version run a

-- The law of articles: so it is with every accepted run whose article can be written.
abbrev pub EachRunIsRetold : Type 0
EachRunIsRetold = (texts : List (List ℕ)) (version : Version) (run : Accepted) → Run texts (accepted run) → IsWritable version run → IsRetold version run
