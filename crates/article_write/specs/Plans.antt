-- What is planned of an article.
use Rattle.std.specs.Prelude.{◌≡◌, ℕ, List, length, Bool}
use Rattle.hol_spec.specs.declared.Version.{Version}
use Rattle.hol_spec.specs.Proofs.{Accepted, steps_of}
use Rattle.hol_rules.specs.Kept.{Kept, step_count}
use Rattle.article_write_spec.specs.Article.{article, fits as fits_by}
use Rattle.article_write_spec.specs.Lengths.{capped}
use Rattle.article_lines.specs.Flagged.{ArePairs}
use Rattle.article_lines.specs.Greatest.{greatest_length}
use Rattle.article_lines.specs.Things.{Keyed, none_keyed}
use Rattle.article_reach.specs.Reached.{Told, IsReach}
use Rattle.article_steps.specs.Agenda.{Agenda}
use Rattle.article_steps.specs.Agendas.{IsRoomy}

-- its version, what it tells, whether one article can say it, its length, and the keys and the room that it is written with
pub record Planned : Type 0 where
  pub version : Version
  pub reach : Told
  pub fits : Bool
  pub count : ℕ
  pub keys : Keyed
  pub room : Agenda

-- the run of a proof, with these assumptions and exports
abbrev pub run_of : Kept → List ℕ → List ℕ → Accepted
run_of p assumptions exports = record { made = p.made; assumptions = assumptions; exports = exports }

-- It is the plan of the article of this run in this version, and the proof is what the run made.
pub record IsPlanOf (p : Kept) (version : Version) (run : Accepted) (plan : Planned) : Type 0 where
  pub made : run.made ≡ p.made
  pub of_version : plan.version ≡ version
  pub reach : IsReach run.made run.exports plan.reach
  pub pairs : ArePairs (steps_of p.made)
  pub fitting : plan.fits ≡ fits_by version run
  pub counted : plan.count ≡ capped greatest_length (length (article version run))
  pub keys : plan.keys ≡ none_keyed (length p.trees.types) (length p.trees.terms) (step_count p)
  pub room : IsRoomy p.trees plan.room.room
