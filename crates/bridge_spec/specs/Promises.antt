-- What a command does, and what the one call of the program promises. What follows from a promise stands in `Consequences`.
use Rattle.std.specs.Prelude.{◌≡◌, ◌≤◌, Bool}
use Rattle.hol_spec.specs.Proofs.{Accepted}
use Rattle.hol_spec.specs.declared.Version.{Version}
use Rattle.bridge_spec.specs.Calls.{Call}
use Rattle.bridge_spec.specs.Answers.{HasRun, HasArticle}
use Rattle.bridge_spec.specs.Headline.{Headline}
use Rattle.bridge_spec.specs.Articles.{IsRetold}
use Rattle.bridge_spec.specs.Outputs.{Outputs}
use Rattle.bridge_spec.specs.declared.status.Status.{Status}

pub record Performs (call : Call) (result : Status) : Type 0 where
  -- Each answer comes only by its cause, and the sinks gain its texts; or a failing write replaced it.
  pub outputs : Outputs call result
  -- The shelf tells the same files as before.
  pub told_kept : call.shelf.told ≡ call.shelf.told_before
  -- No count of faults falls.
  pub shelf_count : call.shelf.faults_before ≤ call.shelf.faults
  pub out_count : call.out.faults_before ≤ call.out.faults
  pub note_count : call.note.faults_before ≤ call.note.faults

-- What a call does, with what holds of every run that it speaks of
pub record Promise (call : Call) (result : Status) : Type 0 where
  -- Each answer comes only by its cause, and the sinks gain its texts; or a failing write replaced it.
  pub outputs : Outputs call result
  -- The headline: the module of an accepted run of the files, or of the generated article of a trial, with shared abbreviations or without, reads
  -- back, is well typed, is faithful to its run and accepted within its bounds; what the run made is a proof, and its exports derive.
  pub headline : (share : Bool) (run : Accepted) → HasRun call run → Headline share run
  -- The law of articles: the article that a form writes of an accepted run, in the version of the last article that was read, is accepted and of
  -- that version, and tells what the run's exports reach again, and nothing else.
  pub retold : (version : Version) (run : Accepted) → HasArticle call version run → IsRetold version run
  -- The shelf tells the same files as before.
  pub told_kept : call.shelf.told ≡ call.shelf.told_before
  -- No count of faults falls.
  pub shelf_count : call.shelf.faults_before ≤ call.shelf.faults
  pub out_count : call.out.faults_before ≤ call.out.faults
  pub note_count : call.note.faults_before ≤ call.note.faults
