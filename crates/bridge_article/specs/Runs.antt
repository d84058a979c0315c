-- What is answered of an accepted run, of which one article is asked for.
use Rattle.std.specs.Prelude.{◌≡◌, ◌⊎◌, ◌<◌, ◌≤◌, ℕ, true, false, List, []}
use Rattle.hol_spec.specs.Proofs.{Accepted}
use Rattle.hol_spec.specs.declared.Version.{Version}
use Rattle.hol_rules.specs.Kept.{Kept}
use Rattle.article_spec.specs.Lines.{max_article}
use Rattle.article_write_spec.specs.Article.{article}
use Rattle.article_write.specs.Plans.{Planned, IsPlanOf}
use Rattle.bridge_spec.specs.Articles.{IsWritable, IsUnwritable}
use Rattle.bridge_spec.specs.Answers.{NoteAlone}
use Rattle.bridge_spec.specs.Calls.{Sunk}
use Rattle.bridge_spec.specs.Outputs.{Delivers}
use Rattle.bridge_spec.specs.Texts.{memory_line, unwritable_line}
use Rattle.bridge_spec.specs.declared.status.Status.{Status}
use Rattle.bridge_spec.specs.declared.status.Status.TheVariants.{Done, Memory, Unwritable}
use Rattle.bridge_answer.specs.declared.answer.Answer.{Answer}
use Rattle.bridge_answer.specs.declared.answer.Answer.TheVariants as answer

-- what is planned can be said by one article, in as many bytes as an article may have; or it can't
abbrev pub IsShort : Planned → Type 0
IsShort plan = (plan.fits ≡ true) × (plan.count ≤ max_article)

abbrev pub IsLong : Planned → Type 0
IsLong plan = (plan.fits ≡ false) ⊎ (max_article < plan.count)

-- a plan of an article that can be written
pub record IsWritablePlan (p : Kept) (version : Version) (run : Accepted) (plan : Planned) : Type 0 where
  pub planned : IsPlanOf p version run plan
  pub writable : IsWritable version run

-- why there is none: no memory, or the article can't be written
abbrev pub IsHindered : Version → Accepted → Answer → Type 0
IsHindered version run answer.Memory = Unit {0}
IsHindered version run answer.Unwritable = IsUnwritable version run
IsHindered version run _ = ⊥

-- what is answered of a run, with its texts
abbrev pub AnswersOfRun : Version → Accepted → Status → List ℕ → List ℕ → Type 0
AnswersOfRun version run Done out note = IsWritable version run × (out ≡ article version run) × (note ≡ [])
AnswersOfRun version run Memory out note = NoteAlone memory_line out note
AnswersOfRun version run Unwritable out note = IsUnwritable version run × NoteAlone unwritable_line out note
AnswersOfRun version run _ out note = ⊥

-- such an answer is delivered
pub record DeliversRun (version : Version) (run : Accepted) (out note : Sunk) (result : Status) : Type 0 where
  pub answer : Status
  pub out_text : List ℕ
  pub note_text : List ℕ
  pub answers : AnswersOfRun version run answer out_text note_text
  pub delivered : Delivers answer out_text note_text out note result
