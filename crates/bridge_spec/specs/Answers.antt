-- When the program gives an answer, and the two texts that belong to it.
use Rattle.std.specs.Prelude.{ℕ, ◌≡◌, Bool, false, not, List, [], ◌∷◌, map, length, Option, None, Some}
use Rattle.std.specs.List.{AllByRecursion}
use Rattle.lp_spec.specs.Modules.{Declaration}
use Rattle.lp_spec.specs.FaultKinds.{fault_of}
use Rattle.bridge_base.specs.Outside.{Files, file, Rose}
use Rattle.hol_spec.specs.ClosedForm.{ClosedSequent}
use Rattle.hol_spec.specs.Proofs.{Accepted}
use Rattle.hol_spec.specs.Mangling.{AreBytes}
use Rattle.hol_spec.specs.declared.Version.{Version}
use Rattle.article_spec.specs.Run.{Outcome, accepted, refused_at, Run}
use Rattle.article_spec.specs.Trial.{trial_text}
use Rattle.article_write_spec.specs.Article.{article as article_of}
use Rattle.article_write_spec.specs.Versions.{IsLastVersion}
use Rattle.bridge_spec.specs.Forms.{Form, verify, translate, check, show, decode, trial}
use Rattle.bridge_spec.specs.Calls.{Shelved, Call}
use Rattle.bridge_spec.specs.Articles.{IsWritable, IsUnwritable}
use Rattle.bridge_spec.specs.FileChecks.{IsRefusedAt, IsAccepted, IsIllTyped, IsOverBudget}
use Rattle.bridge_spec.specs.FileExports.{exports_of, Says, IsNotSequent}
use Rattle.bridge_spec.specs.Texts.{module_text, counts_of, five_lines, six_lines, shown_text, refusal_line, usage_line, read_fault_line, memory_line, checked_of, accepted_line, dk_refusal_line, ill_typed_line, over_budget_line, export_lines, not_sequent_line, unwritable_line}
use Rattle.bridge_spec.specs.declared.status.Status.{Status}
use Rattle.bridge_spec.specs.declared.status.Status.TheVariants.{Done, Refused, Usage, ReadFault, Memory, DkRefused, IllTyped, OverBudget, NotSequent, Unwritable}

-- the bytes of the articles of these names
abbrev pub articles : Files → List (List ℕ) → List (List ℕ)
articles files names = map (file files) names

-- What was read of the files of these names: their bytes where the shelf tells its files, and else some bytes for each name.
abbrev pub AreRead : Option Files → List (List ℕ) → List (List ℕ) → Type 0
AreRead (Some files) names texts = texts ≡ articles files names
AreRead None names texts = (length texts ≡ length names) × AllByRecursion AreBytes texts

-- the outcome of the run of what was read of these files
pub record RunsTo (told : Option Files) (names : List (List ℕ)) (outcome : Outcome) : Type 0 where
  pub texts : List (List ℕ)
  pub read : AreRead told names texts
  pub runs : Run texts outcome

-- the accepted run of what was read of these files, to their ends
pub record IsRunOf (told : Option Files) (names : List (List ℕ)) (run : Accepted) : Type 0 where
  pub texts : List (List ℕ)
  pub read : AreRead told names texts
  pub bytes : AllByRecursion AreBytes texts
  pub runs : Run texts (accepted run)

-- the accepted run of what was read of these files, to their ends, and the version of the last
pub record IsRunOfVersion (told : Option Files) (names : List (List ℕ)) (version : Version) (run : Accepted) : Type 0 where
  pub of : IsRunOf told names run
  pub last : IsLastVersion of.texts version

-- the accepted run of the generated article of so many blocks
abbrev pub IsRunOfTrial : ℕ → Accepted → Type 0
IsRunOfTrial n run = Run (trial_text n ∷ []) (accepted run)

-- the accepted run that a form asks for
abbrev pub FormRun : Option Form → Option Files → Accepted → Type 0
FormRun None told run = ⊥
FormRun (Some (verify share fast names)) told run = IsRunOf told names run
FormRun (Some (translate share names)) told run = IsRunOf told names run
FormRun (Some (check fast name budget)) told run = ⊥
FormRun (Some (show names)) told run = IsRunOf told names run
FormRun (Some (decode name)) told run = ⊥
FormRun (Some (trial n)) told run = IsRunOfTrial n run
FormRun (Some (Form.article names)) told run = IsRunOf told names run

abbrev pub HasRun : Call → Accepted → Type 0
HasRun call run = FormRun call.form call.shelf.told_before run

-- the accepted run of which a form writes one article, of this version
abbrev pub FormArticle : Option Form → Option Files → Version → Accepted → Type 0
FormArticle (Some (Form.article names)) told version run = IsRunOfVersion told names version run × IsWritable version run
FormArticle form told version run = ⊥

abbrev pub HasArticle : Call → Version → Accepted → Type 0
HasArticle call version run = FormArticle call.form call.shelf.told_before version run

-- the shelf failed
abbrev pub ReadFailed : Shelved → Type 0
ReadFailed shelf = Rose shelf.faults_before shelf.faults

-- nothing on standard output, and this line on standard error
abbrev pub NoteAlone : List ℕ → List ℕ → List ℕ → Type 0
NoteAlone line out note = (out ≡ []) × (note ≡ line)

-- Words that are no form: the usage line, or want of memory.
abbrev pub AnswersNoForm : Status → List ℕ → List ℕ → Type 0
AnswersNoForm Usage out note = NoteAlone usage_line out note
AnswersNoForm Memory out note = NoteAlone memory_line out note
AnswersNoForm _ out note = ⊥

-- A run of articles: these texts of an accepted run; or where the run is refused; or what failed.
abbrev pub AnswersRun : (Accepted → List ℕ) → (Accepted → List ℕ) → List (List ℕ) → Shelved → Status → List ℕ → List ℕ → Type 0
AnswersRun out_of note_of names shelf Done out note = (run : Accepted) × IsRunOf shelf.told_before names run × (out ≡ out_of run) × (note ≡ note_of run)
AnswersRun out_of note_of names shelf (Refused article line kind) out note =
    RunsTo shelf.told_before names (refused_at article line kind) × NoteAlone (refusal_line article line kind) out note
AnswersRun out_of note_of names shelf ReadFault out note = ReadFailed shelf × NoteAlone read_fault_line out note
AnswersRun out_of note_of names shelf Memory out note = NoteAlone memory_line out note
AnswersRun out_of note_of names shelf _ out note = ⊥

-- `verify`: the module of the run, with shared abbreviations or without, and its counts. The module is checked before it is written: that this
-- changes no answer is part of the promise.
abbrev pub AnswersVerify : Bool → List (List ℕ) → Shelved → Status → List ℕ → List ℕ → Type 0
AnswersVerify share names shelf status out note =
    AnswersRun (module_text share) (λ run. six_lines (counts_of share (length names) run)) names shelf status out note

-- `translate`: the same without the check, and without its line.
abbrev pub AnswersTranslate : Bool → List (List ℕ) → Shelved → Status → List ℕ → List ℕ → Type 0
AnswersTranslate share names shelf status out note =
    AnswersRun (module_text share) (λ run. five_lines (counts_of share (length names) run)) names shelf status out note

-- `show`: what the run assumes and exports.
abbrev pub AnswersShow : List (List ℕ) → Shelved → Status → List ℕ → List ℕ → Type 0
AnswersShow names shelf status out note = AnswersRun shown_text (λ run. []) names shelf status out note

-- `check`: the counts of a module that the file reads as and that is accepted; or where the file is refused, or the first declaration that
-- does not pass; or what failed.
abbrev pub AnswersCheck : Bool → List ℕ → ℕ → Shelved → Status → List ℕ → List ℕ → Type 0
AnswersCheck rechecks name budget shelf Done out note =
    (m : List Declaration) × IsAccepted rechecks shelf.told_before name m × (out ≡ accepted_line (checked_of m)) × (note ≡ [])
AnswersCheck rechecks name budget shelf ReadFault out note = ReadFailed shelf × NoteAlone read_fault_line out note
AnswersCheck rechecks name budget shelf Memory out note = NoteAlone memory_line out note
AnswersCheck rechecks name budget shelf (DkRefused place kind) out note =
    IsRefusedAt shelf.told_before name place kind × NoteAlone (dk_refusal_line place (fault_of kind)) out note
AnswersCheck rechecks name budget shelf (IllTyped i) out note = IsIllTyped rechecks shelf.told_before name i × NoteAlone (ill_typed_line i) out note
AnswersCheck rechecks name budget shelf (OverBudget i) out note =
    IsOverBudget rechecks shelf.told_before name budget i × NoteAlone (over_budget_line i) out note
AnswersCheck rechecks name budget shelf _ out note = ⊥

-- `decode`: a line for each export of a module that the file reads as, with the closed sequent for which its type stands; or where the file
-- is refused, or the first export that stands for none; or what failed.
abbrev pub AnswersDecode : List ℕ → Shelved → Status → List ℕ → List ℕ → Type 0
AnswersDecode name shelf Done out note =
    (m : List Declaration) × (ss : List ClosedSequent) × Says shelf.told_before name m ss × (out ≡ export_lines (exports_of m) ss) × (note ≡ [])
AnswersDecode name shelf ReadFault out note = ReadFailed shelf × NoteAlone read_fault_line out note
AnswersDecode name shelf Memory out note = NoteAlone memory_line out note
AnswersDecode name shelf (DkRefused place kind) out note =
    IsRefusedAt shelf.told_before name place kind × NoteAlone (dk_refusal_line place (fault_of kind)) out note
AnswersDecode name shelf (NotSequent i) out note = IsNotSequent shelf.told_before name i × NoteAlone (not_sequent_line i) out note
AnswersDecode name shelf _ out note = ⊥

-- `trial`: the counts of the accepted run of the generated article, whose module was checked; or want of memory. No file is read, and nothing is
-- refused.
abbrev pub AnswersTrial : ℕ → Status → List ℕ → List ℕ → Type 0
AnswersTrial n Done out note = (run : Accepted) × IsRunOfTrial n run × (out ≡ six_lines (counts_of false 1 run)) × (note ≡ [])
AnswersTrial n Memory out note = NoteAlone memory_line out note
AnswersTrial n _ out note = ⊥

-- `article`: one article of what the run exports, of the version of the last that was read; or where the run is refused, or one article can't
-- say it; or what failed.
abbrev pub AnswersArticle : List (List ℕ) → Shelved → Status → List ℕ → List ℕ → Type 0
AnswersArticle names shelf Done out note =
    (version : Version) × (run : Accepted) × IsRunOfVersion shelf.told_before names version run × IsWritable version run × (out ≡ article_of version run)
    × (note ≡ [])
AnswersArticle names shelf (Refused article line kind) out note =
    RunsTo shelf.told_before names (refused_at article line kind) × NoteAlone (refusal_line article line kind) out note
AnswersArticle names shelf ReadFault out note = ReadFailed shelf × NoteAlone read_fault_line out note
AnswersArticle names shelf Memory out note = NoteAlone memory_line out note
AnswersArticle names shelf Unwritable out note =
    (version : Version) × (run : Accepted) × IsRunOfVersion shelf.told_before names version run × IsUnwritable version run × NoteAlone unwritable_line out note
AnswersArticle names shelf _ out note = ⊥

-- The answers of each form, before anything is written.
abbrev pub FormAnswers : Option Form → Shelved → Status → List ℕ → List ℕ → Type 0
FormAnswers None shelf status out note = AnswersNoForm status out note
FormAnswers (Some (verify share fast names)) shelf status out note = AnswersVerify share names shelf status out note
FormAnswers (Some (translate share names)) shelf status out note = AnswersTranslate share names shelf status out note
FormAnswers (Some (check fast name budget)) shelf status out note = AnswersCheck (not fast) name budget shelf status out note
FormAnswers (Some (show names)) shelf status out note = AnswersShow names shelf status out note
FormAnswers (Some (decode name)) shelf status out note = AnswersDecode name shelf status out note
FormAnswers (Some (trial n)) shelf status out note = AnswersTrial n status out note
FormAnswers (Some (Form.article names)) shelf status out note = AnswersArticle names shelf status out note

-- The answer comes by its cause, with these texts on standard output and on standard error.
abbrev pub Answers : Call → Status → List ℕ → List ℕ → Type 0
Answers call status out note = FormAnswers call.form call.shelf status out note
