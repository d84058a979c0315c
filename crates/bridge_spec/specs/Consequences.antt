-- What follows from the promise of a call.
use Rattle.std.specs.Prelude.{ℕ, ◌≡◌, ◌<◌, ◌≤◌, ◌⊎◌, Bool, not, List, Option, IsTrue, None, Some, is_some, length}
use Rattle.std.specs.List.{AllByRecursion}
use Rattle.lp_spec.specs.Trees.{Tree}
use Rattle.lp_spec.specs.Modules.{Declaration}
use Rattle.lp_spec.specs.Reading.{Reads}
use Rattle.lp_spec.specs.Typing.{WellTyped}
use Rattle.lp_spec.specs.Check.{Found, No}
use Rattle.bridge_base.specs.Outside.{Files, file}
use Rattle.hol_spec.specs.ClosedForm.{ClosedSequent}
use Rattle.hol_spec.specs.Mangling.{AreBytes}
use Rattle.hol_spec.specs.Proofs.{Accepted}
use Rattle.hol_spec.specs.declared.Version.{Version}
use Rattle.article_spec.specs.Run.{Outcome, accepted, refused_at, Run}
use Rattle.article_write_spec.specs.Article.{article as article_of}
use Rattle.article_write_spec.specs.Versions.{IsLastVersion}
use Rattle.bridge_spec.specs.Forms.{Form, verify, translate, check, show, decode, trial}
use Rattle.bridge_spec.specs.Calls.{Shelved, Sunk, Call}
use Rattle.bridge_spec.specs.FileChecks.{IsReadOf, ReadsAs, IsRefusedAt, EndsWithin, max_file}
use Rattle.bridge_spec.specs.FileExports.{Says, IsNotSequent}
use Rattle.bridge_spec.specs.Answers.{RunsTo, IsRunOfVersion, ReadFailed}
use Rattle.bridge_spec.specs.Outputs.{Failed, Gained}
use Rattle.bridge_spec.specs.Articles.{IsWritable, IsUnwritable, IsRetold}
use Rattle.bridge_spec.specs.Promises.{Promise}
use Rattle.bridge_spec.specs.Texts.{module_bounds, module_text}
use Rattle.bridge_spec.specs.declared.status.Status.{Status}
use Rattle.bridge_spec.specs.declared.status.Status.TheVariants.{Done, Refused, Usage, ReadFault, WriteFault, Memory, DkRefused, IllTyped, NotSequent, Unwritable}

-- the check of each of the first declarations says yes, each at a price within the budget
abbrev pub PassWithin : Bool → List Declaration → ℕ → ℕ → Type 0
PassWithin rechecks m budget count = (k : ℕ) → k < count → (found : Tree) × EndsWithin rechecks m budget k (Found found)

-- the file of that name reads as a module whose declarations all pass within the budget
pub record PassesWithin (rechecks : Bool) (told : Option Files) (name : List ℕ) (budget : ℕ) : Type 0 where
  pub m : List Declaration
  pub file : ReadsAs told name m
  pub pass : PassWithin rechecks m budget (length m)

-- the file of that name reads as a module of which the declarations before this one pass within the budget, and the check of this one
-- says no within it
pub record FailsWithin (rechecks : Bool) (told : Option Files) (name : List ℕ) (budget i : ℕ) : Type 0 where
  pub m : List Declaration
  pub file : ReadsAs told name m
  pub before : PassWithin rechecks m budget i
  pub no : EndsWithin rechecks m budget i No

-- the text reads as one module, and that module is well typed
pub record ReadsWellTyped (text : List ℕ) : Type 0 where
  pub m : List Declaration
  pub reads : Reads text m
  pub only : (other : List Declaration) → Reads text other → other ≡ m
  pub typed : WellTyped m

-- the shelf tells its files, and didn't fail
pub record ReadWell (shelf : Shelved) : Type 0 where
  pub tells : IsTrue (is_some shelf.told_before)
  pub no_fault : ReadFailed shelf → ⊥

-- the fact holds, want of memory and a failing write aside
abbrev pub Aside : Status → Type 0 → Type 0
Aside WriteFault fact = Unit {0}
Aside Memory fact = Unit {0}
Aside _ fact = fact

-- what a run of this outcome is answered with
abbrev pub answer_of : Outcome → Status
answer_of (accepted run) = Done
answer_of (refused_at article line kind) = Refused article line kind

-- the run of these files is answered so
pub record IsAnswerOfRun (told : Option Files) (names : List (List ℕ)) (status : Status) : Type 0 where
  pub outcome : Outcome
  pub runs : RunsTo told names outcome
  pub is : status ≡ answer_of outcome

-- A check must be answered so: the file passes within the budget, is refused, or has a first declaration that fails within the budget.
abbrev pub IsDueOfCheck : Bool → Option Files → List ℕ → ℕ → Status → Type 0
IsDueOfCheck rechecks told name budget Done = PassesWithin rechecks told name budget
IsDueOfCheck rechecks told name budget (DkRefused place kind) = IsRefusedAt told name place kind
IsDueOfCheck rechecks told name budget (IllTyped i) = FailsWithin rechecks told name budget i
IsDueOfCheck rechecks told name budget _ = ⊥

-- A decoding must be answered so: each export says a closed sequent, the file is refused, or there is a first export that says none.
abbrev pub IsDueOfDecode : Option Files → List ℕ → Status → Type 0
IsDueOfDecode told name Done = (m : List Declaration) × (ss : List ClosedSequent) × Says told name m ss
IsDueOfDecode told name (DkRefused place kind) = IsRefusedAt told name place kind
IsDueOfDecode told name (NotSequent i) = IsNotSequent told name i
IsDueOfDecode told name _ = ⊥

-- these files run to their ends, and the last is of this version
pub record RunsToVersion (told : Option Files) (names : List (List ℕ)) (version : Version) (run : Accepted) : Type 0 where
  pub to : RunsTo told names (accepted run)
  pub last : IsLastVersion to.texts version

-- The article of what these files export must be answered so: the run is accepted and its article can be written, or cannot, or the run is refused.
abbrev pub IsDueOfArticle : Option Files → List (List ℕ) → Status → Type 0
IsDueOfArticle told names Done = (version : Version) × (run : Accepted) × RunsToVersion told names version run × IsWritable version run
IsDueOfArticle told names (Refused place line kind) = RunsTo told names (refused_at place line kind)
IsDueOfArticle told names Unwritable = (version : Version) × (run : Accepted) × RunsToVersion told names version run × IsUnwritable version run
IsDueOfArticle told names _ = ⊥

-- The files of the form must be answered so, where they are read without a fault; a trial, which reads none, is done.
abbrev pub IsDue : Option Form → Option Files → Status → Type 0
IsDue None told status = status ≡ Usage
IsDue (Some (verify share fast names)) told status = IsAnswerOfRun told names status
IsDue (Some (translate share names)) told status = IsAnswerOfRun told names status
IsDue (Some (check fast name budget)) told status = IsDueOfCheck (not fast) told name budget status
IsDue (Some (show names)) told status = IsAnswerOfRun told names status
IsDue (Some (decode name)) told status = IsDueOfDecode told name status
IsDue (Some (trial n)) told status = status ≡ Done
IsDue (Some (Form.article names)) told status = IsDueOfArticle told names status

-- standard output is as before at every answer but Done and a write fault
abbrev pub KeepsOut : Status → Sunk → Type 0
KeepsOut Done out = Unit {0}
KeepsOut WriteFault out = Unit {0}
KeepsOut _ out = out.got ≡ out.got_before

-- a form that writes the module of its run
abbrev pub WritesModule : Option Form → Type 0
WritesModule (Some (verify share fast names)) = Unit {0}
WritesModule (Some (translate share names)) = Unit {0}
WritesModule _ = ⊥

-- the sink gained a text that reads as one module, which is well typed
pub record GainsModule (out : Sunk) : Type 0 where
  pub text : List ℕ
  pub gained : Gained out text
  pub typed : ReadsWellTyped text

-- the file of that name has the text of the module of an accepted run of articles of bytes, with shared abbreviations or without, within the
-- limit of a file
pub record HasModule (told : Option Files) (name : List ℕ) : Type 0 where
  pub share : Bool
  pub texts : List (List ℕ)
  pub run : Accepted
  pub bytes : AllByRecursion AreBytes texts
  pub runs : Run texts (accepted run)
  pub read : IsReadOf told name (module_text share run)
  pub within : length (module_text share run) ≤ max_file

-- the sink gained the article of the accepted run of these files, of the version of the last, which tells the run again
pub record GainsArticle (told : Option Files) (names : List (List ℕ)) (out : Sunk) : Type 0 where
  pub version : Version
  pub run : Accepted
  pub of : IsRunOfVersion told names version run
  pub gained : Gained out (article_of version run)
  pub retold : IsRetold version run

-- the form writes an article, and one cannot say what the run of its files exports
abbrev pub FormUnwritable : Option Form → Option Files → Type 0
FormUnwritable (Some (Form.article names)) told = (version : Version) × (run : Accepted) × IsRunOfVersion told names version run × IsUnwritable version run
FormUnwritable form told = ⊥

-- Of a call that keeps its promise:
pub record Consequences (call : Call) (result : Status) : Type 0 where
  -- Where the shelf tells its files and didn't fail, the answer is the one that is due: that of the run of the articles, for `verify`,
  -- `translate` and `show`, and for `article` too, but Unwritable where one article cannot say what the run exports; of the check of a file that is
  -- refused, or whose declarations pass, or fail at the first that doesn't pass, within the budget; or of what the exports of a file that `decode` is
  -- given say; or Done, for `trial`.
  pub exact : ReadWell call.shelf → (status : Status) → IsDue call.form call.shelf.told_before status → Aside result (result ≡ status)
  -- Whatever the shelf tells, at Done what was written as the module of the run reads as one well-typed module.
  pub written : WritesModule call.form → result ≡ Done → GainsModule call.out
  -- At Done of `article` what was written is the article of the run, whatever the shelf tells, and it tells the run again.
  pub retold : (names : List (List ℕ)) → call.form ≡ Some (Form.article names) → result ≡ Done → GainsArticle call.shelf.told_before names call.out
  -- Unwritable is answered only where `article` was asked for, and one article cannot say what the run of its files exports.
  pub unwritable : result ≡ Unwritable → FormUnwritable call.form call.shelf.told_before
  -- A file with the module of a run passes under a budget of at least each of its bounds ..
  pub passes : ReadWell call.shelf → (fast : Bool) (name : List ℕ) (budget : ℕ) → call.form ≡ Some (check fast name budget)
      → (file : HasModule call.shelf.told_before name) → AllByRecursion (λ bound. bound ≤ budget) (module_bounds file.share file.run)
      → Aside result (result ≡ Done)
  -- .. and is ill typed under no budget.
  pub never_ill_typed : ReadWell call.shelf → (fast : Bool) (name : List ℕ) (budget i : ℕ) → call.form ≡ Some (check fast name budget)
      → HasModule call.shelf.told_before name → result ≡ IllTyped i → ⊥
  -- The checker's law: a file that is told and accepted reads as one module, and that module is well typed.
  pub checked : (fast : Bool) (name : List ℕ) (budget : ℕ) (files : Files) → call.form ≡ Some (check fast name budget) → call.shelf.told_before ≡ Some files
      → result ≡ Done → ReadsWellTyped (file files name)
  -- A trial is done, whatever the shelf tells and does.
  pub trial_done : (n : ℕ) → call.form ≡ Some (trial n) → Aside result (result ≡ Done)
  -- Words that are no form are answered with Usage ..
  pub usage : call.form ≡ None → Aside result (result ≡ Usage)
  -- .. and no others.
  pub usage_alone : result ≡ Usage → call.form ≡ None
  -- A read fault is answered only where the shelf failed.
  pub read_fault : result ≡ ReadFault → ReadFailed call.shelf
  -- A write fault is answered only where standard output or standard error failed.
  pub write_fault : result ≡ WriteFault → Failed call.out ⊎ Failed call.note
  -- Standard output is as before, but at Done and at a write fault.
  pub out_kept : KeepsOut result call.out

-- So it is with every call that keeps its promise.
abbrev pub EachPromiseBears : Type 0
EachPromiseBears = (call : Call) (result : Status) → Promise call result → Consequences call result
