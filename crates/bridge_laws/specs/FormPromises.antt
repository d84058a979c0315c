-- What a call promises comes of what it does, of the headline of runs, and of the law of articles.
use Rattle.std.proofs.Common.{◌∷◌, ℕ, Bool, List, [], Option, None, Some}
use Rattle.bridge_base.specs.Outside.{Files}
use Rattle.hol_spec.specs.Proofs.{Accepted}
use Rattle.hol_spec.specs.declared.Version.{Version}
use Rattle.article_spec.specs.Trial.{trial_text}
use Rattle.bridge_spec.specs.Forms.{Form, verify, translate, check, show, decode, trial}
use Rattle.bridge_spec.specs.Headline.{Headline}
use Rattle.bridge_spec.specs.Articles.{IsWritable, IsRetold}
use Rattle.bridge_spec.specs.Calls.{Call}
use Rattle.bridge_spec.specs.Answers.{IsRunOf, IsRunOfTrial, IsRunOfVersion, FormRun, FormArticle}
use Rattle.bridge_spec.specs.Promises.{Performs, Promise}
use Rattle.bridge_spec.specs.declared.status.Status.{Status}
use Rattle.bridge_laws.specs.ArticleHeadlines.{each_run_is_retold}
use Rattle.bridge_laws.specs.Headlines.{each_run_carries}
use Rattle.bridge_laws.specs.TrialBytes.{trial_text-bytes}

-- The headline, for the run that a form asks for
run-headline : (share : Bool) (told : Option Files) (names : List (List ℕ)) (run : Accepted) → IsRunOf told names run → Headline share run
run-headline share told names run r = each_run_carries share r.texts run r.bytes r.runs

-- so it is with the run of a generated article
pub trial-headline : (share : Bool) (n : ℕ) (run : Accepted) → IsRunOfTrial n run → Headline share run
trial-headline share n run r = each_run_carries share (trial_text n ∷ []) run (trial_text-bytes n, tt) r

form-headline : (share : Bool) (form : Option Form) (told : Option Files) (run : Accepted) → FormRun form told run → Headline share run
form-headline share None told run h = absurd h
form-headline share (Some (verify _ fast names)) told run h = run-headline share told names run h
form-headline share (Some (translate _ names)) told run h = run-headline share told names run h
form-headline share (Some (check fast name budget)) told run h = absurd h
form-headline share (Some (show names)) told run h = run-headline share told names run h
form-headline share (Some (decode name)) told run h = absurd h
form-headline share (Some (trial n)) told run h = trial-headline share n run h
form-headline share (Some (Form.article names)) told run h = run-headline share told names run h

-- The law of articles, for the article that a form writes
run-retold : (told : Option Files) (names : List (List ℕ)) (version : Version) (run : Accepted) → IsRunOfVersion told names version run → IsWritable version run
    → IsRetold version run
run-retold told names version run r h = each_run_is_retold r.of.texts version run r.of.runs h

form-retold : (form : Option Form) (told : Option Files) (version : Version) (run : Accepted) → FormArticle form told version run → IsRetold version run
form-retold None told version run h = absurd h
form-retold (Some (verify share fast names)) told version run h = absurd h
form-retold (Some (translate share names)) told version run h = absurd h
form-retold (Some (check fast name budget)) told version run h = absurd h
form-retold (Some (show names)) told version run h = absurd h
form-retold (Some (decode name)) told version run h = absurd h
form-retold (Some (trial n)) told version run h = absurd h
form-retold (Some (Form.article names)) told version run h = run-retold told names version run h.0 h.1

-- All that a call promises comes of what it does.
pub Performs-Promise : (call : Call) (result : Status) → Performs call result → Promise call result
Performs-Promise call result h = record {
  outputs = h.outputs;
  headline = λ share run has. form-headline share call.form call.shelf.told_before run has;
  retold = λ version run has. form-retold call.form call.shelf.told_before version run has;
  told_kept = h.told_kept;
  shelf_count = h.shelf_count;
  out_count = h.out_count;
  note_count = h.note_count;
}
