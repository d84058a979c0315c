-- What is left to write, and what a job does.
use Rattle.std.specs.Prelude.{◌≡◌, ℕ, ◌<◌, List, [], ◌∷◌, ◌++◌, length, pos, Option, Result, OnOk, OnErr}
use Rattle.std.specs.List.{AllByRecursion}
use Rattle.bridge_base.specs.Outside.{Gains, GainsFront, HasCause}
use Rattle.hol_term.specs.Tables.{Trees}
use Rattle.article_spec.specs.declared.commands.Item.{Item}
use Rattle.article_spec.specs.declared.commands.Item.TheVariants as item
use Rattle.article_spec.specs.declared.commands.Word.TheVariants as word
use Rattle.article_write_spec.specs.ItemTexts.{text_of}
use Rattle.article_write_spec.specs.Drafts.{Kept, Draft}
use Rattle.article_steps.specs.Agenda.{Agenda}
use Rattle.article_lines.specs.Things.{Keyed}
use Rattle.article_lines.specs.KeptThings.{all_kept_at, IsThing, AreDistinct}
use Rattle.article_steps.specs.Said.{fresh, said, kept_by, Tells}
use Rattle.article_steps.specs.Agendas.{do_jobs, work, IsRoomy, AreJobs}

-- of a text that was to come to a sink, it got what was before the rest
pub record Gained (old : Option (List ℕ)) (whole left : List ℕ) (now : Option (List ℕ)) : Type 0 where
  pub done : List ℕ
  pub gains : Gains old done now
  pub rest : whole ≡ done ++ left

-- what has keys, as trees
abbrev pub kept_of : Trees → Keyed → List Kept
kept_of trees keys = all_kept_at trees keys.things

-- keys of types and terms of the tables, with room for all of them; no tree of the tables has two numbers
pub record AreKeysOf (trees : Trees) (keys : Keyed) : Type 0 where
  pub types : keys.types ≡ length trees.types
  pub terms : keys.terms ≡ length trees.terms
  pub things : AllByRecursion (IsThing trees keys.theorems) keys.things
  pub distinct : AreDistinct trees

module _ (trees : Trees) (q : ℕ) where
  -- an agenda in order, where these keys are given
  pub record IsReady (a : Agenda) (keys : Keyed) : Type 0 where
    pub jobs : AreJobs trees q a.room a.binders a.jobs (fresh (kept_of trees keys))
    pub known : AreKeysOf trees keys
    pub roomy : IsRoomy trees a.room

  -- the text that is left, and what has keys at its end
  unfoldable pub left_text : Agenda → Keyed → List ℕ
  left_text a keys = said (do_jobs trees q a.binders a.jobs) (kept_of trees keys)

  -- with these commands one agenda goes over into another, which is less
  pub record Steps (old : Agenda) (keys : Keyed) (items : List Item) (new : Agenda) (keys_now : Keyed) : Type 0 where
    pub rest : do_jobs trees q old.binders old.jobs (fresh (kept_of trees keys))
        ≡ do_jobs trees q new.binders new.jobs (record { commands = items; kept = kept_of trees keys_now })
    pub jobs : AreJobs trees q new.room new.binders new.jobs (record { commands = items; kept = kept_of trees keys_now })
    pub known : AreKeysOf trees keys_now
    pub count : keys_now.theorems ≡ keys.theorems
    pub room : new.room ≡ old.room
    pub less : work trees q new.binders new.jobs < work trees q old.binders old.jobs

  -- of what was left the sink got a first part, and the rest is left; where the call failed the sink got a front of it, and its count of faults rose
  pub record Goes {T E : Type 0} (old : Agenda) (keys : Keyed) (got : Option (List ℕ)) (faults : ℕ) (new : Agenda) (keys_now : Keyed)
      (got_now : Option (List ℕ)) (faults_now : ℕ) (result : Result T E) : Type 0 where
    pub ok : OnOk result (Gained got (left_text old keys) (left_text new keys_now) got_now)
    pub keeps : OnOk result (kept_by (do_jobs trees q new.binders new.jobs) (kept_of trees keys_now)
        ≡ kept_by (do_jobs trees q old.binders old.jobs) (kept_of trees keys))
    pub ready : OnOk result (IsReady new keys_now)
    pub count : OnOk result (keys_now.theorems ≡ keys.theorems)
    pub less : OnOk result (work trees q new.binders new.jobs < work trees q old.binders old.jobs)
    pub room : new.room ≡ old.room
    pub err : OnErr result (GainsFront got (left_text old keys) got_now)
    pub cause : HasCause faults faults_now result

-- keys and room to write with: room for the deepest trees of the tables
pub record IsOpen (trees : Trees) (keys : Keyed) (room : ℕ) : Type 0 where
  pub known : AreKeysOf trees keys
  pub roomy : IsRoomy trees room

-- The writer's text was written, and its keys given; where the call failed the sink got a front of the text, and its count of faults rose.
pub record Adds {T E : Type 0} (trees : Trees) (write : Draft → Draft) (keys : Keyed) (got : Option (List ℕ)) (faults : ℕ) (keys_now : Keyed) (room_now : ℕ)
    (got_now : Option (List ℕ)) (faults_now : ℕ) (result : Result T E) : Type 0 where
  pub tells : Tells write (kept_of trees keys) got faults (kept_of trees keys_now) got_now faults_now result
  pub ready : OnOk result (IsOpen trees keys_now room_now)
  pub count : OnOk result (keys_now.theorems ≡ keys.theorems)

-- The two for a sink, by what it got and its count of faults.
module _ {S T E : Type 0} (got : S → Option (List ℕ)) (faults : S → ℕ) where
  abbrev pub AddsTo : Trees → (Draft → Draft) → Keyed → S → Keyed → ℕ → S → Result T E → Type 0
  AddsTo trees write keys sink keys_now room_now sink_now result =
      Adds trees write keys (got sink) (faults sink) keys_now room_now (got sink_now) (faults sink_now) result

  abbrev pub GoesTo : Trees → ℕ → Agenda → Keyed → S → Agenda → Keyed → S → Result T E → Type 0
  GoesTo trees q old keys sink new keys_now sink_now result =
      Goes trees q old keys (got sink) (faults sink) new keys_now (got sink_now) (faults sink_now) result

  -- with room of any size, and of any tables: the call has neither
  abbrev pub AddsInAny : Trees → (Draft → Draft) → Keyed → S → Keyed → S → Result T E → Type 0
  AddsInAny trees write keys sink keys_now sink_now result = (room : ℕ) → IsOpen trees keys room → AddsTo trees write keys sink keys_now room sink_now result

  abbrev pub AddsOfAny : (Draft → Draft) → Keyed → S → Keyed → S → Result T E → Type 0
  AddsOfAny write keys sink keys_now sink_now result = (trees : Trees) → AddsInAny trees write keys sink keys_now sink_now result

  abbrev pub GoesOfAny : Agenda → S → Agenda → S → Result T E → Type 0
  GoesOfAny old sink new sink_now result =
      (trees : Trees) (q : ℕ) (keys : Keyed) → IsReady trees q old keys → GoesTo trees q old keys sink new keys sink_now result

-- without a command, whatever has keys
abbrev pub StepsOfAny : Trees → Agenda → Agenda → Type 0
StepsOfAny trees old new = (q : ℕ) (keys : Keyed) → IsReady trees q old keys → Steps trees q old keys [] new keys

-- what the jobs of an agenda write
abbrev pub jobs_writer : Trees → ℕ → Agenda → Draft → Draft
jobs_writer trees q a = do_jobs trees q a.binders a.jobs

-- the lines that give the next key
abbrev pub def_text : Keyed → List ℕ
def_text keys = text_of (item.Number (pos (length keys.things)) ∷ item.Word word.Def ∷ [])
