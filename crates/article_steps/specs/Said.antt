-- What a writer of drafts says by itself: its text, and what has keys then. Both depend on what has keys before, and on nothing else.
use Rattle.std.specs.Prelude.{ℕ, ◌≡◌, List, [], ◌++◌, Option, Result, OnOk}
use Rattle.article_spec.specs.declared.commands.Item.{Item}
use Rattle.article_write_spec.specs.ItemTexts.{text_of}
use Rattle.article_write_spec.specs.Drafts.{Kept, Draft}
use Rattle.article_lines.specs.Writing.{Writes}

-- the draft without commands, where these things have keys
abbrev pub fresh : List Kept → Draft
fresh kept = record { commands = []; kept = kept }

unfoldable pub said : (Draft → Draft) → List Kept → List ℕ
said write kept = text_of (write (fresh kept)).commands

unfoldable pub kept_by : (Draft → Draft) → List Kept → List Kept
kept_by write kept = (write (fresh kept)).kept

-- a draft behind these commands
abbrev pub behind : List Item → Draft → Draft
behind items d = record { commands = items ++ d.commands; kept = d.kept }

-- what is written behind commands is written as without them
pub record IsAppending (write : Draft → Draft) : Type 0 where
  pub each : (items : List Item) (d : Draft) → write (behind items d) ≡ behind items (write d)

-- the sink got what is said, and these things have keys then; where the call failed the sink got a front of it, and its count of faults rose
pub record Tells {T E : Type 0} (write : Draft → Draft) (kept : List Kept) (old : Option (List ℕ)) (faults : ℕ) (kept_now : List Kept) (new : Option (List ℕ))
    (faults_now : ℕ) (result : Result T E) : Type 0 where
  pub writes : Writes old faults (said write kept) new faults_now result
  pub keeps : OnOk result (kept_now ≡ kept_by write kept)
