-- The walk of `clap` over the words after `verify` and `translate`, step by step beside the definition, which reads them from left to right.
use Rattle.std.proofs.Common.{◌≡◌, ◌∙◌, ◌++◌, ◌&&◌, ◌||◌, ℕ, Bool, true, false, List, [], ◌∷◌, Option, Some, None, option_map, codes, refl, sym, ap, ap₂}
use Rattle.std.specs.Prelude.{◌==◌, if◌then◌else◌, unwrap_or}
use Rattle.std.specs.List.{AllByRecursion, fold}
use Rattle.clap.specs.Walk.{Rule, Row, Text, Walk, Held, Waiting, idle, positional, rows_after, walked, settled, settled_rows, finished, reading_by, used, is_pending, has_row, more_values, with_default}
use Rattle.clap.specs.Simple.{Shape}
use Rattle.clap.specs.Kinds.{Kinds, or_else}
use Rattle.clap.specs.Faults.{walk_fault, turn_fault, defaults_fault, settle_fault, check_fault}
use Rattle.clap.specs.declared.parser.matches.ValueSource.TheVariants.{CommandLine}
use Rattle.clap.specs.declared.error.kind.ErrorKind.{ErrorKind}
use Rattle.clap.specs.declared.error.kind.ErrorKind.TheVariants.{UnknownArgument, ArgumentConflict, TooManyValues}
use Rattle.bridge_spec.specs.Forms as forms
use Rattle.bridge_spec.specs.Forms.{Form, Running, running, run_in, run_after, verify_form, translate_form}
use Rattle.bridge_words.specs.Commands.{files_rule}
use Rattle.bridge_words.specs.Matches.{flag_in, read_run, read_verify, read_translate}
use Rattle.bridge_words.proofs.WordKinds.{Kind, IsOther, file, budget, named, fast, share, fast_valued, share_valued, other}
use Rattle.bridge_words.proofs.BuiltCommand.{filled_rule, flag_arg, leaf, verify_leaf, translate_leaf}
use Rattle.bridge_words.proofs.Leaves.{taken, fault}
use Rattle.bridge_words.proofs.Rows.{row_at, with_values-None, row_at-other, row_at-same, row_at-changed, row_at-kept}
use Rattle.bridge_words.proofs.Flags.{row_of_use, flag_row, row_if, with_flag, used-flag, has_flag, no-default, flag-default, row_at-with_flag, says, flag_in-with_flag, or_true}

abbrev files_arg : Rule
files_arg = filled_rule (Some 1) files_rule

abbrev share_arg : Rule
share_arg = flag_arg (codes "share")

abbrev fast_arg : Rule
fast_arg = flag_arg (codes "fast")

abbrev share_row : Row
share_row = flag_row (codes "share")

abbrev fast_row : Row
fast_row = flag_row (codes "fast")

-- the command: `verify` where `--fast` may stand among its words, `translate` where it may not
abbrev rules : Bool → List Rule
rules true = files_arg ∷ share_arg ∷ fast_arg ∷ []
rules false = files_arg ∷ share_arg ∷ []

abbrev name_of : Bool → Text
name_of true = codes "verify"
name_of false = codes "translate"

abbrev run_leaf : Bool → Shape
run_leaf fast_too = leaf (name_of fast_too) (rules fast_too)

-- the form of what was read
abbrev made : Bool → Running → Form
made true = λ g. forms.verify g.share g.fast g.files
made false = λ g. forms.translate g.share g.files

-- ---- the rows of what was read

abbrev files_row : List Text → Option Row
files_row [] = None
files_row (f ∷ fs) = Some (row_of_use files_arg (f ∷ fs))

record Shows (g : Running) (rows : List Row) : Type 0 where
  files : row_at (codes "file") rows ≡ files_row g.files
  share : row_at (codes "share") rows ≡ row_if g.share share_row
  fast : row_at (codes "fast") rows ≡ row_if g.fast fast_row

-- one more file
Shows-file : (fs : List Text) (s x : Bool) (rows : List Row) (w : Text) → Shows (running fs s x) rows
    → Shows (running (fs ++ w ∷ []) s x) (used files_arg (w ∷ []) rows)
Shows-file [] s x rows w h =
    let last = with_values-None (codes "file") (reading_by files_arg) CommandLine (w ∷ []) rows h.files in
    record {
      files = ap (row_at (codes "file")) last ∙ row_at-same (codes "file") (row_of_use files_arg (w ∷ [])) rows refl h.files;
      share = ap (row_at (codes "share")) last ∙ row_at-other (codes "share") (row_of_use files_arg (w ∷ [])) rows refl ∙ h.share;
      fast = ap (row_at (codes "fast")) last ∙ row_at-other (codes "fast") (row_of_use files_arg (w ∷ [])) rows refl ∙ h.fast;
    }
Shows-file (f ∷ fs) s x rows w h = record {
  files = row_at-changed (codes "file") (more_values CommandLine (w ∷ [])) (row_of_use files_arg (w ∷ []) ∷ []) rows (row_of_use files_arg (f ∷ fs))
      (row_of_use files_arg (f ∷ fs ++ w ∷ [])) h.files refl refl;
  share = row_at-kept (codes "file") (codes "share") (more_values CommandLine (w ∷ [])) (row_of_use files_arg (w ∷ []) ∷ []) rows
      (row_of_use files_arg (f ∷ fs)) (row_of_use files_arg (f ∷ fs ++ w ∷ [])) h.files refl refl refl ∙ h.share;
  fast = row_at-kept (codes "file") (codes "fast") (more_values CommandLine (w ∷ [])) (row_of_use files_arg (w ∷ []) ∷ []) rows (row_of_use files_arg (f ∷ fs))
      (row_of_use files_arg (f ∷ fs ++ w ∷ [])) h.files refl refl refl ∙ h.fast;
}

-- a flag
Shows-share : (fs : List Text) (x : Bool) (rows : List Row) → Shows (running fs false x) rows → Shows (running fs true x) (rows ++ share_row ∷ [])
Shows-share fs x rows h = record {
  files = row_at-other (codes "file") share_row rows refl ∙ h.files;
  share = row_at-same (codes "share") share_row rows refl h.share;
  fast = row_at-other (codes "fast") share_row rows refl ∙ h.fast;
}

Shows-fast : (fs : List Text) (s : Bool) (rows : List Row) → Shows (running fs s false) rows → Shows (running fs s true) (rows ++ fast_row ∷ [])
Shows-fast fs s rows h = record {
  files = row_at-other (codes "file") fast_row rows refl ∙ h.files;
  share = row_at-other (codes "share") fast_row rows refl ∙ h.share;
  fast = row_at-same (codes "fast") fast_row rows refl h.fast;
}

-- ---- what is held

abbrev Pending : Type 0
Pending = Option (Text × List Text)

abbrev held : List Row → Pending → Held
held rows pending = record { rows = rows; pending = pending; skip = 0 }

-- what is held shows what was read, once it is settled: nothing is at fault then
record Holds (z : Bool) (g : Running) (rs : List Row) (p : Pending) : Type 0 where
  rows : List Row
  settles : settle_fault (rules z) false (held rs p) ≡ []
  are : settled_rows (rules z) p rs ≡ rows
  shows : Shows g rows

Holds-settled : (z : Bool) (g : Running) (rows : List Row) → Shows g rows → Holds z g rows None
Holds-settled z g rows h = record { rows = rows; settles = refl; are = refl; shows = h }

Holds-file : (z : Bool) (fs : List Text) (s x : Bool) (rows : List Row) (w : Text) → Shows (running fs s x) rows
    → Holds z (running (fs ++ w ∷ []) s x) rows (Some (codes "file", w ∷ []))
Holds-file true fs s x rows w h = record { rows = used files_arg (w ∷ []) rows; settles = refl; are = refl; shows = Shows-file fs s x rows w h }
Holds-file false fs s x rows w h = record { rows = used files_arg (w ∷ []) rows; settles = refl; are = refl; shows = Shows-file fs s x rows w h }

-- ---- one step

-- after a file the positional waits, after a flag nothing does
abbrev waiting : Bool → Waiting
waiting true = positional
waiting false = idle

abbrev state : Bool → List Row → Pending → Walk
state y rows pending = record { held = held rows pending; waiting = waiting y; position = 1; is_trailing = false; stopped = None }

and_false : (b : Bool) → (b && false) ≡ false
and_false true = refl
and_false false = refl

abbrev turn : Bool → Walk → Text → Kinds
turn z w word = turn_fault (run_leaf z) [] w word

abbrev settles_to : Bool → List Row → Pending → List Row → Type 0
settles_to z rs p rows = (settle_fault (rules z) false (held rs p) ≡ []) × (settled_rows (rules z) p rs ≡ rows)

module _ (rs : List Row) (p : Pending) (rows : List Row) where
  -- a file
  file-walks : (z y : Bool) (b : ℕ) (bs : Text) → settles_to z rs p rows → (b == 45) ≡ false → walked (rules z) [] (state y rs p) (b ∷ bs)
      ≡ state true rows (Some (codes "file", (b ∷ bs) ∷ []))
  unfolding walked
  file-walks true true b bs h e = simp (e, and_false (is_pending files_arg p), h.1) refl
  file-walks true false b bs h e = simp (e, and_false (is_pending files_arg p), h.1) refl
  file-walks false true b bs h e = simp (e, and_false (is_pending files_arg p), h.1) refl
  file-walks false false b bs h e = simp (e, and_false (is_pending files_arg p), h.1) refl

  file-turns : (z y : Bool) (b : ℕ) (bs : Text) → settles_to z rs p rows → (b == 45) ≡ false → turn z (state y rs p) (b ∷ bs) ≡ []
  file-turns true true b bs h e = simp (e, and_false (is_pending files_arg p), h.0) refl
  file-turns true false b bs h e = simp (e, and_false (is_pending files_arg p), h.0) refl
  file-turns false true b bs h e = simp (e, and_false (is_pending files_arg p), h.0) refl
  file-turns false false b bs h e = simp (e, and_false (is_pending files_arg p), h.0) refl

  -- `--share`, for the first time and again
  share-walks : (z y : Bool) → settles_to z rs p rows → row_at (codes "share") rows ≡ None → walked (rules z) [] (state y rs p) (codes "--share")
      ≡ state false (rows ++ share_row ∷ []) None
  unfolding walked
  share-walks true true h none = ap (λ (rows : List Row). state false rows None) (ap (used share_arg []) h.1 ∙ used-flag (codes "share") rows none)
  share-walks true false h none = ap (λ (rows : List Row). state false rows None) (ap (used share_arg []) h.1 ∙ used-flag (codes "share") rows none)
  share-walks false true h none = ap (λ (rows : List Row). state false rows None) (ap (used share_arg []) h.1 ∙ used-flag (codes "share") rows none)
  share-walks false false h none = ap (λ (rows : List Row). state false rows None) (ap (used share_arg []) h.1 ∙ used-flag (codes "share") rows none)

  share-turns : (z y : Bool) → settles_to z rs p rows → has_row (codes "share") rows ≡ false → turn z (state y rs p) (codes "--share") ≡ []
  share-turns true true h none = simp (h.0, h.1, none) refl
  share-turns true false h none = simp (h.0, h.1, none) refl
  share-turns false true h none = simp (h.0, h.1, none) refl
  share-turns false false h none = simp (h.0, h.1, none) refl

  share-again : (z y : Bool) → settles_to z rs p rows → has_row (codes "share") rows ≡ true → turn z (state y rs p) (codes "--share") ≡ ArgumentConflict ∷ []
  share-again true true h there = simp (h.0, h.1, there) refl
  share-again true false h there = simp (h.0, h.1, there) refl
  share-again false true h there = simp (h.0, h.1, there) refl
  share-again false false h there = simp (h.0, h.1, there) refl

  -- `--fast` after `verify`, for the first time and again
  fast-walks : (y : Bool) → settles_to true rs p rows → row_at (codes "fast") rows ≡ None → walked (rules true) [] (state y rs p) (codes "--fast")
      ≡ state false (rows ++ fast_row ∷ []) None
  unfolding walked
  fast-walks true h none = ap (λ (rows : List Row). state false rows None) (ap (used fast_arg []) h.1 ∙ used-flag (codes "fast") rows none)
  fast-walks false h none = ap (λ (rows : List Row). state false rows None) (ap (used fast_arg []) h.1 ∙ used-flag (codes "fast") rows none)

  fast-turns : (y : Bool) → settles_to true rs p rows → has_row (codes "fast") rows ≡ false → turn true (state y rs p) (codes "--fast") ≡ []
  fast-turns true h none = simp (h.0, h.1, none) refl
  fast-turns false h none = simp (h.0, h.1, none) refl

  fast-again : (y : Bool) → settles_to true rs p rows → has_row (codes "fast") rows ≡ true → turn true (state y rs p) (codes "--fast") ≡ ArgumentConflict ∷ []
  fast-again true h there = simp (h.0, h.1, there) refl
  fast-again false h there = simp (h.0, h.1, there) refl

-- after a step at which something is at fault nothing is asked for
abbrev Faulty : Bool → Walk → Text → Type 0
Faulty z w word = (k : ErrorKind) × (turn z w word ≡ k ∷ [])

module _ (rs : List Row) (p : Pending) where
  -- .. so it is at `--fast` after `translate`, at an option of another command, and at any other word with dashes
  fast-turns-translate : (y : Bool) → Faulty false (state y rs p) (codes "--fast")
  fast-turns-translate true = (UnknownArgument, refl)
  fast-turns-translate false = (UnknownArgument, refl)

  budget-turns : (z y : Bool) → Faulty z (state y rs p) (codes "--budget")
  budget-turns true true = (UnknownArgument, refl)
  budget-turns true false = (UnknownArgument, refl)
  budget-turns false true = (UnknownArgument, refl)
  budget-turns false false = (UnknownArgument, refl)

  named-turns : (z y : Bool) (number : Text) → Faulty z (state y rs p) (codes "--budget=" ++ number)
  named-turns true true number = (UnknownArgument, refl)
  named-turns true false number = (UnknownArgument, refl)
  named-turns false true number = (UnknownArgument, refl)
  named-turns false false number = (UnknownArgument, refl)

  share_valued-turns : (z y : Bool) (value : Text) → Faulty z (state y rs p) (codes "--share=" ++ value)
  share_valued-turns true true value = (TooManyValues, refl)
  share_valued-turns true false value = (TooManyValues, refl)
  share_valued-turns false true value = (TooManyValues, refl)
  share_valued-turns false false value = (TooManyValues, refl)

  fast_valued-turns : (z y : Bool) (value : Text) → Faulty z (state y rs p) (codes "--fast=" ++ value)
  fast_valued-turns true true value = (TooManyValues, refl)
  fast_valued-turns true false value = (TooManyValues, refl)
  fast_valued-turns false true value = (UnknownArgument, refl)
  fast_valued-turns false false value = (UnknownArgument, refl)

  other-turns : (z y : Bool) (c : ℕ) (cs : Text) → IsOther c cs → Faulty z (state y rs p) (45 ∷ 45 ∷ c ∷ cs)
  other-turns true true c cs o = (UnknownArgument, simp (o.share_name, o.fast_name) refl)
  other-turns true false c cs o = (UnknownArgument, simp (o.share_name, o.fast_name) refl)
  other-turns false true c cs o = (UnknownArgument, simp o.share_name refl)
  other-turns false false c cs o = (UnknownArgument, simp o.share_name refl)

-- ---- what is asked for from where a walk stands

abbrev end_fault : Bool → Walk → Kinds
end_fault z w = or_else (settle_fault (rules z) false w.held)
    (or_else (defaults_fault (settled (rules z) w.held).rows (rules z)) (check_fault (run_leaf z) (finished (rules z) w.held) false))

abbrev asked_from : Bool → Kinds → Walk → List Text → Option Form
asked_from z step w ws =
    taken (or_else (or_else step (walk_fault (run_leaf z) [] w ws)) (end_fault z (fold (walked (rules z) []) w ws)))
    (read_run (made z) (finished (rules z) (fold (walked (rules z) []) w ws).held))

-- ---- the end of the words

-- the rows with the defaults of the flags
abbrev final : Bool → Running → List Row → List Row
final true g rows = with_flag (codes "fast") g.fast (with_flag (codes "share") g.share rows)
final false g rows = with_flag (codes "share") g.share rows

-- the row of `--fast`, past that of `--share`
fast-past : (g : Running) (rows : List Row) → Shows g rows → row_at (codes "fast") (with_flag (codes "share") g.share rows) ≡ row_if g.fast fast_row
fast-past g rows h = row_at-with_flag (codes "share") (codes "fast") g.share rows refl ∙ h.fast

finishes : (z : Bool) (g : Running) (rows : List Row) → Shows g rows → fold with_default rows (rules z) ≡ final z g rows
finishes true g rows h =
    ap (λ rs. with_default (with_default rs share_arg) fast_arg) (no-default rows files_arg refl)
    ∙ ap (λ rs. with_default rs fast_arg) (flag-default (codes "share") g.share rows h.share)
    ∙ flag-default (codes "fast") g.fast (with_flag (codes "share") g.share rows) (fast-past g rows h)
finishes false g rows h = ap (λ rs. with_default rs share_arg) (no-default rows files_arg refl) ∙ flag-default (codes "share") g.share rows h.share

defaults-pass : (z : Bool) (rows : List Row) → defaults_fault rows (rules z) ≡ []
unfolding defaults_fault
defaults-pass true rows = simp (or_true (has_row (codes "file") rows), no-default rows files_arg refl)
    (go (has_row (codes "share") rows) (has_row (codes "fast") (with_default rows share_arg)))
  where
    go : (b c : Bool) → or_else (if b || false then [] else []) (or_else (if c || false then [] else []) []) ≡ []
    go true true = refl
    go true false = refl
    go false true = refl
    go false false = refl
defaults-pass false rows = simp (or_true (has_row (codes "file") rows), no-default rows files_arg refl) (go (has_row (codes "share") rows))
  where
    go : (b : Bool) → or_else (if b || false then [] else []) [] ≡ []
    go true = refl
    go false = refl

-- what is found at the end
files-final : (z : Bool) (g : Running) (rows : List Row) → Shows g rows → row_at (codes "file") (final z g rows) ≡ files_row g.files
files-final true g rows h =
    row_at-with_flag (codes "fast") (codes "file") g.fast (with_flag (codes "share") g.share rows) refl
    ∙ row_at-with_flag (codes "share") (codes "file") g.share rows refl ∙ h.files
files-final false g rows h = row_at-with_flag (codes "share") (codes "file") g.share rows refl ∙ h.files

all-files : (fs : List Text) (row : Option Row) → row ≡ files_row fs → unwrap_or (option_map (λ r. r.values) row) [] ≡ fs
all-files [] row h = rw h refl
all-files (f ∷ fs) row h = rw h refl

reads : (z : Bool) (g : Running) (rows : List Row) → Shows g rows → read_run (made z) (final z g rows) ≡ Some (made z g)
reads true g rows h =
    let files = all-files g.files (row_at (codes "file") (final true g rows)) (files-final true g rows h) in
    let share : flag_in (codes "share") (final true g rows) ≡ g.share =
    ap says (row_at-with_flag (codes "fast") (codes "share") g.fast (with_flag (codes "share") g.share rows) refl)
    ∙ flag_in-with_flag (codes "share") g.share rows refl h.share in
    let fast = flag_in-with_flag (codes "fast") g.fast (with_flag (codes "share") g.share rows) refl (fast-past g rows h) in
    λ i. Some (forms.verify (share i) (fast i) (files i))
reads false g rows h =
    let files = all-files g.files (row_at (codes "file") (final false g rows)) (files-final false g rows h) in
    let share = flag_in-with_flag (codes "share") g.share rows refl h.share in
    λ i. Some (forms.translate (share i) (files i))

-- a file is required
required : (z : Bool) (fs : List Text) (rows : List Row) (g : Running) → row_at (codes "file") rows ≡ files_row fs
    → taken (check_fault (run_leaf z) rows false) (Some (made z g)) ≡ run_in (made z) g fs
required true [] rows g e = rw e refl
required true (f ∷ fs) rows g e = rw e refl
required false [] rows g e = rw e refl
required false (f ∷ fs) rows g e = rw e refl

ends : (z : Bool) (g : Running) (y : Bool) (rs : List Row) (p : Pending) → Holds z g rs p → asked_from z [] (state y rs p) [] ≡ run_in (made z) g g.files
unfolding walk_fault
ends z g y rs p h =
    ap₂ (λ k r. taken (or_else k (or_else (defaults_fault r (rules z)) (check_fault (run_leaf z) (fold with_default r (rules z)) false)))
    (read_run (made z) (fold with_default r (rules z)))) h.settles h.are
    ∙ ap₂ (λ k r. taken (or_else k (check_fault (run_leaf z) r false)) (read_run (made z) r)) (defaults-pass z h.rows) (finishes z g h.rows h.shows)
    ∙ ap (taken (check_fault (run_leaf z) (final z g h.rows) false)) (reads z g h.rows h.shows)
    ∙ required z g.files (final z g h.rows) g (files-final z g h.rows h.shows)

-- ---- all words

-- a step at which nothing is at fault
steps : (z : Bool) (w after : Walk) (x : Text) (ws : List Text) → turn z w x ≡ [] → walked (rules z) [] w x ≡ after → asked_from z [] w (x ∷ ws)
    ≡ asked_from z [] after ws
unfolding walk_fault
steps z w after x ws e f = ap₂ (λ k v. asked_from z k v ws) e f

-- and one at which something is
fails : (z : Bool) (w : Walk) (x : Text) (ws : List Text) → Faulty z w x → asked_from z [] w (x ∷ ws) ≡ None
unfolding walk_fault
fails z w x ws e = ap (λ k. asked_from z k (walked (rules z) [] w x) ws) e.1

-- what the walk asks for from where it stands is what the definition reads
abbrev Goes : Bool → List Text → Type 0
Goes z ws = (fs : List Text) (s x y : Bool) (rs : List Row) (p : Pending) → Holds z (running fs s x) rs p → asked_from z [] (state y rs p) ws
    ≡ run_after z (made z) (running fs s x) ws

-- .. and so it is past each word
file-on : (z : Bool) (c : ℕ) (cs : Text) → (c == 45) ≡ false → (ws : List Text) → Goes z ws → Goes z ((c ∷ cs) ∷ ws)
file-on z c cs e ws goes fs s x y rs p h =
    let right : run_after z (made z) (running fs s x) ((c ∷ cs) ∷ ws) ≡ run_after z (made z) (running (fs ++ (c ∷ cs) ∷ []) s x) ws =
    simp (e, and_false z) refl in
    steps z (state y rs p) (state true h.rows (Some (codes "file", (c ∷ cs) ∷ []))) (c ∷ cs) ws (file-turns rs p h.rows z y c cs (h.settles, h.are) e)
    (file-walks rs p h.rows z y c cs (h.settles, h.are) e)
    ∙ goes (fs ++ (c ∷ cs) ∷ []) s x true h.rows (Some (codes "file", (c ∷ cs) ∷ [])) (Holds-file z fs s x h.rows (c ∷ cs) h.shows) ∙ sym right

share-on : (z : Bool) (ws : List Text) → Goes z ws → Goes z (codes "--share" ∷ ws)
share-on z ws goes fs false x y rs p h =
    steps z (state y rs p) (state false (h.rows ++ share_row ∷ []) None) (codes "--share") ws
    (share-turns rs p h.rows z y (h.settles, h.are) (has_flag (codes "share") false h.rows h.shows.share))
    (share-walks rs p h.rows z y (h.settles, h.are) h.shows.share)
    ∙ goes fs true x false (h.rows ++ share_row ∷ []) None (Holds-settled z (running fs true x) (h.rows ++ share_row ∷ []) (Shows-share fs x h.rows h.shows))
share-on z ws goes fs true x y rs p h =
    fails z (state y rs p) (codes "--share") ws (
      ArgumentConflict,
      share-again rs p h.rows z y (h.settles, h.are) (has_flag (codes "share") true h.rows h.shows.share),
    )

fast-on : (z : Bool) (ws : List Text) → Goes z ws → Goes z (codes "--fast" ∷ ws)
fast-on true ws goes fs s false y rs p h =
    steps true (state y rs p) (state false (h.rows ++ fast_row ∷ []) None) (codes "--fast") ws
    (fast-turns rs p h.rows y (h.settles, h.are) (has_flag (codes "fast") false h.rows h.shows.fast)) (fast-walks rs p h.rows y (h.settles, h.are) h.shows.fast)
    ∙ goes fs s true false (h.rows ++ fast_row ∷ []) None (Holds-settled true (running fs s true) (h.rows ++ fast_row ∷ []) (Shows-fast fs s h.rows h.shows))
fast-on true ws goes fs s true y rs p h =
    fails true (state y rs p) (codes "--fast") ws (
      ArgumentConflict,
      fast-again rs p h.rows y (h.settles, h.are) (has_flag (codes "fast") true h.rows h.shows.fast),
    )
fast-on false ws goes fs s x y rs p h = fails false (state y rs p) (codes "--fast") ws (fast-turns-translate rs p y)

goes-on : (z : Bool) (w : Text) → Kind w → (ws : List Text) → Goes z ws → Goes z (w ∷ ws)
goes-on z w (file c cs e) ws goes = file-on z c cs e ws goes
goes-on z w share ws goes = share-on z ws goes
goes-on z w fast ws goes = fast-on z ws goes
goes-on z w budget ws goes = λ fs s x y rs p h. fails z (state y rs p) (codes "--budget") ws (budget-turns rs p z y) ∙ sym (odd z fs s x)
  where
    odd : (z : Bool) (fs : List Text) (s x : Bool) → run_after z (made z) (running fs s x) (codes "--budget" ∷ ws) ≡ None
    odd true fs s x = refl
    odd false fs s x = refl
goes-on z w (named number) ws goes = λ fs s x y rs p h. fails z (state y rs p) (codes "--budget=" ++ number) ws (named-turns rs p z y number) ∙ sym
    (odd z fs s x)
  where
    odd : (z : Bool) (fs : List Text) (s x : Bool) → run_after z (made z) (running fs s x) ((codes "--budget=" ++ number) ∷ ws) ≡ None
    odd true fs s x = refl
    odd false fs s x = refl
goes-on z w (fast_valued value) ws goes = λ fs s x y rs p h. fails z (state y rs p) (codes "--fast=" ++ value) ws (fast_valued-turns rs p z y value) ∙ sym
    (odd z fs s x)
  where
    odd : (z : Bool) (fs : List Text) (s x : Bool) → run_after z (made z) (running fs s x) ((codes "--fast=" ++ value) ∷ ws) ≡ None
    odd true fs s x = refl
    odd false fs s x = refl
goes-on z w (share_valued value) ws goes = λ fs s x y rs p h. fails z (state y rs p) (codes "--share=" ++ value) ws (share_valued-turns rs p z y value) ∙ sym
    (odd z fs s x)
  where
    odd : (z : Bool) (fs : List Text) (s x : Bool) → run_after z (made z) (running fs s x) ((codes "--share=" ++ value) ∷ ws) ≡ None
    odd true fs s x = refl
    odd false fs s x = refl
goes-on z w (other c cs o) ws goes = λ fs s x y rs p h. fails z (state y rs p) (45 ∷ 45 ∷ c ∷ cs) ws (other-turns rs p z y c cs o) ∙ sym (odd z fs s x)
  where
    odd : (z : Bool) (fs : List Text) (s x : Bool) → run_after z (made z) (running fs s x) ((45 ∷ 45 ∷ c ∷ cs) ∷ ws) ≡ None
    odd true fs s x = simp (o.share, o.fast) refl
    odd false fs s x = simp o.share refl

all-words : (z : Bool) (ws : List Text) → AllByRecursion Kind ws → Goes z ws
all-words z [] h = λ fs s x y rs p holds. ends z (running fs s x) y rs p holds
all-words z (w ∷ ws) h = goes-on z w h.0 ws (all-words z ws h.1)

from-nothing : (z : Bool) (ws : List Text) → AllByRecursion Kind ws → asked_from z [] (state false [] None) ws
    ≡ run_after z (made z) (running [] false false) ws
from-nothing z ws h = all-words z ws h [] false false false [] None
    (Holds-settled z (running [] false false) [] (record { files = refl; share = refl; fast = refl }))

-- the words after `verify` ask for their form
pub verify-words : (ws : List Text) → AllByRecursion Kind ws → taken (fault verify_leaf ws) (read_verify (rows_after verify_leaf.rules [] ws)) ≡ verify_form ws
verify-words ws h = from-nothing true ws h

-- and so do those after `translate`
pub translate-words : (ws : List Text) → AllByRecursion Kind ws → taken (fault translate_leaf ws) (read_translate (rows_after translate_leaf.rules [] ws))
    ≡ translate_form ws
translate-words ws h = from-nothing false ws h
