-- The walk of `clap` over the words after `check`, step by step beside the definition, which reads them from left to right.
use Rattle.std.proofs.Common.{◌≡◌, ◌∙◌, ◌++◌, ◌&&◌, ◌||◌, ℕ, Bool, true, false, List, [], ◌∷◌, Option, Some, None, option_map, codes, refl, sym, ap, ap₂, is_some}
use Rattle.std.specs.Prelude.{◌==◌, if◌then◌else◌, option_and_then, slice_get}
use Rattle.std.specs.List.{AllByRecursion, fold}
use Rattle.clap.specs.Walk.{Rule, Row, Text, Walk, Held, idle, option, rows_after, walked, settled, settled_rows, finished, reading_by, used, is_pending, has_row, with_values, with_default}
use Rattle.clap.specs.Kinds.{Kinds, or_else}
use Rattle.clap.specs.Faults.{walk_fault, turn_fault, defaults_fault, settle_fault, check_fault}
use Rattle.clap.specs.declared.parser.matches.ValueSource.TheVariants.{CommandLine}
use Rattle.clap.specs.declared.error.kind.ErrorKind.{ErrorKind}
use Rattle.clap.specs.declared.error.kind.ErrorKind.TheVariants.{UnknownArgument, ArgumentConflict, InvalidValue, TooManyValues}
use Rattle.bridge_spec.specs.Forms.{Form, Checking, checking, check_after, check_form, check_in, budget_in}
use Rattle.bridge_words.specs.Commands.{file_rule, budget_rule}
use Rattle.bridge_words.specs.Matches.{read_check}
use Rattle.bridge_words.proofs.WordKinds.{Kind, file, budget, named, fast, share, fast_valued, share_valued, other}
use Rattle.bridge_words.proofs.BuiltCommand.{filled_rule, flag_arg, check_leaf}
use Rattle.bridge_words.proofs.Leaves.{taken, fault}
use Rattle.bridge_words.proofs.Rows.{row_at, with_values-None, without-None, row_at-other, row_at-same, has_row-at}
use Rattle.bridge_words.proofs.Flags.{row_of_use, flag_row, row_if, with_flag, used-flag, has_flag, no-default, flag-default, row_at-with_flag, flag_in-with_flag, or_true}

-- the command, as it is built
abbrev file_arg : Rule
file_arg = filled_rule (Some 1) file_rule

abbrev budget_arg : Rule
budget_arg = filled_rule None budget_rule

abbrev fast_arg : Rule
fast_arg = flag_arg (codes "fast")

abbrev fast_row : Row
fast_row = flag_row (codes "fast")

abbrev rules : List Rule
rules = file_arg ∷ budget_arg ∷ fast_arg ∷ []

-- ---- the rows of what was read

record Shows (g : Checking) (rows : List Row) : Type 0 where
  file : row_at (codes "file") rows ≡ option_map (λ w. row_of_use file_arg (w ∷ [])) g.file
  budget : row_at (codes "budget") rows ≡ option_map (λ w. row_of_use budget_arg (w ∷ [])) g.budget
  fast : row_at (codes "fast") rows ≡ row_if g.fast fast_row

Shows-file : (g : Checking) (rows : List Row) (w : Text) → Shows (record g { file = None }) rows
    → Shows (record g { file = Some w }) (rows ++ row_of_use file_arg (w ∷ []) ∷ [])
Shows-file g rows w h = record {
  file = row_at-same (codes "file") (row_of_use file_arg (w ∷ [])) rows refl h.file;
  budget = row_at-other (codes "budget") (row_of_use file_arg (w ∷ [])) rows refl ∙ h.budget;
  fast = row_at-other (codes "fast") (row_of_use file_arg (w ∷ [])) rows refl ∙ h.fast;
}

Shows-budget : (g : Checking) (rows : List Row) (w : Text) → Shows (record g { budget = None }) rows
    → Shows (record g { budget = Some w }) (rows ++ row_of_use budget_arg (w ∷ []) ∷ [])
Shows-budget g rows w h = record {
  file = row_at-other (codes "file") (row_of_use budget_arg (w ∷ [])) rows refl ∙ h.file;
  budget = row_at-same (codes "budget") (row_of_use budget_arg (w ∷ [])) rows refl h.budget;
  fast = row_at-other (codes "fast") (row_of_use budget_arg (w ∷ [])) rows refl ∙ h.fast;
}

Shows-fast : (g : Checking) (rows : List Row) → Shows (record g { fast = false }) rows → Shows (record g { fast = true }) (rows ++ fast_row ∷ [])
Shows-fast g rows h = record {
  file = row_at-other (codes "file") fast_row rows refl ∙ h.file;
  budget = row_at-other (codes "budget") fast_row rows refl ∙ h.budget;
  fast = row_at-same (codes "fast") fast_row rows refl h.fast;
}

-- a use that is the first puts its row last
used-file : (w : Text) (rows : List Row) → row_at (codes "file") rows ≡ None → used file_arg (w ∷ []) rows ≡ rows ++ row_of_use file_arg (w ∷ []) ∷ []
used-file w rows h = ap (λ rs. with_values (codes "file") (reading_by file_arg) CommandLine (w ∷ []) rs) (without-None (codes "file") rows h) ∙ with_values-None
    (codes "file") _ _ (w ∷ []) rows h

used-budget : (w : Text) (rows : List Row) → row_at (codes "budget") rows ≡ None → used budget_arg (w ∷ []) rows ≡ rows ++ row_of_use budget_arg (w ∷ []) ∷ []
used-budget w rows h = ap (λ rs. with_values (codes "budget") (reading_by budget_arg) CommandLine (w ∷ []) rs) (without-None (codes "budget") rows h)
    ∙ with_values-None (codes "budget") _ _ (w ∷ []) rows h

-- ---- what is held

abbrev Pending : Type 0
Pending = Option (Text × List Text)

abbrev held : List Row → Pending → Held
held rows pending = record { rows = rows; pending = pending; skip = 0 }

-- what is held shows what was read, once it is settled: nothing is at fault then
record Holds (g : Checking) (rs : List Row) (p : Pending) : Type 0 where
  rows : List Row
  settles : settle_fault rules false (held rs p) ≡ []
  are : settled_rows rules p rs ≡ rows
  shows : Shows g rows

Holds-settled : (g : Checking) (rows : List Row) → Shows g rows → Holds g rows None
Holds-settled g rows h = record { rows = rows; settles = refl; are = refl; shows = h }

Holds-file : (g : Checking) (rows : List Row) (w : Text) → Shows (record g { file = None }) rows
    → Holds (record g { file = Some w }) rows (Some (codes "file", w ∷ []))
Holds-file g rows w h =
    let none : has_row (codes "file") rows ≡ false = has_row-at (codes "file") rows ∙ ap is_some h.file in
    record { rows = rows ++ row_of_use file_arg (w ∷ []) ∷ []; settles = simp none refl; are = used-file w rows h.file; shows = Shows-file g rows w h }

Holds-budget : (g : Checking) (rows : List Row) (w : Text) → Shows (record g { budget = None }) rows
    → Holds (record g { budget = Some w }) rows (Some (codes "budget", w ∷ []))
Holds-budget g rows w h =
    let none : has_row (codes "budget") rows ≡ false = has_row-at (codes "budget") rows ∙ ap is_some h.budget in
    record { rows = rows ++ row_of_use budget_arg (w ∷ []) ∷ []; settles = simp none refl; are = used-budget w rows h.budget; shows = Shows-budget g rows w h }

-- ---- one step

-- where the walk stands between two words, and after `--budget`
abbrev state : List Row → Pending → ℕ → Walk
state rows pending position = record { held = held rows pending; waiting = idle; position = position; is_trailing = false; stopped = None }

abbrev waits : List Row → ℕ → Walk
waits rows position = record
    { held = held rows (Some (codes "budget", [])); waiting = option (codes "budget"); position = position; is_trailing = false; stopped = None }

and_false : (b : Bool) → (b && false) ≡ false
and_false true = refl
and_false false = refl

abbrev turn : Walk → Text → Kinds
turn w word = turn_fault check_leaf [] w word

module _ (rs : List Row) (p : Pending) (rows : List Row) (settles : settle_fault rules false (held rs p) ≡ []) (are : settled_rows rules p rs ≡ rows) where
  -- a file, which is the first
  file-walks : (b : ℕ) (bs : Text) → (b == 45) ≡ false → walked rules [] (state rs p 1) (b ∷ bs) ≡ state rows (Some (codes "file", (b ∷ bs) ∷ [])) 2
  unfolding walked
  file-walks b bs e = simp (e, and_false (is_pending file_arg p), are) refl

  file-turns : (b : ℕ) (bs : Text) → (b == 45) ≡ false → turn (state rs p 1) (b ∷ bs) ≡ []
  file-turns b bs e = simp (e, and_false (is_pending file_arg p), settles) refl

  -- a second one
  file-again : (b : ℕ) (bs : Text) → (b == 45) ≡ false → turn (state rs p 2) (b ∷ bs) ≡ UnknownArgument ∷ []
  file-again b bs e = simp e refl

  -- `--fast`
  fast-walks : (position : ℕ) → row_at (codes "fast") rows ≡ None → walked rules [] (state rs p position) (codes "--fast")
      ≡ state (rows ++ fast_row ∷ []) None position
  unfolding walked
  fast-walks position none = ap (λ (rows : List Row). state rows None position) (ap (used fast_arg []) are ∙ used-flag (codes "fast") rows none)

  fast-turns : (position : ℕ) → has_row (codes "fast") rows ≡ false → turn (state rs p position) (codes "--fast") ≡ []
  fast-turns position none = simp (settles, are, none) refl

  fast-again : (position : ℕ) → has_row (codes "fast") rows ≡ true → turn (state rs p position) (codes "--fast") ≡ ArgumentConflict ∷ []
  fast-again position there = simp (settles, are, there) refl

  -- `--budget=N`
  named-walks : (position : ℕ) (number : Text) → row_at (codes "budget") rows ≡ None → walked rules [] (state rs p position) (codes "--budget=" ++ number)
      ≡ state (rows ++ row_of_use budget_arg (number ∷ []) ∷ []) None position
  unfolding walked
  named-walks position number none = ap (λ (rows : List Row). state rows None position) (ap (used budget_arg (number ∷ [])) are ∙ used-budget number rows none)

  named-turns : (position : ℕ) (number : Text) → has_row (codes "budget") rows ≡ false → turn (state rs p position) (codes "--budget=" ++ number) ≡ []
  named-turns position number none = simp (settles, are, none) refl

  named-again : (position : ℕ) (number : Text) → has_row (codes "budget") rows ≡ true → turn (state rs p position) (codes "--budget=" ++ number)
      ≡ ArgumentConflict ∷ []
  named-again position number there = simp (settles, are, there) refl

  -- `--budget`
  budget-walks : (position : ℕ) → walked rules [] (state rs p position) (codes "--budget") ≡ waits rows position
  unfolding walked
  budget-walks position = ap (λ rows. waits rows position) are

  budget-turns : (position : ℕ) → turn (state rs p position) (codes "--budget") ≡ []
  budget-turns position = simp settles refl

-- the word after `--budget`
awaited-walks : (rows : List Row) (position b : ℕ) (bs : Text) → (b == 45) ≡ false → walked rules [] (waits rows position) (b ∷ bs)
    ≡ state rows (Some (codes "budget", (b ∷ bs) ∷ [])) position
unfolding walked
awaited-walks rows position b bs e = simp e refl

awaited-turns : (rows : List Row) (position b : ℕ) (bs : Text) → (b == 45) ≡ false → turn (waits rows position) (b ∷ bs) ≡ []
awaited-turns rows position b bs e = simp e refl

-- ---- what is asked for from where a walk stands

abbrev end_fault : Walk → Kinds
end_fault w = or_else (settle_fault rules false w.held)
    (or_else (defaults_fault (settled rules w.held).rows rules) (check_fault check_leaf (finished rules w.held) false))

abbrev asked_from : Kinds → Walk → List Text → Option Form
asked_from step w ws =
    taken (or_else (or_else step (walk_fault check_leaf [] w ws)) (end_fault (fold (walked rules []) w ws)))
    (read_check (finished rules (fold (walked rules []) w ws).held))

-- what was read asks for
abbrev asks : Checking → Option Form
asks g = check_in g.fast g.file (budget_in g.budget)

-- ---- the end of the words

finishes : (g : Checking) (rows : List Row) → Shows g rows → fold with_default rows rules ≡ with_flag (codes "fast") g.fast rows
finishes g rows h =
    ap (λ rs. with_default (with_default rs budget_arg) fast_arg) (no-default rows file_arg refl)
    ∙ ap (λ rs. with_default rs fast_arg) (no-default rows budget_arg refl) ∙ flag-default (codes "fast") g.fast rows h.fast

defaults-pass : (rows : List Row) → defaults_fault rows rules ≡ []
unfolding defaults_fault
defaults-pass rows = simp
    (or_true (has_row (codes "file") rows), or_true (has_row (codes "budget") rows), no-default rows file_arg refl, no-default rows budget_arg refl)
    (go (has_row (codes "fast") rows))
  where
    go : (b : Bool) → or_else (if b || false then [] else []) [] ≡ []
    go true = refl
    go false = refl

-- what is found at the end
first-value : (a : Rule) (word : Option Text) (row : Option Row) → row ≡ option_map (λ w. row_of_use a (w ∷ [])) word
    → option_and_then (λ r. slice_get r.values 0) row ≡ word
first-value a None row h = rw h refl
first-value a (Some w) row h = rw h refl

reads : (g : Checking) (rows : List Row) → Shows g rows → read_check (with_flag (codes "fast") g.fast rows) ≡ asks g
reads g rows h =
    let file = first-value file_arg g.file (row_at (codes "file") (with_flag (codes "fast") g.fast rows))
    (row_at-with_flag (codes "fast") (codes "file") g.fast rows refl ∙ h.file) in
    let budget = first-value budget_arg g.budget (row_at (codes "budget") (with_flag (codes "fast") g.fast rows))
    (row_at-with_flag (codes "fast") (codes "budget") g.fast rows refl ∙ h.budget) in
    let fast = flag_in-with_flag (codes "fast") g.fast rows refl h.fast in
    λ i. check_in (fast i) (file i) (budget_in (budget i))

-- a file is required
check-passes : (g : Checking) (rows : List Row) → Shows g rows → taken (check_fault check_leaf (with_flag (codes "fast") g.fast rows) false) (asks g) ≡ asks g
check-passes g rows h = go g.file (row_at-with_flag (codes "fast") (codes "file") g.fast rows refl ∙ h.file)
  where
    go : (f : Option Text) → row_at (codes "file") (with_flag (codes "fast") g.fast rows) ≡ option_map (λ w. row_of_use file_arg (w ∷ [])) f
        → taken (check_fault check_leaf (with_flag (codes "fast") g.fast rows) false) (check_in g.fast f (budget_in g.budget))
        ≡ check_in g.fast f (budget_in g.budget)
    go None e = rw e refl
    go (Some w) e = rw e refl

ends : (g : Checking) (rs : List Row) (p : Pending) (position : ℕ) → Holds g rs p → asked_from [] (state rs p position) [] ≡ asks g
unfolding walk_fault
ends g rs p position h =
    ap₂ (λ k r. taken (or_else k (or_else (defaults_fault r rules) (check_fault check_leaf (fold with_default r rules) false)))
    (read_check (fold with_default r rules))) h.settles h.are
    ∙ ap₂ (λ k r. taken (or_else k (check_fault check_leaf r false)) (read_check r)) (defaults-pass h.rows) (finishes g h.rows h.shows)
    ∙ ap (taken (check_fault check_leaf (with_flag (codes "fast") g.fast h.rows) false)) (reads g h.rows h.shows)
    ∙ check-passes g h.rows h.shows

-- ---- all words

-- the next positional
abbrev place : Option Text → ℕ
place None = 1
place (Some w) = 2

-- a step at which nothing is at fault
steps : (w after : Walk) (x : Text) (ws : List Text) → turn w x ≡ [] → walked rules [] w x ≡ after → asked_from [] w (x ∷ ws) ≡ asked_from [] after ws
unfolding walk_fault
steps w after x ws e f = ap₂ (λ k v. asked_from k v ws) e f

-- and one at which something is
fails : (w : Walk) (x : Text) (ws : List Text) (k : ErrorKind) → turn w x ≡ k ∷ [] → asked_from [] w (x ∷ ws) ≡ None
unfolding walk_fault
fails w x ws k e = ap (λ k. asked_from k (walked rules [] w x) ws) e

-- after two budgets nothing is asked for
module _ (rows : List Row) (there : has_row (codes "budget") rows ≡ true) where
  conflict : (w : Text) → settle_fault rules false (held rows (Some (codes "budget", w ∷ []))) ≡ ArgumentConflict ∷ []
  conflict w = simp there refl

  second-turns : (f : Option Text) (w x : Text) → Kind x → (k : ErrorKind) × (turn (state rows (Some (codes "budget", w ∷ [])) (place f)) x ≡ k ∷ [])
  second-turns None w x (file b bs e) = (ArgumentConflict, simp (e, there) refl)
  second-turns (Some v) w x (file b bs e) = (UnknownArgument, simp e refl)
  second-turns f w x budget = (ArgumentConflict, simp there refl)
  second-turns f w x (named number) = (ArgumentConflict, simp there refl)
  second-turns f w x fast = (ArgumentConflict, simp there refl)
  second-turns f w x (fast_valued value) = (TooManyValues, refl)
  second-turns f w x share = (UnknownArgument, refl)
  second-turns f w x (share_valued value) = (UnknownArgument, refl)
  second-turns f w x (other c cs o) = (UnknownArgument, simp (o.budget_name, o.fast_name) refl)

  second-after : (f : Option Text) (w : Text) (ws : List Text) → AllByRecursion Kind ws
      → asked_from [] (state rows (Some (codes "budget", w ∷ [])) (place f)) ws ≡ None
  unfolding walk_fault
  second-after f w [] h =
      ap (λ k. taken
      (or_else k (or_else (defaults_fault (settled rules (held rows (Some (codes "budget", w ∷ [])))).rows rules)
      (check_fault check_leaf (finished rules (held rows (Some (codes "budget", w ∷ [])))) false)))
      (read_check (finished rules (held rows (Some (codes "budget", w ∷ [])))))) (conflict w)
  second-after f w (x ∷ ws) h =
      let t = second-turns f w x h.0 in
      fails (state rows (Some (codes "budget", w ∷ [])) (place f)) x ws t.0 t.1

  second : (f : Option Text) (ws : List Text) → AllByRecursion Kind ws → asked_from [] (waits rows (place f)) ws ≡ None
  unfolding walk_fault
  second f [] h = refl
  second f (x ∷ ws) h = go x h.0
    where
      go : (x : Text) → Kind x → asked_from [] (waits rows (place f)) (x ∷ ws) ≡ None
      go x (file b bs e) =
          steps (waits rows (place f)) (state rows (Some (codes "budget", (b ∷ bs) ∷ [])) (place f)) (b ∷ bs) ws (awaited-turns rows (place f) b bs e)
          (awaited-walks rows (place f) b bs e)
          ∙ second-after f (b ∷ bs) ws h.1
      go x budget = fails (waits rows (place f)) (codes "--budget") ws InvalidValue refl
      go x (named number) = fails (waits rows (place f)) (codes "--budget=" ++ number) ws InvalidValue refl
      go x fast = fails (waits rows (place f)) (codes "--fast") ws InvalidValue refl
      go x (fast_valued value) = fails (waits rows (place f)) (codes "--fast=" ++ value) ws TooManyValues refl
      go x share = fails (waits rows (place f)) (codes "--share") ws UnknownArgument refl
      go x (share_valued value) = fails (waits rows (place f)) (codes "--share=" ++ value) ws UnknownArgument refl
      go x (other c cs o) = fails (waits rows (place f)) (45 ∷ 45 ∷ c ∷ cs) ws UnknownArgument (simp (o.budget_name, o.fast_name) refl)

-- what the walk asks for from where it stands is what the definition reads
abbrev Goes : List Text → Type 0
Goes ws = (f b : Option Text) (x : Bool) (rs : List Row) (p : Pending) → Holds (checking f b x) rs p → asked_from [] (state rs p (place f)) ws
    ≡ check_after (checking f b x) false ws

abbrev Awaits : List Text → Type 0
Awaits ws = (f : Option Text) (x : Bool) (rows : List Row) → Shows (checking f None x) rows → asked_from [] (waits rows (place f)) ws
    ≡ check_after (checking f None x) true ws

has : (g : Checking) (rs : List Row) (p : Pending) (h : Holds g rs p) → (has_row (codes "budget") h.rows ≡ is_some g.budget)
    × (has_row (codes "fast") h.rows ≡ g.fast)
has g rs p h = (has_row-at (codes "budget") h.rows ∙ ap is_some h.shows.budget ∙ some g.budget, has_flag (codes "fast") g.fast h.rows h.shows.fast)
  where
    some : (o : Option Text) → is_some (option_map (λ w. row_of_use budget_arg (w ∷ [])) o) ≡ is_some o
    some None = refl
    some (Some w) = refl

goes-on : (w : Text) → Kind w → (ws : List Text) → AllByRecursion Kind ws → Goes ws → Awaits ws → Goes (w ∷ ws)
goes-on w (file c cs e) ws ks goes awaits None b x rs p h =
    let right : check_after (checking None b x) false ((c ∷ cs) ∷ ws) ≡ check_after (checking (Some (c ∷ cs)) b x) false ws = simp e refl in
    steps (state rs p 1) (state h.rows (Some (codes "file", (c ∷ cs) ∷ [])) 2) (c ∷ cs) ws (file-turns rs p h.rows h.settles h.are c cs e)
    (file-walks rs p h.rows h.settles h.are c cs e)
    ∙ goes (Some (c ∷ cs)) b x h.rows (Some (codes "file", (c ∷ cs) ∷ [])) (Holds-file (checking None b x) h.rows (c ∷ cs) h.shows) ∙ sym right
goes-on w (file c cs e) ws ks goes awaits (Some v) b x rs p h =
    let right : check_after (checking (Some v) b x) false ((c ∷ cs) ∷ ws) ≡ None = simp e refl in
    fails (state rs p 2) (c ∷ cs) ws UnknownArgument (file-again rs p h.rows h.settles h.are c cs e) ∙ sym right
goes-on w budget ws ks goes awaits f None x rs p h =
    steps (state rs p (place f)) (waits h.rows (place f)) (codes "--budget") ws (budget-turns rs p h.rows h.settles h.are (place f))
    (budget-walks rs p h.rows h.settles h.are (place f))
    ∙ awaits f x h.rows h.shows
goes-on w budget ws ks goes awaits f (Some v) x rs p h =
    steps (state rs p (place f)) (waits h.rows (place f)) (codes "--budget") ws (budget-turns rs p h.rows h.settles h.are (place f))
    (budget-walks rs p h.rows h.settles h.are (place f))
    ∙ second h.rows (has (checking f (Some v) x) rs p h).0 f ws ks
goes-on w (named number) ws ks goes awaits f None x rs p h =
    steps (state rs p (place f)) (state (h.rows ++ row_of_use budget_arg (number ∷ []) ∷ []) None (place f)) (codes "--budget=" ++ number) ws
    (named-turns rs p h.rows h.settles h.are (place f) number (has (checking f None x) rs p h).0)
    (named-walks rs p h.rows h.settles h.are (place f) number h.shows.budget)
    ∙ goes f (Some number) x (h.rows ++ row_of_use budget_arg (number ∷ []) ∷ []) None
    (Holds-settled (checking f (Some number) x) (h.rows ++ row_of_use budget_arg (number ∷ []) ∷ [])
    (Shows-budget (checking f None x) h.rows number h.shows))
goes-on w (named number) ws ks goes awaits f (Some v) x rs p h =
    fails (state rs p (place f)) (codes "--budget=" ++ number) ws ArgumentConflict
    (named-again rs p h.rows h.settles h.are (place f) number (has (checking f (Some v) x) rs p h).0)
goes-on w fast ws ks goes awaits f b false rs p h =
    steps (state rs p (place f)) (state (h.rows ++ fast_row ∷ []) None (place f)) (codes "--fast") ws
    (fast-turns rs p h.rows h.settles h.are (place f) (has (checking f b false) rs p h).1) (fast-walks rs p h.rows h.settles h.are (place f) h.shows.fast)
    ∙ goes f b true (h.rows ++ fast_row ∷ []) None
    (Holds-settled (checking f b true) (h.rows ++ fast_row ∷ []) (Shows-fast (checking f b false) h.rows h.shows))
goes-on w fast ws ks goes awaits f b true rs p h =
    fails (state rs p (place f)) (codes "--fast") ws ArgumentConflict (fast-again rs p h.rows h.settles h.are (place f) (has (checking f b true) rs p h).1)
goes-on w (fast_valued value) ws ks goes awaits f b x rs p h = fails (state rs p (place f)) (codes "--fast=" ++ value) ws TooManyValues refl
goes-on w share ws ks goes awaits f b x rs p h = fails (state rs p (place f)) (codes "--share") ws UnknownArgument refl
goes-on w (share_valued value) ws ks goes awaits f b x rs p h = fails (state rs p (place f)) (codes "--share=" ++ value) ws UnknownArgument refl
goes-on w (other c cs o) ws ks goes awaits f b x rs p h =
    let right : check_after (checking f b x) false ((45 ∷ 45 ∷ c ∷ cs) ∷ ws) ≡ None = simp (o.named, o.budget, o.fast) refl in
    fails (state rs p (place f)) (45 ∷ 45 ∷ c ∷ cs) ws UnknownArgument (simp (o.budget_name, o.fast_name) refl) ∙ sym right

awaits-on : (w : Text) → Kind w → (ws : List Text) → Goes ws → Awaits (w ∷ ws)
awaits-on w (file c cs e) ws goes f x rows h =
    let right : check_after (checking f None x) true ((c ∷ cs) ∷ ws) ≡ check_after (checking f (Some (c ∷ cs)) x) false ws = simp e refl in
    steps (waits rows (place f)) (state rows (Some (codes "budget", (c ∷ cs) ∷ [])) (place f)) (c ∷ cs) ws (awaited-turns rows (place f) c cs e)
    (awaited-walks rows (place f) c cs e)
    ∙ goes f (Some (c ∷ cs)) x rows (Some (codes "budget", (c ∷ cs) ∷ [])) (Holds-budget (checking f None x) rows (c ∷ cs) h) ∙ sym right
awaits-on w budget ws goes f x rows h = fails (waits rows (place f)) (codes "--budget") ws InvalidValue refl
awaits-on w (named number) ws goes f x rows h = fails (waits rows (place f)) (codes "--budget=" ++ number) ws InvalidValue refl
awaits-on w fast ws goes f x rows h = fails (waits rows (place f)) (codes "--fast") ws InvalidValue refl
awaits-on w (fast_valued value) ws goes f x rows h = fails (waits rows (place f)) (codes "--fast=" ++ value) ws TooManyValues refl
awaits-on w share ws goes f x rows h = fails (waits rows (place f)) (codes "--share") ws UnknownArgument refl
awaits-on w (share_valued value) ws goes f x rows h = fails (waits rows (place f)) (codes "--share=" ++ value) ws UnknownArgument refl
awaits-on w (other c cs o) ws goes f x rows h = fails (waits rows (place f)) (45 ∷ 45 ∷ c ∷ cs) ws UnknownArgument (simp (o.budget_name, o.fast_name) refl)

all-words : (ws : List Text) → AllByRecursion Kind ws → Goes ws × Awaits ws
unfolding walk_fault
all-words [] h = (λ f b x rs p holds. ends (checking f b x) rs p (place f) holds, λ f x rows shows. waits-ends rows (place f))
  where
    waits-ends : (rows : List Row) (position : ℕ) → asked_from [] (waits rows position) [] ≡ None
    waits-ends rows position = refl
all-words (w ∷ ws) h =
    let more = all-words ws h.1 in
    (goes-on w h.0 ws h.1 more.0 more.1, awaits-on w h.0 ws more.0)

-- the words after `check` ask for their form
pub check-words : (ws : List Text) → AllByRecursion Kind ws → taken (fault check_leaf ws) (read_check (rows_after check_leaf.rules [] ws)) ≡ check_form ws
check-words ws h = (all-words ws h).0 None None false [] None (Holds-settled (checking None None false) [] (record { file = refl; budget = refl; fast = refl }))
