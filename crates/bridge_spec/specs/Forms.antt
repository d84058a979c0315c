-- The forms of the command line.
use Rattle.std.specs.Prelude.{ℕ, ◌==◌, ◌&&◌, not, nat_le, Bool, true, false, List, [], ◌∷◌, ◌++◌, take, drop, Option, None, Some, is_some, option_map, codes, if◌then◌else◌}
use Rattle.std.specs.List.{list_all}
use Rattle.std.specs.Str.{bytes_eq}
use Rattle.article_spec.specs.Numbers.{digits_value}

-- what the words ask for: the module of the articles in these files, checked before it is written, or as it is; a check of the module in this
-- file, with this budget for each declaration; what the articles in these files assume and export; what the exports of the module in this file
-- say; a trial with the generated article of so many blocks; one article of what the articles in these files export. The flag before the files
-- says whether the module is to have shared abbreviations; the last flag of `verify`, and that of `check`, whether the check is to be fast:
-- without rechecks of sorts.
pub data Form : Type 0 where
  verify : Bool → Bool → List (List ℕ) → Form
  translate : Bool → List (List ℕ) → Form
  check : Bool → List ℕ → ℕ → Form
  show : List (List ℕ) → Form
  decode : List ℕ → Form
  trial : ℕ → Form
  article : List (List ℕ) → Form

-- a file is named by a word that isn't empty and doesn't begin with `-`
abbrev pub is_file : List ℕ → Bool
is_file [] = false
is_file (b ∷ bs) = not (b == 45)

-- the budget that is meant where none is given
abbrev pub default_budget : ℕ
default_budget = 100000000

abbrev pub greatest_budget : ℕ
greatest_budget = 18446744073709551615

-- the most blocks of the generated article of a trial
abbrev pub greatest_trial : ℕ
greatest_trial = 100000

-- a number that is no more than the most
abbrev pub up_to : ℕ → Option ℕ → Option ℕ
up_to most None = None
up_to most (Some n) = if nat_le n most then Some n else None

-- the number from 1 to the most that a word says: its decimal digits, without a sign or a zero before them
abbrev pub number_up_to : ℕ → List ℕ → Option ℕ
number_up_to most [] = None
number_up_to most (b ∷ bs) = if b == 48 then None else up_to most (digits_value (b ∷ bs))

-- the budget that a word says
abbrev pub budget_of : List ℕ → Option ℕ
budget_of word = number_up_to greatest_budget word

-- the number of blocks that a word says
abbrev pub trial_of : List ℕ → Option ℕ
trial_of word = number_up_to greatest_trial word

-- the budget that was read: that which a word says, or where there is no word the default
abbrev pub budget_in : Option (List ℕ) → Option ℕ
budget_in None = Some default_budget
budget_in (Some word) = budget_of word

-- a check of a file with a budget, where there are both
abbrev pub check_in : Bool → Option (List ℕ) → Option ℕ → Option Form
check_in fast (Some name) (Some budget) = Some (check fast name budget)
check_in fast (Some name) None = None
check_in fast None budget = None

-- what was read so far of the words after `check`: a file, the word of a budget, and `--fast`
pub record Checking : Type 0 where
  pub file : Option (List ℕ)
  pub budget : Option (List ℕ)
  pub fast : Bool

abbrev pub checking : Option (List ℕ) → Option (List ℕ) → Bool → Checking
checking f b x = record { file = f; budget = b; fast = x }

-- The form of the words that follow what was read of `check`: each of a file, `--budget N` or `--budget=N`, and `--fast` at most once, in any
-- order. Where the flag says that `--budget` came last, the next word is its number.
abbrev pub check_after : Checking → Bool → List (List ℕ) → Option Form
check_after g true [] = None
check_after g false [] = check_in g.fast g.file (budget_in g.budget)
check_after g true (w ∷ ws) = if is_file w then check_after (record g { budget = Some w }) false ws else None
check_after g false (w ∷ ws) =
    if bytes_eq w (codes "--fast") then (if g.fast then None else check_after (record g { fast = true }) false ws)
    else if bytes_eq w (codes "--budget") then (if is_some g.budget then None else check_after g true ws)
    else if bytes_eq (take 9 w) (codes "--budget=") then (if is_some g.budget then None else check_after (record g { budget = Some (drop 9 w) }) false ws)
    else if is_file w then (if is_some g.file then None else check_after (record g { file = Some w }) false ws)
    else None

-- the form of the words after `check`
abbrev pub check_form : List (List ℕ) → Option Form
check_form words = check_after (checking None None false) false words

-- what was read so far of the words after `verify` or `translate`: files, `--share` and `--fast`
pub record Running : Type 0 where
  pub files : List (List ℕ)
  pub share : Bool
  pub fast : Bool

abbrev pub running : List (List ℕ) → Bool → Bool → Running
running fs s x = record { files = fs; share = s; fast = x }

-- a run of files, where there is one at least
abbrev pub run_in : (Running → Form) → Running → List (List ℕ) → Option Form
run_in form g [] = None
run_in form g (name ∷ names) = Some (form g)

-- The form of the words that follow what was read of it: files, and at any place among them `--share` at most once, and `--fast` at most once
-- where the flag says that it may stand there.
abbrev pub run_after : Bool → (Running → Form) → Running → List (List ℕ) → Option Form
run_after fast_too form g [] = run_in form g g.files
run_after fast_too form g (w ∷ ws) =
    if bytes_eq w (codes "--share") then (if g.share then None else run_after fast_too form (record g { share = true }) ws)
    else if fast_too && bytes_eq w (codes "--fast") then (if g.fast then None else run_after fast_too form (record g { fast = true }) ws)
    else if is_file w then run_after fast_too form (record g { files = g.files ++ w ∷ [] }) ws
    else None

-- the form of the words after `verify`
abbrev pub verify_form : List (List ℕ) → Option Form
verify_form words = run_after true (λ g. verify g.share g.fast g.files) (running [] false false) words

-- the form of the words after `translate`
abbrev pub translate_form : List (List ℕ) → Option Form
translate_form words = run_after false (λ g. translate g.share g.files) (running [] false false) words

-- one or more files, the articles of a run in order; a file may be named twice
abbrev pub are_files : List (List ℕ) → Bool
are_files [] = false
are_files (name ∷ names) = list_all is_file (name ∷ names)

-- the form of the words after `show` or `article`: files
abbrev pub files_form : (List (List ℕ) → Form) → List (List ℕ) → Option Form
files_form form names = if are_files names then Some (form names) else None

-- the form of the words after `decode`: a file
abbrev pub decode_form : List (List ℕ) → Option Form
decode_form (name ∷ []) = if is_file name then Some (decode name) else None
decode_form words = None

-- the form of the words after `trial`: a number of blocks
abbrev pub trial_form : List (List ℕ) → Option Form
trial_form (word ∷ []) = option_map trial (trial_of word)
trial_form words = None

-- the form of a word and those after it
abbrev pub form_by : List ℕ → List (List ℕ) → Option Form
form_by word words =
    if bytes_eq word (codes "verify") then verify_form words
    else if bytes_eq word (codes "translate") then translate_form words
    else if bytes_eq word (codes "check") then check_form words
    else if bytes_eq word (codes "show") then files_form show words
    else if bytes_eq word (codes "decode") then decode_form words
    else if bytes_eq word (codes "trial") then trial_form words
    else if bytes_eq word (codes "article") then files_form article words
    else None

-- the form of the words after the program's name, if they have one
abbrev pub form_after : List (List ℕ) → Option Form
form_after [] = None
form_after (word ∷ words) = form_by word words

-- the form of all words, of which the first is the program's name
abbrev pub form_of : List (List ℕ) → Option Form
form_of [] = None
form_of (program ∷ words) = form_after words
