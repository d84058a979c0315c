-- What the matches of a command ask for.
use Rattle.std.specs.Prelude.{codes, List, [], Option, Some, None, Bool, option_map, option_and_then, unwrap_or, if◌then◌else◌}
use Rattle.std.specs.Str.{bytes_eq}
use Rattle.clap.specs.Words.{Row, Text, all_of, first_of}
use Rattle.bridge_spec.specs.Forms.{Form, verify, translate, show, decode, trial, budget_in, check_in, Running, running, trial_of}

-- the files, none where the words give none
abbrev pub files_in : List Row → List Text
files_in rows = unwrap_or (all_of (codes "file") rows) []

-- what the matches of each subcommand ask for: files
abbrev pub read_files : (List Text → Form) → List Row → Option Form
read_files form rows = Some (form (files_in rows))

-- .. a file
abbrev pub read_decode : List Row → Option Form
read_decode rows = option_map decode (first_of (codes "file") rows)

-- .. a number of blocks
abbrev pub read_trial : List Row → Option Form
read_trial rows = option_and_then (λ word. option_map trial (trial_of word)) (first_of (codes "blocks") rows)

-- whether a flag is among the words
abbrev pub flag_in : Text → List Row → Bool
flag_in name rows = bytes_eq (unwrap_or (first_of name rows) []) (codes "true")

-- .. files, and the flags before and among them
abbrev pub read_run : (Running → Form) → List Row → Option Form
read_run form rows = Some (form (running (files_in rows) (flag_in (codes "share") rows) (flag_in (codes "fast") rows)))

abbrev pub read_verify : List Row → Option Form
read_verify rows = read_run (λ g. verify g.share g.fast g.files) rows

abbrev pub read_translate : List Row → Option Form
read_translate rows = read_run (λ g. translate g.share g.files) rows

-- .. a file and a budget, and whether the check is to be fast
abbrev pub read_check : List Row → Option Form
read_check rows = check_in (flag_in (codes "fast") rows) (first_of (codes "file") rows) (budget_in (first_of (codes "budget") rows))

-- the form that a subcommand of this name and its matches ask for
abbrev pub read_named : Text → List Row → Option Form
read_named name rows =
    if bytes_eq name (codes "verify") then read_verify rows
    else if bytes_eq name (codes "translate") then read_translate rows
    else if bytes_eq name (codes "check") then read_check rows
    else if bytes_eq name (codes "show") then read_files show rows
    else if bytes_eq name (codes "decode") then read_decode rows
    else if bytes_eq name (codes "trial") then read_trial rows
    else if bytes_eq name (codes "article") then read_files Form.article rows
    else None

-- .. and where there is no subcommand, none
abbrev pub read : Option (Text × List Row) → Option Form
read None = None
read (Some p) = read_named p.0 p.1
