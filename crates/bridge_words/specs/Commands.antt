-- The command that `clap` is asked to read the words by.
use Rattle.std.specs.Prelude.{codes, [], Some, true, Bool}
use Rattle.clap.specs.Words.{App, Rule, Text, new_app, new_rule, with_rule, with_subcommand}
use Rattle.clap.specs.declared.builder.command.Command.{Command}
use Rattle.clap.specs.declared.builder.command.Command.TheViews.{out-Command}
use Rattle.clap.specs.declared.builder.ArgAction.TheVariants.{Append, Set, SetTrue}

-- an argument of the command, or of a subcommand, is global
abbrev pub has_globals : Command → Bool
has_globals c = (out-Command c).has_globals

-- one or more files
abbrev pub files_rule : Rule
files_rule = record (new_rule (codes "file")) { action = Some Append; required = true }

-- a file
abbrev pub file_rule : Rule
file_rule = record (new_rule (codes "file")) { action = Some Set; required = true }

-- a number of blocks
abbrev pub blocks_rule : Rule
blocks_rule = record (new_rule (codes "blocks")) { action = Some Set; required = true }

-- `--budget N` or `--budget=N`
abbrev pub budget_rule : Rule
budget_rule = record (new_rule (codes "budget")) { long = Some (codes "budget"); action = Some Set }

-- a flag, `--` and its name
abbrev pub flag_rule : Text → Rule
flag_rule name = record (new_rule name) { long = Some name; action = Some SetTrue }

-- a command with one argument
abbrev pub one : Text → Rule → App
one name rule = with_rule (new_app name) rule

-- a command for a run of files: files, and `--share`
abbrev pub run_app : Text → App
run_app name = with_rule (one name files_rule) (flag_rule (codes "share"))

-- the command `verify`: files, `--share`, and `--fast`
abbrev pub verify_app : App
verify_app = with_rule (run_app (codes "verify")) (flag_rule (codes "fast"))

-- the command `translate`: files, and `--share`
abbrev pub translate_app : App
translate_app = run_app (codes "translate")

-- the command `check`: a file, a budget, and `--fast`
abbrev pub check_app : App
check_app = with_rule (with_rule (one (codes "check") file_rule) budget_rule) (flag_rule (codes "fast"))

-- the command without subcommands: it wants one, and has no help and no version
abbrev pub plain_app : App
plain_app = record {
  top = record (new_app (codes "bridge")).top {
    disable_help_flag = true;
    disable_version_flag = true;
    disable_help_subcommand = true;
    subcommand_required = true;
  };
  subs = [];
}

-- the command with one more subcommand, of this name and with one argument
abbrev pub with_one : App → Text → Rule → App
with_one app name rule = with_subcommand app (one name rule).top

-- the command with its subcommands
abbrev pub bridge_app : App
bridge_app =
    with_one (with_one (with_one (with_one (with_subcommand (with_subcommand (with_subcommand plain_app verify_app.top) translate_app.top)
    check_app.top) (codes "show") files_rule) (codes "decode") file_rule) (codes "trial") blocks_rule) (codes "article") files_rule
