-- What building makes of the command.
use Rattle.std.proofs.Common.{◌≡◌, ℕ, true, false, List, [], ◌∷◌, Option, Some, None, codes, refl}
use Rattle.clap.specs.Walk.{Rule}
use Rattle.clap.specs.Simple.{App, Shape, built}
use Rattle.clap.specs.Faults.{is_simple_and_free}
use Rattle.clap.specs.declared.builder.value_parser.ValueParser.TheVariants as vp
use Rattle.bridge_words.specs.Commands.{files_rule, file_rule, blocks_rule, budget_rule, flag_rule, bridge_app}

-- an argument with what it left out
abbrev pub filled_rule : Option ℕ → Rule → Rule
filled_rule index rule = record rule { index = index; parser = Some vp.String; range = Some (record { start_inclusive = 1; end_inclusive = 1 }) }

-- a flag with what it left out
abbrev pub flag_arg : List ℕ → Rule
flag_arg name = record (flag_rule name) {
  defaults = codes "false" ∷ [];
  missing = codes "true" ∷ [];
  parser = Some vp.Bool;
  range = Some (record { start_inclusive = 0; end_inclusive = 0 });
}

-- a subcommand, as it is built
abbrev pub leaf : List ℕ → List Rule → Shape
leaf name rules = record {
  name = name;
  aliases = [];
  rules = rules;
  is_plain = true;
  is_leaf = true;
  no_binary_name = false;
  disable_help_flag = true;
  disable_help_subcommand = true;
  disable_version_flag = true;
  propagate_version = false;
  has_version = false;
  has_long_version = false;
  args_override_self = false;
  arg_required_else_help = false;
  subcommand_required = false;
  subcommand_negates_reqs = false;
  is_built = true;
}

abbrev pub files_leaf : List ℕ → Shape
files_leaf name = leaf name (filled_rule (Some 1) files_rule ∷ [])

abbrev pub verify_leaf : Shape
verify_leaf = leaf (codes "verify") (filled_rule (Some 1) files_rule ∷ flag_arg (codes "share") ∷ flag_arg (codes "fast") ∷ [])

abbrev pub translate_leaf : Shape
translate_leaf = leaf (codes "translate") (filled_rule (Some 1) files_rule ∷ flag_arg (codes "share") ∷ [])

abbrev pub decode_leaf : Shape
decode_leaf = leaf (codes "decode") (filled_rule (Some 1) file_rule ∷ [])

abbrev pub trial_leaf : Shape
trial_leaf = leaf (codes "trial") (filled_rule (Some 1) blocks_rule ∷ [])

abbrev pub check_leaf : Shape
check_leaf = leaf (codes "check") (filled_rule (Some 1) file_rule ∷ filled_rule None budget_rule ∷ flag_arg (codes "fast") ∷ [])

-- the command, as it is built
abbrev pub top_shape : Shape
top_shape = record (leaf (codes "bridge") []) { is_leaf = false; subcommand_required = true }

abbrev pub built_app : App
built_app = record {
  top = top_shape;
  subs = verify_leaf ∷ translate_leaf ∷ check_leaf ∷ files_leaf (codes "show") ∷ decode_leaf ∷ trial_leaf ∷ files_leaf (codes "article") ∷ [];
}

-- this is what building makes
pub built_is : built bridge_app ≡ built_app
built_is = refl

-- no argument of it has a rule on another, so that `clap` tells what is at fault
pub simple_and_free : is_simple_and_free bridge_app ≡ true
simple_and_free = refl
