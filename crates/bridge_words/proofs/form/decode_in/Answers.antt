use Rattle.std.proofs.Common.{◌∙◌, ap, codes, option_map}
use Rattle.clap.specs.Matches.{found_of}
use Rattle.clap.proofs.WalkLemmas.{first_value-rows}
use Rattle.bridge_spec.specs.Forms.{decode}
use Rattle.bridge_words.proofs.form.decode_in.Goals as goal

pub returns-in-Some : goal.returns-in-Some
returns-in-Some c = ap (option_map decode) (c.in-Some.ensures ∙ first_value-rows (found_of c.args.found.now) (codes "file"))

pub returns-in-None : goal.returns-in-None
returns-in-None c = ap (option_map decode) (c.in-None.ensures ∙ first_value-rows (found_of c.args.found.now) (codes "file"))
