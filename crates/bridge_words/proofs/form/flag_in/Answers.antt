use Rattle.std.proofs.Common.{◌∙◌, ap, codes, []}
use Rattle.std.specs.Prelude.{unwrap_or}
use Rattle.std.specs.Str.{bytes_eq}
use Rattle.clap.specs.Matches.{found_of}
use Rattle.clap.proofs.WalkLemmas.{first_value-rows}
use Rattle.bridge_words.proofs.form.flag_in.Goals as goal

pub returns-in-Some : goal.returns-in-Some
returns-in-Some c = c.eq.ensures ∙ ap (λ word. bytes_eq (unwrap_or word []) (codes "true"))
    (c.in-Some.ensures ∙ first_value-rows (found_of c.args.found.now) c.args.name.now)

pub returns-in-None : goal.returns-in-None
returns-in-None c = ap (λ word. bytes_eq (unwrap_or word []) (codes "true")) (c.in-None.ensures ∙ first_value-rows (found_of c.args.found.now) c.args.name.now)
