use Rattle.std.proofs.Common.{◌∙◌, ap, codes, []}
use Rattle.std.specs.Prelude.{unwrap_or}
use Rattle.std.proofs.lemmas.Result.{IfOk-weaker}
use Rattle.clap.specs.Matches.{found_of}
use Rattle.clap.proofs.WalkLemmas.{raw_values-rows}
use Rattle.bridge_spec.specs.Calls.{names_in}
use Rattle.bridge_words.proofs.form.files_in.Goals as goal

pub returns-in-Some : goal.returns-in-Some
returns-in-Some c = IfOk-weaker c.copied.result _ _
    (λ files h. h ∙ ap (λ words. unwrap_or words []) (c.in-Some.ensures ∙ raw_values-rows (found_of c.args.found.now) (codes "file"))) c.copied.ensures

pub returns-in-None : goal.returns-in-None
returns-in-None c = ap names_in c.new.ensures.items
    ∙ ap (λ words. unwrap_or words []) (c.in-None.ensures ∙ raw_values-rows (found_of c.args.found.now) (codes "file"))
