use Rattle.std.proofs.Common.{◌∙◌, ap}
use Rattle.std.proofs.lemmas.Result.{IfOk-weaker}
use Rattle.clap.specs.Walk.{rows_of}
use Rattle.clap.specs.Matches.{found_of}
use Rattle.bridge_words.specs.Matches.{read}
use Rattle.bridge_words.proofs.Answering.{named-rows, unnamed-rows}
use Rattle.bridge_words.proofs.form.form_asked.Goals as goal

pub returns-in-Some : goal.returns-in-Some
returns-in-Some c =
    let rows = named-rows c.args.matches.now c.in-Some.name.now (rows_of (found_of c.in-Some.found.now)) c.in-Some.ensures.name c.in-Some.ensures.rows in
    IfOk-weaker c.form_named.result _ _ (λ form h. h ∙ ap read rows) c.form_named.ensures

pub returns-in-None : goal.returns-in-None
returns-in-None c = ap read (unnamed-rows c.args.matches.now c.in-None.ensures.name)
