use Rattle.std.proofs.Common.{◌∙◌, ap}
use Rattle.std.proofs.lemmas.Result.{IfOk-weaker}
use Rattle.clap.specs.Simple.{App, app_of, with_subcommand}
use Rattle.bridge_words.proofs.command.with_translate.Goals as goal

pub returns : goal.returns
returns c =
    let top = ap (λ (a : App). with_subcommand (app_of c.args.command) a.top) c.in_ok-run_command.ensures.app in
    IfOk-weaker c.subcommand.result _ _ (λ more added. added.shape c.in_ok-run_command.ensures.local ∙ top) c.subcommand.ensures
