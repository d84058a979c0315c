use Rattle.std.proofs.Common.{◌∙◌, ap, ap₂, codes}
use Rattle.std.proofs.lemmas.Result.{IfOk-weaker}
use Rattle.clap.specs.Simple.{App, with_subcommand}
use Rattle.clap.specs.Walk.{Rule}
use Rattle.bridge_words.specs.Commands.{check_app, translate_app, verify_app, with_one}
use Rattle.bridge_words.proofs.command.command.Goals as goal

pub returns : goal.returns
returns c =
    let verify = c.in_ok-command.ensures ∙ ap (λ (a : App). with_subcommand a verify_app.top) c.plain_command.ensures in
    let translate = c.in_ok-command-2.ensures ∙ ap (λ (a : App). with_subcommand a translate_app.top) verify in
    let check = c.in_ok-command-3.ensures ∙ ap (λ (a : App). with_subcommand a check_app.top) translate in
    let show = c.in_ok-command-4.ensures ∙ ap₂ (λ (a : App) (r : Rule). with_one a (codes "show") r) check c.files.ensures.rule in
    let decode = c.in_ok-command-5.ensures ∙ ap₂ (λ (a : App) (r : Rule). with_one a (codes "decode") r) show c.file.ensures.rule in
    let trial = c.in_ok-command-6.ensures ∙ ap₂ (λ (a : App) (r : Rule). with_one a (codes "trial") r) decode c.blocks-2.ensures.rule in
    IfOk-weaker c.with_one-4.result _ _ (λ _ added. added ∙ ap₂ (λ (a : App) (r : Rule). with_one a (codes "article") r) trial c.files-2.ensures.rule)
    c.with_one-4.ensures
