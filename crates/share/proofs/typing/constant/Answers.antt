use Rattle.std.proofs.Common.{◌∙◌}
use Rattle.share.proofs.TurnLaws.{asked, constant-noted, none_noted}
use Rattle.share.proofs.typing.constant.Goals as goal

pub returns-in_default : goal.returns-in_default
returns-in_default c = record {
  told = constant-noted c.args.table.now c.args.id.0 c.view.result _ c.copied.result c.view.ensures.is c.in_default.not-Pi
      (c.copied.ensures ∙ c.get.ensures.value);
  asked = none_noted c.copied.result _ (λ m. asked m c.args.table.now c.args.id.0 c.view.result c.view.ensures.is c.in_default.not-Pi);
}
