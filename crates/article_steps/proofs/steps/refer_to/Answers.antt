use Rattle.std.proofs.Common.{ap, ◌∙◌}
use Rattle.std.specs.Prelude.{unwrap_or}
use Rattle.article_steps.proofs.StepWriters.{adds-premise}
use Rattle.article_steps.proofs.steps.refer_to.Goals as goal

pub returns : goal.returns
returns g c = λ trees room o.
    adds-premise trees c.args.id c.unwrap_or-key.result c.args.keys.now room _ _ _ _ _ (c.unwrap_or-key.ensures ∙ ap (λ z. unwrap_or z 0) c.key.ensures.key)
    c.requires o c.write_key.ensures
