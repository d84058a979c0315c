use Rattle.translate_rule.proofs.PremiseLaws.{one-item}
use Rattle.translate_rule.proofs.premises.only.Goals as goal

pub returns : goal.returns
returns c = one-item c.args.ids.now c.requires
