use Rattle.translate_rule.proofs.PremiseLaws.{two-items}
use Rattle.translate_rule.proofs.premises.pair.Goals as goal

pub returns : goal.returns
returns c = two-items c.args.ids.now c.requires
