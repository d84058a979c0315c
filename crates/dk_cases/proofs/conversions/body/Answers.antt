use Rattle.lp_conv.proofs.Spines.{body-known}
use Rattle.dk_cases.proofs.conversions.body.Goals as goal

pub returns : goal.returns
returns c = record { known = body-known _ _ _ c.get.result.now c.requires.held.decls c.get.ensures }
