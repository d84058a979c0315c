use Rattle.lp_conv.proofs.Spines.{body-known}
use Rattle.dk_cases.proofs.types.last_body.Goals as goal

pub returns : goal.returns
returns c = body-known _ _ _ c.get.result.now c.requires.decls c.get.ensures
