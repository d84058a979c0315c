use Rattle.std.proofs.Common.{◌∙◌}
use Rattle.share.proofs.TurnLaws.{same-number}
use Rattle.share.proofs.typing.is_same.Goals as goal

pub returns : goal.returns
returns c = c.eq.ensures ∙ same-number c.args.table.now c.view.ensures.distinct c.args.one.0 c.args.other.0 c.requires.one c.requires.other
