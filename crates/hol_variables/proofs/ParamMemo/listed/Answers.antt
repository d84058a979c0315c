use Rattle.hol_variables.proofs.Measured.{listed_count}
use Rattle.hol_variables.proofs.ParamMemo.listed.Goals as goal

pub returns : goal.returns
returns c = listed_count c.args.terms.now c.args.id.0 _ _ _ c.in-Some.ensures c.saturating_add.ensures
