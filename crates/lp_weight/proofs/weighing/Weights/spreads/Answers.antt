use Rattle.std.proofs.Common.{arith}
use Rattle.lp_term.specs.Tables.{tree_at}
use Rattle.lp_weight.proofs.HeadLaws.{plain-spreads, head-spreads}
use Rattle.lp_weight.proofs.weighing.Weights.spreads.Goals as goal

pub returns-in-Plain : goal.returns-in-Plain
returns-in-Plain c =
    let is = c.requires.weights.column c.args.id.0 c.get-spread.result c.get-spread.ensures in
    plain-spreads c.args.base.now (tree_at c.args.base.now.table c.args.id.0) c.get-spread.result _ is c.in-Plain.is

pub returns-in-Symbol : goal.returns-in-Symbol
returns-in-Symbol c =
    let is = c.requires.weights.column c.args.id.0 c.get-spread.result c.get-spread.ensures in
    head-spreads c.args.base.now (tree_at c.args.base.now.table c.args.id.0) c.get-spread.result c.in-Symbol.head c.size-rest.result
    c.saturating_add-in-Symbol.result is c.in-Symbol.is c.size-rest.ensures (omega (arith, c.saturating_add.ensures, c.saturating_add-in-Symbol.ensures))
