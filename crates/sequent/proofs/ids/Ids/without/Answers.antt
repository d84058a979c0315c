use Rattle.std.proofs.Common.{arith}
use Rattle.sequent.proofs.HypLaws.{kept_all}
use Rattle.sequent.proofs.ids.Ids.without.Goals as goal

pub returns : goal.returns
returns c = kept_all c.args.numbers.now c.args.numbers.now c.loop-number.rest c.loop-number.number-index c.args.id (omega (arith, c.loop-number-test.false))
    c.requires c.loop-number.invariant
