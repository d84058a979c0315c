use Rattle.sequent.proofs.ClosedLaws.{known_at}
use Rattle.sequent.proofs.closed.close_terms.Goals as goal

pub close_term-requires-clause-id : goal.close_term-requires-clause-id
close_term-requires-clause-id c = known_at c.args.table.now c.args.ids.now c.loop-id.id-index (record { 0 = 0 }) c.loop-id-test.true c.requires.ids
