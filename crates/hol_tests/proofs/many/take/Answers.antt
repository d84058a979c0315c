use Rattle.hol_tests.proofs.many.take.Goals as goal

pub use_const-requires-clause-known : goal.use_const-requires-clause-known
use_const-requires-clause-known c = c.use_op.ensures.known c.args.table.now c.requires.known
