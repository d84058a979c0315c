use Rattle.std.specs.Prelude.{◌<◌, length}
use Rattle.hol_term_tests.proofs.bench.Bench.doubled_type.Given as goal

abbrev pub invariant-loop : goal.invariant-loop
invariant-loop l = l.id.0 < length l.self.table.types
