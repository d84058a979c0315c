use Rattle.std.proofs.Common.{ℕ, List}
use Rattle.dk_read.specs.Readers.{IsFed}
use Rattle.bench.proofs.modules.feed_file.Given as goal

abbrev pub invariant-loop : goal.invariant-loop
invariant-loop l = (text : List ℕ) × IsFed l.reader text
