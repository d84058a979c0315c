use Rattle.std.proofs.Common.{◌≡◌}
use Rattle.hol_defs.specs.Symbols.{AreKnownSymbols}
use Rattle.hol_tests.proofs.many.take_all.Given as goal

abbrev pub invariant-loop-number : goal.invariant-loop-number
invariant-loop-number l = (l.table ≡ l.fn.table) × AreKnownSymbols l.table l.symbols
