use Rattle.holide_sig.specs.Modules.{IsHeld}
use Rattle.bench.proofs.writing.push_nests.Given as goal

abbrev pub invariant-loop-number : goal.invariant-loop-number
invariant-loop-number l = IsHeld l.into
