use Rattle.std.proofs.Common.{◌≡◌, ◌<◌}
use Rattle.std.specs.Prelude.{drop}
use Rattle.hol_term.specs.Masks.{mixed}
use Rattle.hol_term.proofs.masks.number.Given as goal

abbrev pub invariant-loop-byte : goal.invariant-loop-byte
invariant-loop-byte l = (mixed l.number (drop l.byte-index l.bytes) ≡ mixed 0 l.bytes) × (l.number < 64)
