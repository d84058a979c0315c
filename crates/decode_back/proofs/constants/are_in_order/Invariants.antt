use Rattle.std.proofs.Common.{◌≡◌, drop}
use Rattle.decode_back.specs.Walks.{numbered_from}
use Rattle.decode_back.proofs.constants.are_in_order.Given as goal

abbrev pub invariant-loop-number : goal.invariant-loop-number
invariant-loop-number l = numbered_from 0 l.names ≡ numbered_from l.number (drop l.number l.names)
