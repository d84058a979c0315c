use Rattle.std.proofs.Common.{◌≡◌, ◌++◌, length}
use Rattle.decode_back.proofs.types.gathered.Given as goal

abbrev pub invariant-loop : goal.invariant-loop
invariant-loop l = (l.fn.made ≡ l.args.items ++ l.made) × (length l.args.items ≡ l.counter)
