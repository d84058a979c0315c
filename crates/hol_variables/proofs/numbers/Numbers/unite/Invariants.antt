use Rattle.std.proofs.Common.{◌≡◌}
use Rattle.std.specs.Prelude.{drop, nat_eq}
use Rattle.hol_spec.specs.Lists.{union}
use Rattle.hol_variables.proofs.numbers.Numbers.unite.Given as goal

abbrev pub invariant-loop-n : goal.invariant-loop-n
invariant-loop-n l = union nat_eq l.self (drop l.n-index l.others) ≡ union nat_eq l.fn.self l.others
