use Rattle.hol_variables.proofs.Unions.{none_twice}
use Rattle.hol_variables.proofs.numbers.Numbers.new.Goals as goal

pub invariant_of-result : goal.invariant_of-result
invariant_of-result c = none_twice c.new.result c.new.ensures.empty
