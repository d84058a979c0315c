use Rattle.hol_variables.proofs.Unions.{none_twice-add}
use Rattle.hol_variables.proofs.numbers.Numbers.add.Goals as goal

pub invariant_of-self-2 : goal.invariant_of-self-2
invariant_of-self-2 c = none_twice-add c.self.inside.numbers c.insert_full.new.self c.args.n c.self.invariant c.in_ok-insert_full.ensures.keys
