use Rattle.hol_defs.specs.Symbols.{Taken}
use Rattle.hol_defs.proofs.UseLaws.{taken_of-last}
use Rattle.hol_defs.proofs.uses.push_input_operator.Goals as goal

pub returns-clause-takes : goal.returns-clause-takes
returns-clause-takes c = taken_of-last c.args.taken.now.items c.push.new.self.items _ _ c.in_ok-push.ensures.items
    (λ j. Taken.input_operator (c.in_ok-clone.ensures.cases j) c.args.arity)
