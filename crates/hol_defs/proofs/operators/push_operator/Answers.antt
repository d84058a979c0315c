use Rattle.hol_defs.specs.Symbols.{Taken, named}
use Rattle.hol_defs.proofs.UseLaws.{taken_of-last}
use Rattle.hol_defs.proofs.operators.push_operator.Goals as goal

pub returns-clause-takes : goal.returns-clause-takes
returns-clause-takes c = taken_of-last c.args.taken.now.items c.push.new.self.items _ _ c.in_ok-push.ensures.items
    (λ j. Taken.type_operator
    (named (c.in_ok-clone.ensures.cases j) (c.in_ok-clone-2.ensures.cases j) (c.in_ok-clone-3.ensures.cases j) (c.in_ok-copied.ensures j))
    c.args.definition.whole c.args.definition.predicate c.args.definition.abs_type c.args.definition.rep_type)
