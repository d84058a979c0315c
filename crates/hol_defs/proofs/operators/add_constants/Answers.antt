use Rattle.hol_defs.proofs.OperatorLaws.{lookup-last}
use Rattle.hol_defs.proofs.operators.add_constants.Goals as goal

pub add-requires-2 : goal.add-requires-2
add-requires-2 c = rw c.in_ok-add.ensures.added
    (lookup-last c.args.generics.now c.args.definition.abs.now c.args.definition.abs_type c.args.definition.rep.now c.requires.rep c.requires.apart)
