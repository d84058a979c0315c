use Rattle.stack_machine.proofs.Stated.{AreSaid-known, found-first}
use Rattle.stack_machine.proofs.stating.first_of.Goals as goal

pub returns : goal.returns
returns c =
    let proof = c.args.proof.now in
    let sequent = c.args.sequent.now in
    let pool = c.args.pool.now in
    found-first proof sequent pool c.requires.pool c.find.result
    (c.find.ensures proof.trees (rw c.terms.ensures at c.view-head.ensures.distinct) (AreSaid-known proof sequent pool c.requires.pool) c.requires.sequent)
