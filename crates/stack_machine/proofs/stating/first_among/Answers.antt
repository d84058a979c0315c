use Rattle.stack_machine.proofs.Stated.{AreSaid-known, found_among-first}
use Rattle.stack_machine.proofs.stating.first_among.Goals as goal

pub returns : goal.returns
returns c =
    let proof = c.args.proof.now in
    let sequent = c.args.sequent.now in
    let pool = c.args.pool.now in
    found_among-first proof sequent pool c.requires.pool c.find_among.result c.args.count
    (c.find_among.ensures proof.trees (rw c.terms.ensures at c.view-head.ensures.distinct) (AreSaid-known proof sequent pool c.requires.pool)
    c.requires.sequent)
