use Rattle.hol_term.proofs.TermTable.come_to.Goals as goal

pub come_by-requires : goal.come_by-requires
come_by-requires c = (c.args.root, c.args.seen.now, rw c.in-Some.ensures.popped at c.loop-id.invariant)
