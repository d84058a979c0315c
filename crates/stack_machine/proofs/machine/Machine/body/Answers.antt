use Rattle.stack_machine.proofs.machine.Machine.body.Goals as goal

pub returns-clause-taken : goal.returns-clause-taken
returns-clause-taken c = rw c.make_room.ensures at c.run.ensures.taken

pub returns-clause-refused : goal.returns-clause-refused
returns-clause-refused c = rw c.make_room.ensures at c.run.ensures.refused

pub returns-clause-unchanged : goal.returns-clause-unchanged
returns-clause-unchanged c = rw c.make_room.ensures at c.run.ensures.unchanged
