use Rattle.std.proofs.Common.{arith}
use Rattle.article_steps.proofs.ReadyLaws.{room-least, ready-term}
use Rattle.article_steps.proofs.trees.write_term.Goals as goal

pub write_jobs-requires-clause-room : goal.write_jobs-requires-clause-room
write_jobs-requires-clause-room g c = let h = room-least c.args.terms.now c.args.number c.args.room.now c.args.keys.now c.requires.ready in omega (arith, h)

pub write_jobs-requires-clause-ready : goal.write_jobs-requires-clause-ready
write_jobs-requires-clause-ready g c = ready-term c.args.terms.now c.args.number c.args.room.now c.args.keys.now c.requires.ready c.args.id c.requires.known
    c.requires.closed

pub returns : goal.returns
returns g c = c.write_jobs.ensures
