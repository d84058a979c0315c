use Rattle.std.proofs.Common.{arith}
use Rattle.article_steps.proofs.ReadyLaws.{room-least, ready-list}
use Rattle.article_steps.proofs.trees.end_list.Goals as goal

pub write_jobs-requires-clause-room : goal.write_jobs-requires-clause-room
write_jobs-requires-clause-room g c = let h = room-least c.args.terms.now 0 c.args.room.now c.args.keys.now c.requires in omega (arith, h)

pub write_jobs-requires-clause-ready : goal.write_jobs-requires-clause-ready
write_jobs-requires-clause-ready g c = ready-list c.args.terms.now 0 c.args.room.now c.args.keys.now c.requires c.args.count

pub returns : goal.returns
returns g c = c.write_jobs.ensures
