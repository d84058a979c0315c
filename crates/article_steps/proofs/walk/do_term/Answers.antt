use Rattle.std.proofs.Common.{refl, arith}
use Rattle.article_steps.proofs.AgendaLaws.{goes-quiet}
use Rattle.article_steps.proofs.JobSteps.{term-room, term-open}
use Rattle.article_steps.proofs.walk.do_term.Goals as goal

pub push-requires : goal.push-requires
push-requires g c = let h = term-room c.args.terms.now c.args.number c.args.room.now c.args.keys.now c.args.id c.requires in omega (arith, h)

pub returns-in-None : goal.returns-in-None
returns-in-None g c = goes-quiet _ _ _ _ _ _ _ _ _ _ _ refl c.push.ensures c.requires (term-open _ _ _ _ c.args.id c.requires c.in-None.ensures.typed)
