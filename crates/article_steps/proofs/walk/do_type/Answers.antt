use Rattle.std.proofs.Common.{◌∙◌, refl, sym, arith}
use Rattle.article_lines.specs.declared.keys.Thing.TheVariants as thing
use Rattle.article_steps.proofs.AgendaLaws.{goes-on, goes-quiet}
use Rattle.article_steps.proofs.JobSteps.{type-room, key-of, type-known, type-new}
use Rattle.article_steps.proofs.walk.do_type.Goals as goal

pub returns-in-Some : goal.returns-in-Some
returns-in-Some g c =
    let same = key-of c.args.terms.now c.args.number c.args.room.now c.args.keys.now (thing.Type c.args.id) c.requires.known c.requires.jobs.0.known in
    goes-on _ _ _ _ _ _ _ _ _ _ _ _ _ refl c.requires (type-known _ _ _ _ c.args.id c.in-Some.key c.requires (same ∙ sym c.key.ensures.key ∙ c.in-Some.is))
    c.write_key.ensures

pub push_all-requires : goal.push_all-requires
push_all-requires g c = let h = type-room c.args.terms.now c.args.number c.args.room.now c.args.keys.now c.args.id c.requires in omega (arith, h)

pub returns-in-None : goal.returns-in-None
returns-in-None g c =
    let same = key-of c.args.terms.now c.args.number c.args.room.now c.args.keys.now (thing.Type c.args.id) c.requires.known c.requires.jobs.0.known in
    goes-quiet _ _ _ _ _ _ _ _ _ _ _ refl c.push_all.ensures c.requires (type-new _ _ _ _ c.args.id c.requires (same ∙ sym c.key.ensures.key ∙ c.in-None.is))
