use Rattle.std.proofs.Common.{◌∙◌, refl, sym, arith}
use Rattle.hol_spec.specs.Terms.{type_of}
use Rattle.hol_term.specs.Tables.{term_at}
use Rattle.article_lines.specs.declared.keys.Thing.TheVariants as thing
use Rattle.article_steps.proofs.AgendaLaws.{goes-on, goes-quiet}
use Rattle.article_steps.proofs.JobSteps.{is_some-of, closed-test, term-room, key-of, term-known, term-new}
use Rattle.article_steps.proofs.walk.do_closed_term.Goals as goal

pub push_all-requires : goal.push_all-requires
push_all-requires g c = let h = term-room c.args.terms.now c.args.number c.args.room.now c.args.keys.now c.args.id c.requires.ready in omega (arith, h)

pub returns-in-Some : goal.returns-in-Some
returns-in-Some g c =
    let t = term_at c.args.terms.now c.args.id.0 in
    let typed = is_some-of (type_of t) c.requires.closed in
    let same = key-of c.args.terms.now c.args.number c.args.room.now c.args.keys.now (thing.Term c.args.id) c.requires.ready.known c.requires.ready.jobs.0.known
    in
    goes-on _ _ _ _ _ _ _ _ _ _ _ _ _ refl c.requires.ready
    (term-known _ _ _ _ c.args.id c.in-Some.key c.requires.ready (closed-test c.args.terms.now c.args.number t typed.0 typed.1)
    (same ∙ sym c.key.ensures.key ∙ c.in-Some.is)) c.write_key.ensures

pub returns-in-None : goal.returns-in-None
returns-in-None g c =
    let t = term_at c.args.terms.now c.args.id.0 in
    let typed = is_some-of (type_of t) c.requires.closed in
    let same = key-of c.args.terms.now c.args.number c.args.room.now c.args.keys.now (thing.Term c.args.id) c.requires.ready.known c.requires.ready.jobs.0.known
    in
    goes-quiet _ _ _ _ _ _ _ _ _ _ _ refl c.push_all.ensures c.requires.ready
    (term-new _ _ _ _ c.args.id typed.0 c.requires.ready typed.1 (same ∙ sym c.key.ensures.key ∙ c.in-None.is))
