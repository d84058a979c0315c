use Rattle.std.proofs.Common.{arith, [], ◌∷◌}
use Rattle.article_spec.specs.declared.commands.Item.TheVariants as item
use Rattle.article_spec.specs.declared.commands.Word.TheVariants as word
use Rattle.article_write_spec.specs.Drafts.{say_name}
use Rattle.article_steps.specs.declared.room.Job.TheVariants as job
use Rattle.article_steps.specs.Agendas.{do_jobs}
use Rattle.article_steps.proofs.AgendaLaws.{appends-jobs}
use Rattle.article_steps.proofs.AddsLaws.{adds-say, adds-then, adds-stop}
use Rattle.article_steps.proofs.ReadyLaws.{room-least, ready-type_pair}
use Rattle.article_steps.proofs.given.write_type_pair.Goals as goal

pub write_jobs-requires-clause-room : goal.write_jobs-requires-clause-room
write_jobs-requires-clause-room g c = let h = room-least c.args.terms.now 0 c.args.room.now c.args.keys.now c.requires.ready in omega (arith, h)

pub write_jobs-requires-clause-ready : goal.write_jobs-requires-clause-ready
write_jobs-requires-clause-ready g c = ready-type_pair c.args.terms.now 0 c.args.room.now c.args.keys.now c.requires.ready c.args.pair.now.1 c.requires.known

pub returns-in_err-write_name : goal.returns-in_err-write_name
returns-in_err-write_name g c =
    let js = job.Type c.args.pair.now.1 ∷ job.Word word.Nil ∷ job.Conses 2 ∷ [] in
    adds-stop c.args.terms.now (say_name c.args.pair.now.0) (do_jobs c.args.terms.now 0 [] js) _ _ _ _ _ _ _ _ _ _ _ (appends-jobs c.args.terms.now 0 [] js)
    c.in_err-write_name.was c.from_residual.ensures.0
    (adds-say c.args.terms.now (item.Name c.args.pair.now.0) c.args.keys.now c.args.room.now.room _ _ _ _ _ c.requires.ready c.write_name.ensures)

pub returns : goal.returns
returns g c =
    let js = job.Type c.args.pair.now.1 ∷ job.Word word.Nil ∷ job.Conses 2 ∷ [] in
    adds-then c.args.terms.now (say_name c.args.pair.now.0) (do_jobs c.args.terms.now 0 [] js) _ _ _ _ _ _ _ _ _ _ _ _ _ _
    (appends-jobs c.args.terms.now 0 [] js) c.in_ok-write_name.was
    (adds-say c.args.terms.now (item.Name c.args.pair.now.0) c.args.keys.now c.args.room.now.room _ _ _ _ _ c.requires.ready c.write_name.ensures)
    c.write_jobs.ensures
