use Rattle.hol_rules.specs.Views.{step_at}
use Rattle.article_spec.specs.declared.commands.Item.TheVariants as item
use Rattle.article_spec.specs.declared.commands.Word.TheVariants as word
use Rattle.article_write_spec.specs.Drafts.{Draft, say_word, write_each}
use Rattle.article_write_spec.specs.WrittenSteps.{write_premise, write_given}
use Rattle.article_steps.proofs.SaidLaws.{appends-then}
use Rattle.article_steps.proofs.AddsLaws.{adds-then, adds-stop, adds-then-say, adds-stop-say}
use Rattle.article_steps.proofs.StepWriters.{appends-given, appends-word}
use Rattle.article_steps.proofs.steps.write_export.Goals as goal

pub returns-in_err-write_premises : goal.returns-in_err-write_premises
returns-in_err-write_premises g c =
    let x = step_at c.args.source.proof.now.made c.args.id in
    adds-stop c.args.source.proof.now.trees (write_each write_premise x.premises)
    (λ (d : Draft). say_word word.Thm (write_given c.args.source.number x.parameters d)) _ _ _ _ _ _ _ _ _ _ _
    (appends-then (write_given c.args.source.number x.parameters) (say_word word.Thm) (appends-given c.args.source.number x.parameters) (appends-word word.Thm))
    c.in_err-write_premises.was c.from_residual.ensures.0
    (c.write_premises.ensures c.args.room.now.room c.requires.ready)

pub returns-in_err-write_parameters : goal.returns-in_err-write_parameters
returns-in_err-write_parameters g c =
    let x = step_at c.args.source.proof.now.made c.args.id in
    adds-stop-say c.args.source.proof.now.trees (λ (d : Draft). write_given c.args.source.number x.parameters (write_each write_premise x.premises d))
    (item.Word word.Thm) _ _ _ _ _ _ _ _ _ _ _ c.in_err-write_parameters.was c.from_residual-in_err-write_parameters.ensures.0
    (adds-then c.args.source.proof.now.trees (write_each write_premise x.premises) (write_given c.args.source.number x.parameters) _ _ _ _ _ _ _ _ _ _ _ _ _ _
    (appends-given c.args.source.number x.parameters) c.in_ok-write_premises.was
    (c.write_premises.ensures c.args.room.now.room c.requires.ready) c.write_parameters.ensures)

pub returns : goal.returns
returns g c =
    let x = step_at c.args.source.proof.now.made c.args.id in
    adds-then-say c.args.source.proof.now.trees (λ (d : Draft). write_given c.args.source.number x.parameters (write_each write_premise x.premises d))
    (item.Word word.Thm) _ _ _ _ _ _ _ _ _ _ _ _ c.in_ok-write_parameters.was
    (adds-then c.args.source.proof.now.trees (write_each write_premise x.premises) (write_given c.args.source.number x.parameters) _ _ _ _ _ _ _ _ _ _ _ _ _ _
    (appends-given c.args.source.number x.parameters) c.in_ok-write_premises.was
    (c.write_premises.ensures c.args.room.now.room c.requires.ready) c.write_parameters.ensures) c.write_word.ensures
