use Rattle.std.proofs.Common.{◌∙◌, sym, subst, ◌<◌}
use Rattle.hol_rules.specs.Views.{step_at}
use Rattle.hol_spec.specs.declared.StepKind.TheVariants.{Axiom}
use Rattle.article_spec.specs.declared.commands.Item.TheVariants as item
use Rattle.article_spec.specs.declared.commands.Word.TheVariants as word
use Rattle.article_write_spec.specs.Drafts.{Draft, say_word}
use Rattle.article_write_spec.specs.WrittenSteps.{keep_theorem, write_given}
use Rattle.article_steps.proofs.SaidLaws.{appends-then}
use Rattle.article_steps.proofs.AddsLaws.{adds-then, adds-stop, adds-then-say, open-of, count-of}
use Rattle.article_steps.proofs.NewTheorems.{new-given}
use Rattle.article_steps.proofs.StepWriters.{appends-word, appends-theorem}
use Rattle.article_steps.proofs.steps.write_assumption.Goals as goal

pub keep_theorem-requires-clause-room : goal.keep_theorem-requires-clause-room
keep_theorem-requires-clause-room g c =
    subst (λ n. c.args.id < n)
    (sym (count-of c.args.source.proof.now.trees _ _ _ _ _ _ _ _ _ _ c.in_ok-write_parameters.was c.write_parameters.ensures ∙ c.requires.count))
    c.requires.step

pub keep_theorem-requires-clause-new : goal.keep_theorem-requires-clause-new
keep_theorem-requires-clause-new g c =
    let x = step_at c.args.source.proof.now.made c.args.id in
    new-given c.args.source.proof.now.trees c.args.source.number x.parameters _ _ c.args.room.now.room _ _ _ _ _ _ _ Axiom c.args.id
    c.in_ok-write_parameters.was c.requires.ready c.write_parameters.ensures
    (subst (λ n. c.args.id < n) (sym c.requires.count) c.requires.step) c.requires.new

pub returns-in_err-write_parameters : goal.returns-in_err-write_parameters
returns-in_err-write_parameters g c =
    let x = step_at c.args.source.proof.now.made c.args.id in
    adds-stop c.args.source.proof.now.trees (write_given c.args.source.number x.parameters) (λ (d : Draft). keep_theorem c.args.id (say_word word.Axiom d)) _ _
    _ _ _ _ _ _ _ _ _
    (appends-then (say_word word.Axiom) (keep_theorem c.args.id) (appends-word word.Axiom) (appends-theorem c.args.id)) c.in_err-write_parameters.was
    c.from_residual.ensures.0 c.write_parameters.ensures

pub returns-in_err-write_word : goal.returns-in_err-write_word
returns-in_err-write_word g c =
    let x = step_at c.args.source.proof.now.made c.args.id in
    adds-stop c.args.source.proof.now.trees (λ (d : Draft). say_word word.Axiom (write_given c.args.source.number x.parameters d)) (keep_theorem c.args.id) _ _
    _ _ _ _ _ _ _ _ _ (appends-theorem c.args.id) c.in_err-write_word.was c.from_residual-in_err-write_word.ensures.0
    (adds-then-say c.args.source.proof.now.trees (write_given c.args.source.number x.parameters) (item.Word word.Axiom) _ _ _ _ _ _ _ _ _ _ _ _
    c.in_ok-write_parameters.was c.write_parameters.ensures c.write_word.ensures)

pub returns : goal.returns
returns g c =
    let x = step_at c.args.source.proof.now.made c.args.id in
    adds-then c.args.source.proof.now.trees (λ (d : Draft). say_word word.Axiom (write_given c.args.source.number x.parameters d)) (keep_theorem c.args.id) _ _
    _ _ _ _ _ _ _ _ _ _ _ _ (appends-theorem c.args.id) c.in_ok-write_word.was
    (adds-then-say c.args.source.proof.now.trees (write_given c.args.source.number x.parameters) (item.Word word.Axiom) _ _ _ _ _ _ _ _ _ _ _ _
    c.in_ok-write_parameters.was c.write_parameters.ensures c.write_word.ensures)
    (c.keep_theorem.ensures.adds c.args.source.proof.now.trees _
    (open-of c.args.source.proof.now.trees _ _ _ _ _ _ _ _ _ _ c.in_ok-write_parameters.was c.write_parameters.ensures))
