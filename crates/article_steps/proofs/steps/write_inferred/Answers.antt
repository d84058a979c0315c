use Rattle.std.proofs.Common.{◌∙◌, sym, subst, ap, ◌<◌}
use Rattle.hol_rules.specs.Views.{step_at}
use Rattle.article_spec.specs.declared.commands.Item.TheVariants as item
use Rattle.article_write_spec.specs.Drafts.{Draft, say_word, write_each}
use Rattle.article_write_spec.specs.WrittenSteps.{keep_made, word_of, write_given, write_premise}
use Rattle.article_lines.specs.Writing.{line}
use Rattle.article_lines.specs.WritingLaws.{writes_same}
use Rattle.article_steps.proofs.SaidLaws.{appends-then}
use Rattle.article_steps.proofs.AddsLaws.{adds-then, adds-stop, adds-then-say, open-of, count-of}
use Rattle.article_steps.proofs.EachLaws.{adds-same}
use Rattle.article_steps.proofs.NewTheorems.{new-given}
use Rattle.article_steps.proofs.StepWriters.{appends-word, appends-premises, appends-made}
use Rattle.article_steps.proofs.steps.write_inferred.Goals as goal

pub write_premises-requires-clause-count : goal.write_premises-requires-clause-count
write_premises-requires-clause-count g c = count-of c.args.source.proof.now.trees _ _ _ _ _ _ _ _ _ _ c.in_ok-write_parameters.was c.write_parameters.ensures
    ∙ c.requires.count

pub keep_made-requires-clause-room : goal.keep_made-requires-clause-room
keep_made-requires-clause-room g c =
    subst (λ n. c.args.id < n)
    (sym (count-of c.args.source.proof.now.trees _ _ _ _ _ _ _ _ _ _ c.in_ok-write_parameters.was c.write_parameters.ensures ∙ c.requires.count))
    c.requires.step

pub keep_made-requires-clause-count : goal.keep_made-requires-clause-count
keep_made-requires-clause-count g c = count-of c.args.source.proof.now.trees _ _ _ _ _ _ _ _ _ _ c.in_ok-write_parameters.was c.write_parameters.ensures
    ∙ c.requires.count ∙ sym c.len.ensures

pub keep_made-requires-clause-new : goal.keep_made-requires-clause-new
keep_made-requires-clause-new g c =
    let x = step_at c.args.source.proof.now.made c.args.id in
    new-given c.args.source.proof.now.trees c.args.source.number x.parameters _ _ c.args.room.now.room _ _ _ _ _ _ _ c.args.kind c.args.id
    c.in_ok-write_parameters.was c.requires.ready c.write_parameters.ensures
    (subst (λ n. c.args.id < n) (sym c.requires.count) c.requires.step) c.requires.new

pub returns-in_err-write_parameters : goal.returns-in_err-write_parameters
returns-in_err-write_parameters g c =
    let x = step_at c.args.source.proof.now.made c.args.id in
    adds-stop c.args.source.proof.now.trees (write_given c.args.source.number x.parameters)
    (λ (d : Draft). keep_made x.kind c.args.id (say_word (word_of x.kind) (write_each write_premise x.premises d))) _ _ _ _ _ _ _ _ _ _ _
    (appends-then (λ (d : Draft). say_word (word_of x.kind) (write_each write_premise x.premises d)) (keep_made x.kind c.args.id)
    (appends-then (write_each write_premise x.premises) (say_word (word_of x.kind)) (appends-premises x.premises) (appends-word (word_of x.kind)))
    (appends-made x.kind c.args.id))
    c.in_err-write_parameters.was c.from_residual.ensures.0 c.write_parameters.ensures

pub returns-in_err-write_premises : goal.returns-in_err-write_premises
returns-in_err-write_premises g c =
    let x = step_at c.args.source.proof.now.made c.args.id in
    adds-stop c.args.source.proof.now.trees (λ (d : Draft). write_each write_premise x.premises (write_given c.args.source.number x.parameters d))
    (λ (d : Draft). keep_made x.kind c.args.id (say_word (word_of x.kind) d)) _ _ _ _ _ _ _ _ _ _ _
    (appends-then (say_word (word_of x.kind)) (keep_made x.kind c.args.id) (appends-word (word_of x.kind)) (appends-made x.kind c.args.id))
    c.in_err-write_premises.was c.from_residual-in_err-write_premises.ensures.0
    (adds-then c.args.source.proof.now.trees (write_given c.args.source.number x.parameters) (write_each write_premise x.premises) _ _ _ _ _ _ _ _ _ _ _ _ _ _
    (appends-premises x.premises) c.in_ok-write_parameters.was c.write_parameters.ensures
    (c.write_premises.ensures c.write_parameters.new.room.room
    (open-of c.args.source.proof.now.trees _ _ _ _ _ _ _ _ _ _ c.in_ok-write_parameters.was c.write_parameters.ensures)))

pub returns-in_err-write_word : goal.returns-in_err-write_word
returns-in_err-write_word g c =
    let x = step_at c.args.source.proof.now.made c.args.id in
    adds-stop c.args.source.proof.now.trees
    (λ (d : Draft). say_word (word_of x.kind) (write_each write_premise x.premises (write_given c.args.source.number x.parameters d)))
    (keep_made x.kind c.args.id) _ _ _ _ _ _ _ _ _ _ _
    (appends-made x.kind c.args.id) c.in_err-write_word.was c.from_residual-in_err-write_word.ensures.0
    (adds-then-say c.args.source.proof.now.trees (λ (d : Draft). write_each write_premise x.premises (write_given c.args.source.number x.parameters d))
    (item.Word (word_of x.kind)) _ _ _ _ _ _ _ _ _ _ _ _ c.in_ok-write_premises.was
    (adds-then c.args.source.proof.now.trees (write_given c.args.source.number x.parameters) (write_each write_premise x.premises) _ _ _ _ _ _ _ _ _ _ _ _ _ _
    (appends-premises x.premises) c.in_ok-write_parameters.was c.write_parameters.ensures
    (c.write_premises.ensures c.write_parameters.new.room.room
    (open-of c.args.source.proof.now.trees _ _ _ _ _ _ _ _ _ _ c.in_ok-write_parameters.was c.write_parameters.ensures)))
    (writes_same _ _ (ap (λ w. line (item.Word w)) (ap word_of (sym c.requires.kind) ∙ sym c.word_of.ensures)) c.write_word.ensures))

pub returns : goal.returns
returns g c =
    let x = step_at c.args.source.proof.now.made c.args.id in
    adds-then c.args.source.proof.now.trees
    (λ (d : Draft). say_word (word_of x.kind) (write_each write_premise x.premises (write_given c.args.source.number x.parameters d)))
    (keep_made x.kind c.args.id) _ _ _ _ _ _ _ _ _ _ _ _ _ _
    (appends-made x.kind c.args.id) c.in_ok-write_word.was
    (adds-then-say c.args.source.proof.now.trees (λ (d : Draft). write_each write_premise x.premises (write_given c.args.source.number x.parameters d))
    (item.Word (word_of x.kind)) _ _ _ _ _ _ _ _ _ _ _ _ c.in_ok-write_premises.was
    (adds-then c.args.source.proof.now.trees (write_given c.args.source.number x.parameters) (write_each write_premise x.premises) _ _ _ _ _ _ _ _ _ _ _ _ _ _
    (appends-premises x.premises) c.in_ok-write_parameters.was c.write_parameters.ensures
    (c.write_premises.ensures c.write_parameters.new.room.room
    (open-of c.args.source.proof.now.trees _ _ _ _ _ _ _ _ _ _ c.in_ok-write_parameters.was c.write_parameters.ensures)))
    (writes_same _ _ (ap (λ w. line (item.Word w)) (ap word_of (sym c.requires.kind) ∙ sym c.word_of.ensures)) c.write_word.ensures))
    (adds-same c.args.source.proof.now.trees (keep_made c.args.kind c.args.id) (keep_made x.kind c.args.id) _ _ _ _ _ _ _ _
    (λ d. ap (λ k. keep_made k c.args.id d) c.requires.kind)
    (c.keep_made.ensures c.args.source.proof.now.trees c.write_parameters.new.room.room
    (open-of c.args.source.proof.now.trees _ _ _ _ _ _ _ _ _ _ c.in_ok-write_parameters.was c.write_parameters.ensures)))
