use Rattle.article_spec.specs.declared.commands.Item.TheVariants as item
use Rattle.article_spec.specs.declared.commands.Word.TheVariants as word
use Rattle.article_write_spec.specs.Drafts.{Kept, keep}
use Rattle.article_steps.proofs.AddsLaws.{adds-then-say, adds-stop-say}
use Rattle.article_steps.proofs.StepWriters.{adds-kept}
use Rattle.article_steps.proofs.steps.keep_theorem.Goals as goal

pub returns-in_err-keep-clause-adds : goal.returns-in_err-keep-clause-adds
returns-in_err-keep-clause-adds g c = λ trees room o.
    adds-stop-say trees (keep (Kept.theorem c.args.id)) (item.Word word.Pop) _ _ _ _ _ _ _ _ _ _ _ c.in_err-keep.was c.from_residual.ensures.0
    (adds-kept trees c.args.id c.args.keys.now _ room _ _ _ _ _ c.keep.ensures.kept c.requires.room o c.keep.ensures.writes)

pub returns-clause-adds : goal.returns-clause-adds
returns-clause-adds g c = λ trees room o.
    adds-then-say trees (keep (Kept.theorem c.args.id)) (item.Word word.Pop) _ _ _ _ _ _ _ _ _ _ _ _ c.in_ok-keep.was
    (adds-kept trees c.args.id c.args.keys.now _ room _ _ _ _ _ c.keep.ensures.kept c.requires.room o c.keep.ensures.writes) c.write_word.ensures
