use Rattle.article_spec.specs.declared.commands.Item.TheVariants as item
use Rattle.article_spec.specs.declared.commands.Word.TheVariants as word
use Rattle.article_write_spec.specs.WrittenSteps.{keep_theorem}
use Rattle.article_steps.proofs.AddsLaws.{adds-then-say, adds-stop-say}
use Rattle.article_steps.proofs.steps.keep_defined.Goals as goal

pub returns-in_err-keep_theorem : goal.returns-in_err-keep_theorem
returns-in_err-keep_theorem g c = λ trees room o.
    adds-stop-say trees (keep_theorem c.args.id) (item.Word word.Pop) _ _ _ _ _ _ _ _ _ _ _ c.in_err-keep_theorem.was c.from_residual.ensures.0
    (c.keep_theorem.ensures.adds trees room o)

pub returns : goal.returns
returns g c = λ trees room o.
    adds-then-say trees (keep_theorem c.args.id) (item.Word word.Pop) _ _ _ _ _ _ _ _ _ _ _ _ c.in_ok-keep_theorem.was
    (c.keep_theorem.ensures.adds trees room o) c.write_word.ensures
