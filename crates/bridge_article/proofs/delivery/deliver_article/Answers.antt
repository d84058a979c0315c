use Rattle.std.proofs.Common.{◌∙◌, [], sym}
use Rattle.article_write_spec.specs.Article.{article as article_of}
use Rattle.bridge_spec.specs.Calls.{sunk}
use Rattle.bridge_spec.specs.declared.status.Status.TheVariants.{Done}
use Rattle.bridge_answer.specs.Delivered.{of_err, told_of_fault, output_stopped}
use Rattle.bridge_article.proofs.delivery.deliver_article.Goals as goal

pub returns-then-is_err-clause-delivered : goal.returns-then-is_err-clause-delivered
returns-then-is_err-clause-delivered g c = λ version run h.
    output_stopped Done (article_of version run) [] _ _
    (of_err _ (sym c.is_err.ensures.value ∙ c.if-is_err.true) (c.write.ensures version run h.planned).cause.failed)
    (of_err _ (sym c.is_err.ensures.value ∙ c.if-is_err.true) (c.write.ensures version run h.planned).err)
    (told_of_fault _ (sunk g.N.Sink.got g.N.Sink.faults c.args.note.now c.write_all.new.sink) c.write_all.ensures.ok c.write_all.ensures.err
    c.write_all.ensures.cause.failed)
