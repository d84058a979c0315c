use Rattle.std.proofs.Common.{arith, refl}
use Rattle.article_spec.specs.declared.commands.Item.TheVariants as item
use Rattle.article_spec.specs.declared.commands.Word.TheVariants as word
use Rattle.article_lines.specs.WritingLaws.{writes_same}
use Rattle.article_steps.proofs.SaidLaws.{one-line}
use Rattle.article_steps.proofs.AgendaLaws.{goes-on, goes-quiet}
use Rattle.article_steps.proofs.JobSteps.{conses-end, conses-next}
use Rattle.article_steps.proofs.walk.do_conses.Goals as goal

pub returns-then-count-eq0 : goal.returns-then-count-eq0
returns-then-count-eq0 g c = λ trees q keys r. goes-quiet trees q _ _ _ _ _ _ _ _ _ refl refl r (conses-end trees q _ keys _ (omega arith) r)

pub returns : goal.returns
returns g c = λ trees q keys r. goes-on trees q _ _ _ _ _ _ _ _ _ _ _ c.push.ensures r (conses-next trees q _ keys _ _ (omega arith) r)
    (writes_same _ _ (one-line (item.Word word.Cons)) c.write_word.ensures)
