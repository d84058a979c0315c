use Rattle.std.proofs.Common.{subst, sym}
use Rattle.article_lines.specs.Slots.{AreKeys}
use Rattle.article_lines.proofs.SlotLaws.{none-AreKeys}
use Rattle.article_lines.proofs.keys.Keys.new.Goals as goal

pub invariant_of-result : goal.invariant_of-result
invariant_of-result c = subst (λ s. AreKeys s 0) (sym c.in_ok-slots.ensures) (none-AreKeys c.args.types c.args.terms c.args.theorems c.in-Some.ensures)
