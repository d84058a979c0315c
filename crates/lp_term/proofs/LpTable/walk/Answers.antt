use Rattle.std.proofs.Common.{◌∙◌, ap}
use Rattle.std.specs.Prelude.{take}
use Rattle.lp_term.specs.TableLaws.{take-Stays}
use Rattle.lp_term.specs.Tables.{trees_at}
use Rattle.lp_term.proofs.Turns.{left_alone}
use Rattle.lp_term.proofs.LpTable.walk.Goals as goal

pub returns-in-Err-clause-unchanged : goal.returns-in-Err-clause-unchanged
returns-in-Err-clause-unchanged c = c.cut.ensures ∙ ap (λ n. take n c.walk_on.new.self) c.count-count.ensures.count ∙ take-Stays _ _
    c.walk_on.ensures.keeps.stays

pub returns-then-is_left_alone-clause-made : goal.returns-then-is_left_alone-clause-made
returns-then-is_left_alone-clause-made c = left_alone _ (trees_at c.args.self.now c.args.args.now) c.args.root c.requires.root
    (rw c.if-is_left_alone.true at c.is_left_alone.ensures)

pub returns-then-is_left_alone-clause-distinct : goal.returns-then-is_left_alone-clause-distinct
returns-then-is_left_alone-clause-distinct c = c.count-count.ensures.distinct
