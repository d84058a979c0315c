use Rattle.std.proofs.Common.{◌∙◌, ap}
use Rattle.std.specs.Prelude.{take}
use Rattle.hol_type.specs.TableLaws.{take-Stays}
use Rattle.hol_type.proofs.table.TypeTable.subst.Goals as goal

pub returns-in-Err-clause-unchanged : goal.returns-in-Err-clause-unchanged
returns-in-Err-clause-unchanged c = c.cut.ensures ∙ ap (λ n. take n c.substituted.new.self) c.count-count.ensures.count ∙ take-Stays _ _
    c.substituted.ensures.keeps.stays
