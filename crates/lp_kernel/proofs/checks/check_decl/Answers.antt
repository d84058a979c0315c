use Rattle.std.proofs.Common.{refl, subst}
use Rattle.std.specs.Prelude.{IfOk}
use Rattle.holide_sig.specs.Modules.{declarations_of}
use Rattle.lp_kernel.specs.Checks.{IsChecked}
use Rattle.lp_kernel.proofs.Levels.{empty-right}
use Rattle.lp_kernel.proofs.checks.check_decl.Goals as goal

pub check_noted-requires-clause-right : goal.check_noted-requires-clause-right
check_noted-requires-clause-right c = empty-right c.new-memo.result.turns.rechecks _ _ c.new-memo.result refl c.new-memo.ensures.types
    c.new-memo.ensures.products c.new-memo.ensures.lifts c.new-memo.ensures.open_types

pub returns-clause-answered : goal.returns-clause-answered
returns-clause-answered c = subst
    (λ r. IfOk c.check_noted.result (IsChecked r (declarations_of c.args.base.now) c.args.i c.args.budget.now.left c.check_noted.new.budget.left))
    c.new-memo.ensures.rechecks c.check_noted.ensures.answered
