use Rattle.std.proofs.Common.{sym}
use Rattle.lp_term.specs.Tables.{tree_at}
use Rattle.lp_term.specs.TableLaws.{tree_at-Stays}
use Rattle.holide_sig.specs.Modules.{declarations_of}
use Rattle.lp_conv.specs.GrowthLaws.{IsHeld-Grows, declarations_of-Grows}
use Rattle.lp_kernel.proofs.Asked.{IfOk-map}
use Rattle.lp_kernel.proofs.Checked.{found-replied, no-replied, over-replied, said-replied, converted-replied}
use Rattle.lp_kernel.proofs.Levels.{right-stays}
use Rattle.lp_kernel.proofs.checks.check_body.Goals as goal

pub returns-in_default-clause-answered : goal.returns-in_default-clause-answered
returns-in_default-clause-answered c = rw c.in_default.is (said-replied c.args.memo.now.turns.rechecks _ _ c.args.budget.now.left)

pub conv-requires-clause-held : goal.conv-requires-clause-held
conv-requires-clause-held c = IsHeld-Grows _ _ c.infer_noted.ensures.grows c.requires.held

pub returns-in-Found-clause-answered : goal.returns-in-Found-clause-answered
returns-in-Found-clause-answered c =
    rw c.in-Some.is
    (IfOk-map c.conv.result
    (λ a h.
    found-replied c.args.memo.now.turns.rechecks (declarations_of c.args.base.now) c.infer_noted.new.base.table _ _ _ _ _ c.in-Found.found _ a
    c.infer_noted.ensures.less c.conv.ensures.less (rw c.in-Found.is at c.in_ok-found.ensures.answered)
    (converted-replied c.args.memo.now.turns.rechecks _ c.infer_noted.new.base c.args.ty c.in-Found.found _ _ _ a
    (declarations_of-Grows _ _ c.infer_noted.ensures.grows c.requires.held)
    (sym (tree_at-Stays c.infer_noted.ensures.grows.keeps.stays c.args.ty.0 c.requires.ty)) h))
    c.conv.ensures.answered)

pub returns-in-No-clause-answered : goal.returns-in-No-clause-answered
returns-in-No-clause-answered c = rw c.in-Some.is
    (no-replied c.args.memo.now.turns.rechecks _ c.infer_noted.new.base.table _ (tree_at c.args.base.now.table c.args.ty.0) _ _ _
    (rw c.in-No.is at c.in_ok-found.ensures.answered))

pub returns-in-Over-clause-answered : goal.returns-in-Over-clause-answered
returns-in-Over-clause-answered c = rw c.in-Some.is
    (over-replied c.args.memo.now.turns.rechecks _ c.infer_noted.new.base.table _ (tree_at c.args.base.now.table c.args.ty.0) _ _ c.infer_noted.new.budget.left
    (rw c.in-Over.is at c.in_ok-found.ensures.answered))

pub returns-in-Found-clause-right : goal.returns-in-Found-clause-right
returns-in-Found-clause-right c =
    IfOk-map c.conv.result
    (λ a h. right-stays c.args.memo.now.turns.rechecks c.infer_noted.new.base c.conv.new.base c.infer_noted.new.memo
    (IsHeld-Grows _ _ c.infer_noted.ensures.grows c.requires.held) c.conv.ensures.grows c.in_ok-found.ensures.right) c.conv.ensures.answered
