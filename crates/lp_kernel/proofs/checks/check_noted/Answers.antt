use Rattle.std.proofs.Common.{arith, sym, subst}
use Rattle.std.specs.Prelude.{IfOk}
use Rattle.lp_spec.specs.ModuleOrder.{IsModule}
use Rattle.lp_term.specs.Tables.{tree_at}
use Rattle.holide_sig.specs.Modules.{declarations_of}
use Rattle.lp_conv.specs.GrowthLaws.{IsHeld-Grows, declarations_of-Grows}
use Rattle.lp_conv.specs.declared.Answer.TheVariants as answer
use Rattle.lp_kernel.specs.Right.{AreRight}
use Rattle.lp_kernel.proofs.Asked.{IfOk-map}
use Rattle.lp_kernel.proofs.Checked.{no-replied, over-replied, decl-known, body-known, sorted-replied, unsorted-replied, plan-checked, plan-typed}
use Rattle.lp_kernel.proofs.checks.check_noted.Goals as goal

pub infer_noted-requires-clause-id : goal.infer_noted-requires-clause-id
infer_noted-requires-clause-id c = (decl-known c.args.base.now c.args.i c.get-decl.result.now c.requires.held c.get-decl.ensures).ty

pub check_body-requires-clause-held : goal.check_body-requires-clause-held
check_body-requires-clause-held c = IsHeld-Grows _ _ c.infer_noted.ensures.grows c.requires.held

pub check_body-requires-clause-is_module : goal.check_body-requires-clause-is_module
check_body-requires-clause-is_module c = subst IsModule (sym (declarations_of-Grows _ _ c.infer_noted.ensures.grows c.requires.held)) c.requires.is_module

pub check_body-requires-clause-right : goal.check_body-requires-clause-right
check_body-requires-clause-right c = subst (λ r. AreRight r (declarations_of c.infer_noted.new.base) c.infer_noted.new.base.table c.infer_noted.new.memo)
    (sym c.in_ok-sort.ensures.right.rechecked) c.in_ok-sort.ensures.right

pub returns-in-SortType-clause-right : goal.returns-in-SortType-clause-right
returns-in-SortType-clause-right c = subst
    (λ r. IfOk c.check_body.result (λ a. AreRight r (declarations_of c.check_body.new.base) c.check_body.new.base.table c.check_body.new.memo))
    c.in_ok-sort.ensures.right.rechecked c.check_body.ensures.right

pub check_body-requires-clause-ty : goal.check_body-requires-clause-ty
check_body-requires-clause-ty c = omega
    (arith, c.infer_noted.ensures.grows.keeps.longer, (decl-known c.args.base.now c.args.i c.get-decl.result.now c.requires.held c.get-decl.ensures).ty)

pub check_body-requires-clause-body : goal.check_body-requires-clause-body
check_body-requires-clause-body c = body-known c.infer_noted.ensures.grows.keeps c.get-decl.result.now
    (decl-known c.args.base.now c.args.i c.get-decl.result.now c.requires.held c.get-decl.ensures)

pub returns-in-SortType-clause-answered : goal.returns-in-SortType-clause-answered
returns-in-SortType-clause-answered c =
    IfOk-map c.check_body.result
    (λ a h.
    plan-checked c.args.memo.now.turns.rechecks c.args.base.now c.requires.is_module c.args.i c.get-decl.result.now c.get-decl.ensures _ _ a
    (sorted-replied c.args.memo.now.turns.rechecks c.args.base.now c.infer_noted.new.base c.infer_noted.ensures.grows c.requires.held c.args.i
    c.get-decl.result.now c.get-decl.ensures c.in-Found.sort _ _ c.infer_noted.ensures.less (rw c.in-Found.is at c.in_ok-sort.ensures.answered)
    (rw c.in-SortType.is at c.view.ensures.is) _ a c.check_body.ensures.less _ c.in_ok-sort.ensures.right.rechecked h))
    c.check_body.ensures.answered

pub returns-in-SortType-clause-sound : goal.returns-in-SortType-clause-sound
returns-in-SortType-clause-sound c =
    IfOk-map c.check_body.result
    (λ a h e.
    plan-typed c.args.memo.now.turns.rechecks c.args.base.now c.requires.is_module c.args.i c.get-decl.result.now c.get-decl.ensures _ _ a
    (sorted-replied c.args.memo.now.turns.rechecks c.args.base.now c.infer_noted.new.base c.infer_noted.ensures.grows c.requires.held c.args.i
    c.get-decl.result.now c.get-decl.ensures c.in-Found.sort _ _ c.infer_noted.ensures.less (rw c.in-Found.is at c.in_ok-sort.ensures.answered)
    (rw c.in-SortType.is at c.view.ensures.is) _ a c.check_body.ensures.less _ c.in_ok-sort.ensures.right.rechecked h) e)
    c.check_body.ensures.answered

pub returns-in_default : goal.returns-in_default
returns-in_default c = record {
  grows = c.infer_noted.ensures.grows;
  less = c.infer_noted.ensures.less;
  answered =
      plan-checked c.args.memo.now.turns.rechecks c.args.base.now c.requires.is_module c.args.i c.get-decl.result.now c.get-decl.ensures _ _ answer.No
      (unsorted-replied c.args.memo.now.turns.rechecks c.args.base.now c.infer_noted.new.base c.infer_noted.ensures.grows c.requires.held c.args.i
      c.get-decl.result.now c.get-decl.ensures c.in-Found.sort _ _ c.infer_noted.ensures.less (rw c.in-Found.is at c.in_ok-sort.ensures.answered)
      c.view.result c.view.ensures.is c.in_default.not-SortType);
  sound = λ e. absurd (cc);
  right = c.in_ok-sort.ensures.right;
}

pub returns-in-No-clause-answered : goal.returns-in-No-clause-answered
returns-in-No-clause-answered c =
    plan-checked c.args.memo.now.turns.rechecks c.args.base.now c.requires.is_module c.args.i c.get-decl.result.now c.get-decl.ensures _ _ answer.No
    (no-replied c.args.memo.now.turns.rechecks _ c.infer_noted.new.base.table _ (tree_at c.args.base.now.table c.get-decl.result.now.ty.0) _ _ _
    (rw c.in-No.is at c.in_ok-sort.ensures.answered))

pub returns-in-Over-clause-answered : goal.returns-in-Over-clause-answered
returns-in-Over-clause-answered c =
    plan-checked c.args.memo.now.turns.rechecks c.args.base.now c.requires.is_module c.args.i c.get-decl.result.now c.get-decl.ensures _
    c.infer_noted.new.budget.left answer.Over
    (over-replied c.args.memo.now.turns.rechecks _ c.infer_noted.new.base.table _ (tree_at c.args.base.now.table c.get-decl.result.now.ty.0) _ _
    c.infer_noted.new.budget.left (rw c.in-Over.is at c.in_ok-sort.ensures.answered))
