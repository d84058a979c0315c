use Rattle.std.proofs.Common.{refl, sym, ap, subst, arith, length}
use Rattle.std.proofs.lemmas.Option.{slice_get-get_or}
use Rattle.lp_spec.specs.ModuleOrder.{IsModule}
use Rattle.holide_sig.specs.Modules.{declarations_of}
use Rattle.lp_conv.specs.GrowthLaws.{Grows-trans}
use Rattle.lp_kernel.specs.declared.checks.Verdict.TheVariants as verdict
use Rattle.lp_kernel.specs.Right.{AreRight}
use Rattle.lp_kernel.proofs.Judged.{passing-start, passing-more, passing-cut, passing-no, passing-over, passing-all, module-accepts, judged-refuses, judged-well_typed}
use Rattle.lp_kernel.proofs.Levels.{empty-right}
use Rattle.lp_kernel.proofs.checks.check_all.Goals as goal

pub loop-i-init : goal.loop-i-init
loop-i-init c = record {
  passing = passing-start c.args.rechecks _ c.requires.held;
  right =
      empty-right c.args.rechecks _ _ c.in_ok-memo.memo c.in_ok-memo.ensures.rechecks c.in_ok-memo.ensures.types c.in_ok-memo.ensures.products
      c.in_ok-memo.ensures.lifts c.in_ok-memo.ensures.open_types;
}

pub check_noted-requires-clause-held : goal.check_noted-requires-clause-held
check_noted-requires-clause-held c = c.loop-i.invariant.passing.held

pub check_noted-requires-clause-is_module : goal.check_noted-requires-clause-is_module
check_noted-requires-clause-is_module c = subst IsModule (sym c.loop-i.invariant.passing.same) c.requires.is_module

pub check_noted-requires-clause-right : goal.check_noted-requires-clause-right
check_noted-requires-clause-right c = subst (λ r. AreRight r (declarations_of c.loop-i.base) c.loop-i.base.table c.loop-i.memo)
    (sym c.loop-i.invariant.right.rechecked) c.loop-i.invariant.right

pub check_noted-requires-clause-i : goal.check_noted-requires-clause-i
check_noted-requires-clause-i c = omega (arith, c.loop-i-test.true, c.requires.budgets, ap length c.loop-i.invariant.passing.grows.decls)

pub returns-in_err-check_noted-clause-grows : goal.returns-in_err-check_noted-clause-grows
returns-in_err-check_noted-clause-grows c = Grows-trans c.loop-i.invariant.passing.grows c.check_noted.ensures.grows

pub returns-in-No : goal.returns-in-No
returns-in-No c =
    let no = passing-no c.args.rechecks c.args.base.now c.loop-i.base _ c.loop-i.i _ _ c.loop-i.invariant.passing c.check_noted.ensures.grows _
    c.loop-i.invariant.right.rechecked (rw c.in-No.is at c.in_ok-check_noted.ensures.answered) in
    record {
      grows = Grows-trans c.loop-i.invariant.passing.grows c.check_noted.ensures.grows;
      judged = no;
      well_typed = λ e. absurd (cc);
      accepts = λ pass. module-accepts c.args.rechecks c.args.base.now c.args.budgets.now c.requires.budgets (verdict.IllTyped c.loop-i.i) no pass;
      refuses = λ i r. judged-refuses c.args.rechecks (declarations_of c.args.base.now) c.args.budgets.now (verdict.IllTyped c.loop-i.i) no i r;
    }

pub returns-in-Over : goal.returns-in-Over
returns-in-Over c =
    let over = passing-over c.args.rechecks c.args.base.now c.loop-i.base _ c.loop-i.i _ c.check_noted.new.budget.left c.loop-i.invariant.passing
    c.check_noted.ensures.grows _ c.loop-i.invariant.right.rechecked c.args.budgets.now
    (slice_get-get_or c.args.budgets.now c.loop-i.i 0 c.loop-i-test.true) (rw c.in-Over.is at c.in_ok-check_noted.ensures.answered) in
    record {
      grows = Grows-trans c.loop-i.invariant.passing.grows c.check_noted.ensures.grows;
      judged = over;
      well_typed = λ e. absurd (cc);
      accepts = λ pass. module-accepts c.args.rechecks c.args.base.now c.args.budgets.now c.requires.budgets (verdict.OverBudget c.loop-i.i) over pass;
      refuses = λ i r. judged-refuses c.args.rechecks (declarations_of c.args.base.now) c.args.budgets.now (verdict.OverBudget c.loop-i.i) over i r;
    }

pub cut_back-requires : goal.cut_back-requires
cut_back-requires c = omega (arith, c.count-kept.ensures.count, c.loop-i.invariant.passing.grows.keeps.longer, c.check_noted.ensures.grows.keeps.longer)

pub loop-i-preserved : goal.loop-i-preserved
loop-i-preserved c =
    let back = c.cut_back.ensures c.args.rechecks c.args.base.now (sym c.count-kept.ensures.count) c.requires.held
    (Grows-trans c.loop-i.invariant.passing.grows c.check_noted.ensures.grows)
    (subst (λ r. AreRight r (declarations_of c.check_noted.new.base) c.check_noted.new.base.table c.check_noted.new.memo) c.loop-i.invariant.right.rechecked
    c.in_ok-check_noted.ensures.right) in
    let passing = passing-more c.args.rechecks c.args.base.now c.loop-i.base _ c.loop-i.i _ c.check_noted.new.budget.left c.loop-i.invariant.passing
    c.check_noted.ensures.grows _ c.loop-i.invariant.right.rechecked (rw c.in-Yes.is at c.in_ok-check_noted.ensures.answered) in
    record { right = back.right; passing = passing-cut c.args.rechecks c.args.base.now _ c.cut_back.new.base _ passing c.requires.held back.grows }

pub returns : goal.returns
returns c =
    let all = passing-all c.args.rechecks c.args.base.now c.args.budgets.now c.requires.budgets c.loop-i.base c.loop-i.i c.loop-i.invariant.passing
    (omega (arith, c.loop-i-test.false, c.loop-i.auto.i-end)) in
    record {
      grows = c.loop-i.invariant.passing.grows;
      judged = all;
      well_typed = λ e. judged-well_typed c.args.rechecks (declarations_of c.args.base.now) c.args.budgets.now c.requires.is_module verdict.Accepted all e;
      accepts = λ pass. refl;
      refuses = λ i r. judged-refuses c.args.rechecks (declarations_of c.args.base.now) c.args.budgets.now verdict.Accepted all i r;
    }
