use Rattle.std.proofs.Common.{arith, subst}
use Rattle.std.proofs.lemmas.List.{drop_all, drop_more}
use Rattle.sequent.proofs.ParamLaws.{IsVisit, visit_goes_on, names_end, variables_end}
use Rattle.sequent.proofs.Sequent.params.Goals as goal

pub loop-id-preserved : goal.loop-id-preserved
loop-id-preserved c =
    visit_goes_on _ _ _ _ _ _
    (subst (λ l. IsVisit c.args.table.now c.args.self.now.hyps l c.loop-id.params)
    (drop_more c.ids-id-items.result.now c.loop-id.id-index _ c.loop-id-test.true) c.loop-id.invariant)
    c.in_ok-visit.ensures.type_vars c.in_ok-visit.ensures.free_vars c.in_ok-visit.ensures.known

pub returns-clause-type_vars : goal.returns-clause-type_vars
returns-clause-type_vars c =
    names_end c.args.table.now c.args.self.now.hyps _ c.args.self.now.concl c.loop-id.params c.visit-2.new.self
    (drop_all c.loop-id.id-index c.ids-id-items.result.now (omega (arith, c.loop-id-test.false))) c.loop-id.invariant c.in_ok-visit-2.ensures.type_vars

pub returns-clause-free_vars : goal.returns-clause-free_vars
returns-clause-free_vars c =
    variables_end c.args.table.now c.args.self.now.hyps _ c.args.self.now.concl c.loop-id.params c.visit-2.new.self
    (drop_all c.loop-id.id-index c.ids-id-items.result.now (omega (arith, c.loop-id-test.false))) c.loop-id.invariant c.in_ok-visit-2.ensures.free_vars
