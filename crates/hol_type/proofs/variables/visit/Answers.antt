use Rattle.std.proofs.lemmas.Result.{on_ok_weaker}
use Rattle.hol_type.proofs.WalkLaws.{OnOk-map3, visit_less, set_out_less}
use Rattle.hol_type.proofs.SearchTurns.{search_done, search_set_out, search_variable}
use Rattle.hol_type.proofs.variables.visit.Goals as goal

pub returns-in-Some-clause-search : goal.returns-in-Some-clause-search
returns-in-Some-clause-search c = search_done _ _ _ _ _ _ c.in-Some.ensures.noted

pub returns-in-Some-clause-less : goal.returns-in-Some-clause-less
returns-in-Some-clause-less c = visit_less _ _ _

pub returns-in_ok-push-in-Var-clause-search : goal.returns-in_ok-push-in-Var-clause-search
returns-in_ok-push-in-Var-clause-search c =
    rw (c.in_ok-push-in-Var.ensures.items, c.in_ok-clone-in-Var.ensures.cases)
    (OnOk-map3 c.note.result
    (λ only new kept. search_variable _ c.args.id _ _ _ _ _ c.in-Var.name.now c.in-Var.ensures.distinct c.in-Var.ensures.is c.in-None.ensures.absent only new
    kept)
    c.note.ensures.noted c.note.ensures.new c.note.ensures.kept)

pub returns-in-Op-clause-search : goal.returns-in-Op-clause-search
returns-in-Op-clause-search c =
    on_ok_weaker c.set_out.result
    (λ m. rw m (search_set_out _ _ _ _ _ c.in-Op.field-0.now c.in-Op.args.now c.in-Op.ensures.is
    (record { name = c.in-Op.field-0.now; is = c.in-Op.ensures.is; lower = c.in-Op.ensures.lower }))) c.set_out.ensures

pub returns-in-Op-clause-less : goal.returns-in-Op-clause-less
returns-in-Op-clause-less c = on_ok_weaker c.set_out.result (λ m. rw m (set_out_less _ _ c.in-Op.field-0.now c.in-Op.args.now _ c.in-Op.ensures.is))
    c.set_out.ensures
