use Rattle.std.proofs.lemmas.Result.{on_ok_weaker}
use Rattle.hol_type.proofs.WalkLaws.{OnOk-map3, visit_less, set_out_less}
use Rattle.hol_type.proofs.SubstitutionTurns.{walk_done, walk_set_out, walk_variable}
use Rattle.hol_type.proofs.substitution.visit.Goals as goal

pub returns-in-Some-clause-walk : goal.returns-in-Some-clause-walk
returns-in-Some-clause-walk c = walk_done _ _ _ _ _ _ c.in-Some.ensures.noted

pub returns-in-Some-clause-less : goal.returns-in-Some-clause-less
returns-in-Some-clause-less c = visit_less _ _ _

pub returns-in-Var-clause-walk : goal.returns-in-Var-clause-walk
returns-in-Var-clause-walk c =
    OnOk-map3 c.note.result
    (λ only new kept. walk_variable _ _ c.args.id _ _ _ c.replaced.result c.in-Var.name.now c.in-Var.ensures.is c.replaced.ensures only new kept)
    c.note.ensures.noted c.note.ensures.new c.note.ensures.kept

pub returns-in-Op-clause-walk : goal.returns-in-Op-clause-walk
returns-in-Op-clause-walk c =
    on_ok_weaker c.set_out.result
    (λ m. rw m (walk_set_out _ _ _ _ _ _ (record { name = c.in-Op.field-0.now; is = c.in-Op.ensures.is; lower = c.in-Op.ensures.lower }))) c.set_out.ensures

pub returns-in-Op-clause-less : goal.returns-in-Op-clause-less
returns-in-Op-clause-less c = on_ok_weaker c.set_out.result (λ m. rw m (set_out_less _ _ c.in-Op.field-0.now c.in-Op.args.now _ c.in-Op.ensures.is))
    c.set_out.ensures
