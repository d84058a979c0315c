use Rattle.hol_type.specs.TableLaws.{AreBelow-known}
use Rattle.std.proofs.Common.{arith}
use Rattle.translate_term.proofs.EndsLaws.{OnOk-always, OnOk-map, OnOk-map3, visit-less, set_out-less}
use Rattle.translate_term.specs.GrowLaws.{Grows-refl}
use Rattle.translate_term.proofs.TypeTurns.{type_done, type_set_out, type_variable, arguments-less, size_at-positive}
use Rattle.translate_term.proofs.types.visit.Goals as goal

pub returns-in-Some-clause-walk : goal.returns-in-Some-clause-walk
returns-in-Some-clause-walk c = λ given root w. type_done given root _ _ _ c.args.id _ _ _ c.in-Some.ensures.noted w

pub returns-in-Some-clause-less : goal.returns-in-Some-clause-less
returns-in-Some-clause-less c = visit-less _ c.args.id _ (size_at-positive _ c.args.id)

pub returns-in_ok-tree-in-Var-clause-walk : goal.returns-in_ok-tree-in-Var-clause-walk
returns-in_ok-tree-in-Var-clause-walk c =
    OnOk-map3 c.note.result
    (λ only new kept given root w. type_variable given root _ _ _ c.args.id _ _ _ c.in_ok-tree-in-Var.ensures.grows _ c.in_ok-tree-in-Var.tree only new kept
    c.in-Var.name.now c.in-Var.ensures.is (c.in_ok-tree-in-Var.ensures.made given) w)
    c.note.ensures.noted c.note.ensures.new c.note.ensures.kept

pub returns-in-Op-clause-walk : goal.returns-in-Op-clause-walk
returns-in-Op-clause-walk c =
    OnOk-map c.set_out.result
    (λ e given root w. rw e
    (type_set_out given root _ _ _ c.args.id _ _ c.in-Op.field-0.now c.in-Op.args.now
    (AreBelow-known _ _ _ (omega (arith, w.ends.0.known)) c.in-Op.ensures.lower) c.in-Op.ensures.is w))
    c.set_out.ensures

pub returns-in-Op-clause-less : goal.returns-in-Op-clause-less
returns-in-Op-clause-less c = OnOk-map c.set_out.result
    (λ e. rw e (set_out-less _ c.args.id c.in-Op.args.now _ (arguments-less _ c.args.id c.in-Op.field-0.now c.in-Op.args.now c.in-Op.ensures.is)))
    c.set_out.ensures

pub returns-in_ok-tree-in-Var-clause-less : goal.returns-in_ok-tree-in-Var-clause-less
returns-in_ok-tree-in-Var-clause-less c = OnOk-always c.note.result (visit-less _ c.args.id _ (size_at-positive _ c.args.id))

pub returns-in-Some-clause-grows : goal.returns-in-Some-clause-grows
returns-in-Some-clause-grows c = Grows-refl _

pub returns-in-Op-clause-grows : goal.returns-in-Op-clause-grows
returns-in-Op-clause-grows c = Grows-refl _
