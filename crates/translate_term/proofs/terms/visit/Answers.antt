use Rattle.std.proofs.Common.{arith, sym, subst}
use Rattle.hol_term.specs.Views.{tree_of_view}
use Rattle.translate_term.specs.Walks.{IsMadeAt, IsTermWalk}
use Rattle.translate_term.proofs.EndsLaws.{OnOk-always, OnOk-map, visit-less}
use Rattle.translate_term.specs.GrowLaws.{Grows-refl, IsTypeMemo-Keeps}
use Rattle.translate_term.proofs.TermTurns.{term_done, term_application, term_abstraction, term_leaf, bound-wanted, place_size-positive, application-less, abstraction-less}
use Rattle.translate_term.proofs.terms.visit.Goals as goal

pub returns-in-Some-clause-walk : goal.returns-in-Some-clause-walk
returns-in-Some-clause-walk c = λ given root w. term_done given root _ _ _ _ c.args.place _ _ _ _ c.in-Some.ensures.noted w

pub returns-in-Some-clause-less : goal.returns-in-Some-clause-less
returns-in-Some-clause-less c = visit-less _ c.args.place _ (place_size-positive c.args.source.table.now c.args.place)

pub returns-in-App-clause-walk : goal.returns-in-App-clause-walk
returns-in-App-clause-walk c =
    OnOk-map c.set_out_two.result
    (λ e given root w.
    rw (c.set_out_two.ensures.made, c.set_out_two.ensures.types)
    (subst (λ l. IsTermWalk given root c.args.target.now c.args.source.table.now c.args.source.scope.now.types c.args.source.scope.now.terms l
    c.args.walk.now.made c.args.walk.now.types) (sym e)
    (term_application given root _ _ _ _ c.args.place _ _ _ c.in-App.f c.in-App.x c.in-App.ensures.lower.0 c.in-App.ensures.lower.1 c.in-App.ensures.is w)))
    c.set_out_two.ensures.tasks

pub returns-in-Lam-clause-walk : goal.returns-in-Lam-clause-walk
returns-in-Lam-clause-walk c =
    OnOk-map c.set_out_one.result
    (λ e given root w.
    rw (c.set_out_one.ensures.made, c.set_out_one.ensures.types)
    (subst (λ l. IsTermWalk given root c.args.target.now c.args.source.table.now c.args.source.scope.now.types c.args.source.scope.now.terms l
    c.args.walk.now.made c.args.walk.now.types) (sym e)
    (term_abstraction given root _ _ _ _ c.args.place _ _ _ c.in-Lam.field-0 c.in-Lam.body c.in-Lam.ensures.lower.1 c.in-Lam.ensures.is w)))
    c.set_out_one.ensures.tasks

pub returns-in-Bound-clause-walk : goal.returns-in-Bound-clause-walk
returns-in-Bound-clause-walk c =
    OnOk-map c.note_node.result
    (λ made given root w.
    term_leaf given root _ _ _ _ c.args.place _ _ _ _ c.note_node.ensures.grows _ _ _ c.in-Bound.ensures.is
    (subst (IsMadeAt c.args.place c.args.walk.now.made c.note_node.new.made c.note_node.new.target.table)
    (sym (bound-wanted given c.args.place.depth c.in-Bound.k)) made)
    (IsTypeMemo-Keeps c.note_node.ensures.grows.table given _ _ w.types_noted) w)
    c.note_node.ensures.made

pub visit_leaf-requires-clause-leaf : goal.visit_leaf-requires-clause-leaf
visit_leaf-requires-clause-leaf c = record {
  term = tree_of_view c.args.source.table.now c.view.result;
  is = c.view.ensures.is;
  leaf = grind (arith, c.in-Free.is);
}

pub returns-in-Some-clause-grows : goal.returns-in-Some-clause-grows
returns-in-Some-clause-grows c = Grows-refl _

pub returns-in-App-clause-grows : goal.returns-in-App-clause-grows
returns-in-App-clause-grows c = Grows-refl _

pub returns-in-Lam-clause-grows : goal.returns-in-Lam-clause-grows
returns-in-Lam-clause-grows c = Grows-refl _

pub returns-in-App-clause-less : goal.returns-in-App-clause-less
returns-in-App-clause-less c =
    OnOk-map c.set_out_two.result
    (λ e. rw e (application-less c.args.source.table.now c.args.place c.args.walk.now.tasks c.in-App.f c.in-App.x c.in-App.ensures.is))
    c.set_out_two.ensures.tasks

pub returns-in-Lam-clause-less : goal.returns-in-Lam-clause-less
returns-in-Lam-clause-less c =
    OnOk-map c.set_out_one.result
    (λ e. rw e (abstraction-less c.args.source.table.now c.args.place c.args.walk.now.tasks c.in-Lam.field-0 c.in-Lam.body c.in-Lam.ensures.is))
    c.set_out_one.ensures.tasks

pub returns-in-Bound-clause-less : goal.returns-in-Bound-clause-less
returns-in-Bound-clause-less c = OnOk-always c.note_node.result (visit-less _ c.args.place _ (place_size-positive c.args.source.table.now c.args.place))

pub returns-in-Free-clause-less : goal.returns-in-Free-clause-less
returns-in-Free-clause-less c = OnOk-always c.visit_leaf.result
    (rw c.visit_leaf.ensures.tasks (visit-less _ c.args.place _ (place_size-positive c.args.source.table.now c.args.place)))
