use Rattle.std.proofs.Common.{⊎_elim, ap, ◌∙◌, ◌∷◌, ◌++◌, []}
use Rattle.hol_term.proofs.WalkTurns.{OnOk-map}
use Rattle.hol_term.proofs.VisitSteps.{same_tour, tour_again, tour_leaf, tour_lam, tour_app, tour_less, leaf_alone, bound_alone, not_among}
use Rattle.hol_term.proofs.TermTable.come_by.Goals as goal

pub returns-then-has-clause-tour : goal.returns-then-has-clause-tour
returns-then-has-clause-tour c = λ root before tour. tour_again c.args.self.now root before c.args.next.now c.args.id c.args.seen.now tour
    (c.has.ensures.0 c.if-has.true)

pub returns-then-has-clause-less : goal.returns-then-has-clause-less
returns-then-has-clause-less c = tour_less c.args.self.now c.args.id c.args.next.now

pub returns-in-Leaf-clause-tour : goal.returns-in-Leaf-clause-tour
returns-in-Leaf-clause-tour c = λ root before tour.
    let new = not_among c.args.seen.now c.args.id c.has.result c.if-has.false c.has.ensures.1 in
    rw c.in_ok-note.ensures.noted
    (tour_leaf c.args.self.now root before c.args.next.now c.args.id c.args.seen.now tour c.parts.ensures.distinct new
    (⊎_elim (λ e. leaf_alone _ (rw e at c.parts.ensures.is)) (λ e. bound_alone _ e.0 (rw e.1 at c.parts.ensures.is)) c.in-Leaf.is))

pub returns-in_ok-push-in-App-clause-tour : goal.returns-in_ok-push-in-App-clause-tour
returns-in_ok-push-in-App-clause-tour c =
    let new = not_among c.args.seen.now c.args.id c.has.result c.if-has.false c.has.ensures.1 in
    OnOk-map c.push-in-App.result (λ first root before tour.
    same_tour c.args.self.now root before (c.in-App.f ∷ c.in-App.x ∷ c.args.next.now) c.push-in-App.new.self (c.args.seen.now ++ c.args.id ∷ []) c.note.new.self
    (first ∙ ap (λ l. c.in-App.f ∷ l) c.in_ok-push-in-App.ensures.pushed) c.in_ok-note.ensures.noted
    (tour_app c.args.self.now root before c.args.next.now c.args.id c.args.seen.now tour c.in-App.ensures.distinct new c.in-App.f c.in-App.x c.in-App.ensures.is
    c.in-App.ensures.lower.0 c.in-App.ensures.lower.1))
    c.push-in-App.ensures.pushed

pub returns-in-Lam-clause-tour : goal.returns-in-Lam-clause-tour
returns-in-Lam-clause-tour c =
    let new = not_among c.args.seen.now c.args.id c.has.result c.if-has.false c.has.ensures.1 in
    OnOk-map c.push-in-Lam.result (λ first root before tour.
    same_tour c.args.self.now root before (c.in-Lam.body ∷ c.args.next.now) c.push-in-Lam.new.self (c.args.seen.now ++ c.args.id ∷ []) c.note.new.self first
    c.in_ok-note.ensures.noted
    (tour_lam c.args.self.now root before c.args.next.now c.args.id c.args.seen.now tour c.in-Lam.ensures.distinct new _ c.in-Lam.body c.in-Lam.ensures.is
    c.in-Lam.ensures.lower.1))
    c.push-in-Lam.ensures.pushed
