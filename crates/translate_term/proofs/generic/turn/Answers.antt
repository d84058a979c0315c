use Rattle.std.proofs.Common.{arith, sym, subst, ◌∙◌, ◌∷◌}
use Rattle.translate_term.specs.Patterns.{IsMatching}
use Rattle.translate_term.proofs.EndsLaws.{OnOk-map, OnOk-map3}
use Rattle.translate_term.proofs.MatchTurns.{matching_variable, matching_application}
use Rattle.translate_term.proofs.generic.turn.Goals as goal
use Rattle.std.proofs.Math.Path.{ap₂}

pub returns-in-Var-clause-matching : goal.returns-in-Var-clause-matching
returns-in-Var-clause-matching c =
    OnOk-map3 c.note.result
    (λ only new kept want root m. matching_variable want root _ c.args.task _ _ c.in-Var.number _ c.in-Var.ensures.is only new kept m)
    c.note.ensures.noted c.note.ensures.new c.note.ensures.kept

pub returns-in-App-view-clause-matching : goal.returns-in-App-view-clause-matching
returns-in-App-view-clause-matching c =
    OnOk-map c.set_out.result
    (λ e want root m.
    subst (λ l. IsMatching want root c.args.trees.now l c.args.found.now) (sym (e ∙ ap₂ (λ a b. a ∷ b ∷ c.args.tasks.now) c.meet.ensures c.meet-in-App.ensures))
    (matching_application want root _ c.args.task _ _ c.in-App.head c.in-App.argument c.in-App.ensures.is c.in-App-view.function c.in-App-view.part
    c.in-App-view.ensures.is (omega (arith, m.fit.0, c.in-App.ensures.lower.0))
    (omega (arith, m.fit.0, c.in-App.ensures.lower.1)) (omega (arith, m.fit.1, c.in-App-view.ensures.lower.0))
    (omega (arith, m.fit.1, c.in-App-view.ensures.lower.1)) m))
    c.set_out.ensures
