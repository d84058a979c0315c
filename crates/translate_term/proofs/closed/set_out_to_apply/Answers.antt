use Rattle.std.proofs.Common.{◌∷◌, ap, subst, sym, ◌∙◌, arith}
use Rattle.translate_term.specs.declared.closed.TypeWork.TheVariants.{Next, Apply}
use Rattle.translate_term.specs.Closed.{MakesTypes}
use Rattle.translate_term.proofs.EndsLaws.{OnOk-map}
use Rattle.translate_term.proofs.ClosedTurns.{applied_to_next}
use Rattle.translate_term.proofs.closed.set_out_to_apply.Goals as goal

pub returns-clause-makes : goal.returns-clause-makes
returns-clause-makes c =
    OnOk-map c.push-3.result
    (λ pushed given depth root ts made m.
    subst (λ works. MakesTypes given depth root works ts made)
    (sym (pushed ∙ ap (λ l. Next ∷ l) (c.in_ok-push-2.ensures.pushed ∙ ap (λ l. Apply ∷ l) c.in_ok-push.ensures.pushed)))
    (applied_to_next given depth root c.args.works.now ts c.args.count c.in-Some.others made (let h = c.in-Some.ensures in omega (arith, h)) m))
    c.push-3.ensures.pushed
