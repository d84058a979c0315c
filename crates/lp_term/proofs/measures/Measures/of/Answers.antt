use Rattle.std.proofs.Common.{⊎_elim}
use Rattle.std.proofs.lemmas.Result.{IfOk-weaker}
use Rattle.lp_term.proofs.MeasuredLaws.{AreMeasured-at, IsMeasured-App, IsMeasured-Lam, IsMeasured-Pi}
use Rattle.lp_term.proofs.measures.Measures.of.Goals as goal

pub returns-in-App : goal.returns-in-App
returns-in-App c =
    rw c.in-App.is
    (IfOk-weaker c.joined.result _ _
    (λ m j. λ ts a. IsMeasured-App (AreMeasured-at _ ts _ _ a c.part.ensures) (AreMeasured-at _ ts _ _ a c.part-argument.ensures) j) c.joined.ensures)

pub returns-in-Lam : goal.returns-in-Lam
returns-in-Lam c =
    let u = c.under_binder.ensures in
    ⊎_elim
    (λ e. rw e (IfOk-weaker c.joined-in-Lam.result _ _
    (λ m j. λ ts a. IsMeasured-Lam _ u.known u.unknown (AreMeasured-at _ ts _ _ a c.part-in-Lam.ensures) (AreMeasured-at _ ts _ _ a c.part-body.ensures)
    j) c.joined-in-Lam.ensures))
    (λ e. rw e (IfOk-weaker c.joined-in-Lam.result _ _
    (λ m j. λ ts a. IsMeasured-Pi _ u.known u.unknown (AreMeasured-at _ ts _ _ a c.part-in-Lam.ensures) (AreMeasured-at _ ts _ _ a c.part-body.ensures) j)
    c.joined-in-Lam.ensures))
    c.in-Lam.is
