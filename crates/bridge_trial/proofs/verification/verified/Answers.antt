use Rattle.std.proofs.Common.{subst, length, true, false}
use Rattle.lp_kernel.specs.Checks.{PassBelow}
use Rattle.bridge_laws.specs.FormPromises.{trial-headline}
use Rattle.bridge_trial.proofs.verification.verified.Goals as goal

pub check_back-checked-requires : goal.check_back-checked-requires
check_back-checked-requires c = let t = c.in_ok-translation.ensures.translated in (false, 1, t.0, t.2, trial-headline false c.args.n t.0 t.1)

pub returns-in-Ok-clause-accepted : goal.returns-in-Ok-clause-accepted
returns-in-Ok-clause-accepted c =
    let t = c.in_ok-translation.ensures.translated in
    let still = c.in-Ok.ensures.translated false 1 t.0 t.2 in
    (t.0, t.1, subst (λ m. PassBelow true m (length m)) still.declared c.in-Ok.ensures.accepted)
