use Rattle.std.proofs.Common.{arith, subst, sym, ◌<◌}
use Rattle.hol_rules.specs.Kept.{step_count}
use Rattle.translate_reach.specs.MadeItems.{AreSteps}
use Rattle.translate_reach.proofs.Wanted.{premises-AreSteps, All-index}
use Rattle.translate_reach.proofs.needs.is_idle.Goals as goal

pub lacks-requires-clause-one : goal.lacks-requires-clause-one
lacks-requires-clause-one c =
    let p = c.args.proof.now in
    let steps = subst (AreSteps p) (sym c.premises.ensures) (premises-AreSteps p c.is_proof.ensures c.args.id c.requires) in
    All-index (λ id. id < step_count p) c.premises.result.now 0 0 steps (omega (arith, c.in-len2.len_at_least))

pub lacks-requires-clause-two : goal.lacks-requires-clause-two
lacks-requires-clause-two c =
    let p = c.args.proof.now in
    let steps = subst (AreSteps p) (sym c.premises.ensures) (premises-AreSteps p c.is_proof.ensures c.args.id c.requires) in
    All-index (λ id. id < step_count p) c.premises.result.now 1 0 steps (omega (arith, c.in-len2.len_at_least))
