use Rattle.std.proofs.Common.{refl, ◌∙◌}
use Rattle.hol_term.specs.TableLaws.{Keeps-refl, Keeps-trans}
use Rattle.hol_term.proofs.InferringTurns.{inferring_begins}
use Rattle.hol_term.proofs.TermTable.inferred.Goals as goal

pub loop-step-init : goal.loop-step-init
loop-step-init c = (
  refl,
  Keeps-refl c.args.self.now,
  rw (c.in_ok-push.ensures.pushed, c.requires.steps, c.requires.types)
      (inferring_begins c.args.self.now c.args.typings.now.scopes c.args.typings.now.found c.args.root c.requires.root c.requires.typings),
)

pub loop-step-smaller : goal.loop-step-smaller
loop-step-smaller c = rw c.in-Some.ensures.popped c.in_ok-step.ensures.less

pub loop-step-preserved : goal.loop-step-preserved
loop-step-preserved c =
    let i = c.loop-step.invariant in
    let w = rw c.in-Some.ensures.popped at i.2 in
    (c.in_ok-step.ensures.terms ∙ i.0, Keeps-trans i.1 c.in_ok-step.ensures.keeps, c.in_ok-step.ensures.walk _ w)
