use Rattle.std.proofs.Common.{ap, ◌∙◌}
use Rattle.article_spec.specs.Conditions.{demand}
use Rattle.common.specs.declared.faults.Kind.TheVariants.{NotTheSequent}
use Rattle.hol_rules.proofs.Truths.{stated_within}
use Rattle.hol_rules.proofs.proof.Proof.restated.Goals as goal

pub returns-then-not-within-clause-refused : goal.returns-then-not-within-clause-refused
returns-then-not-within-clause-refused c = ap (λ b. demand b NotTheSequent)
    (stated_within c.args.self.now.trees c.stated.ensures.distinct c.sequent.result.now c.in_ok-sequent.sequent _ _ c.sequent.ensures.known c.sequent.ensures.is
    c.in_ok-sequent.ensures.stated c.within.result c.within.ensures ∙ c.if-not-within.true)

pub returns-clause-within : goal.returns-clause-within
returns-clause-within c = stated_within c.args.self.now.trees c.stated.ensures.distinct c.sequent.result.now c.in_ok-sequent.sequent _ _ c.sequent.ensures.known
    c.sequent.ensures.is c.in_ok-sequent.ensures.stated c.within.result c.within.ensures ∙ c.if-not-within.false
