use Rattle.std.proofs.Common.{ap, sym, ◌∙◌}
use Rattle.article_spec.specs.Conditions.{demand}
use Rattle.common.specs.declared.faults.Kind.TheVariants.{TooManyParams}
use Rattle.hol_rules.proofs.proof.Proof.judge_laws.Goals as goal

pub returns-then-not-branch-clause-refused : goal.returns-then-not-branch-clause-refused
returns-then-not-branch-clause-refused c = ap (λ b. demand b TooManyParams) (sym c.in_ok-are_counted.ensures.counted ∙ c.if-not-branch.true)

pub returns-clause-few : goal.returns-clause-few
returns-clause-few c = sym c.in_ok-are_counted.ensures.counted ∙ c.if-not-branch.false
