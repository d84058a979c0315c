use Rattle.std.proofs.Common.{sym}
use Rattle.translate_rule.proofs.StepRules.{row-other}
use Rattle.translate_rule.proofs.declaration.has_proof.Goals as goal

pub returns-in_default : goal.returns-in_default
returns-in_default c = sym (row-other c.args.kind c.in_default.not-Axiom)
