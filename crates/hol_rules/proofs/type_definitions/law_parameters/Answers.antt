use Rattle.std.proofs.Common.{refl}
use Rattle.hol_rules.proofs.type_definitions.law_parameters.Goals as goal

pub returns-clause-given : goal.returns-clause-given
returns-clause-given c = λ trees. rw (c.in_ok-given.ensures, c.in_ok-op.ensures.cases, c.in_ok-abs.ensures.cases, c.in_ok-rep.ensures.cases, c.in_ok-variables.ensures) refl

pub returns-clause-known : goal.returns-clause-known
returns-clause-known c = λ trees. tt
