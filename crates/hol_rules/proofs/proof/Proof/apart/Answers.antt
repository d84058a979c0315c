use Rattle.std.proofs.Common.{◌∙◌}
use Rattle.std.proofs.Math.Path.{ap₂}
use Rattle.hol_spec.specs.Rules.{joined}
use Rattle.hol_rules.proofs.proof.Proof.apart.Goals as goal

pub united-requires-clause-first : goal.united-requires-clause-first
united-requires-clause-first c = c.in_ok-first.ensures.known

pub united-requires-clause-second : goal.united-requires-clause-second
united-requires-clause-second c = c.in_ok-second.ensures.known

pub returns : goal.returns
returns c = record { known = c.in_ok-hyps.ensures.known; are = c.in_ok-hyps.ensures.are ∙ ap₂ joined c.in_ok-first.ensures.are c.in_ok-second.ensures.are }
