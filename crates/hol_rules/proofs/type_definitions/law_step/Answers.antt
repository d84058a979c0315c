use Rattle.std.proofs.Common.{refl, ap}
use Rattle.hol_rules.specs.Inferences.{Inferred}
use Rattle.hol_rules.proofs.type_definitions.law_step.Goals as goal

pub returns : goal.returns
returns c = record {
  by_rule = ap (λ (i : Inferred). i.kind) c.new-inference.ensures;
  premise = ap (λ (i : Inferred). i.premises) c.new-inference.ensures;
  given = c.in_ok-parameters.ensures.given;
  known = c.in_ok-parameters.ensures.known;
  says = refl;
}
