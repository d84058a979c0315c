use Rattle.hol_rules.proofs.type_definitions.law_steps.Goals as goal

pub returns : goal.returns
returns c = record { first = c.in_ok-first.ensures; second = c.in_ok-second.ensures }
