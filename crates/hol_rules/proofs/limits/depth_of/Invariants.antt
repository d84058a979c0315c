use Rattle.std.specs.Prelude.{drop}
use Rattle.hol_rules.proofs.Measuring.{IsDeepening}
use Rattle.hol_rules.proofs.limits.depth_of.Given as goal

abbrev pub invariant-loop-id : goal.invariant-loop-id
invariant-loop-id l = IsDeepening l.terms l.sequent.hyps (drop l.id-index l.id-items) l.sequent.concl l.depth
