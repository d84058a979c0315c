use Rattle.std.specs.Prelude.{drop}
use Rattle.hol_rules.proofs.Measuring.{IsSizing}
use Rattle.hol_rules.proofs.limits.size_of.Given as goal

abbrev pub invariant-loop-id : goal.invariant-loop-id
invariant-loop-id l = IsSizing l.terms l.sequent.hyps (drop l.id-index l.id-items) l.sequent.concl l.size
