use Rattle.std.specs.Prelude.{drop}
use Rattle.hol_variables.proofs.Measured.{IsFinding}
use Rattle.hol_variables.proofs.ParamMemo.find.Given as goal

abbrev pub invariant-loop-id : goal.invariant-loop-id
invariant-loop-id l = IsFinding l.terms l.sequent.hyps (drop l.id-index l.id-items) l.found
