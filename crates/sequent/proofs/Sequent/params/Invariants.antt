use Rattle.std.specs.Prelude.{drop}
use Rattle.sequent.proofs.ParamLaws.{IsVisit}
use Rattle.sequent.proofs.Sequent.params.Given as goal

abbrev pub invariant-loop-id : goal.invariant-loop-id
invariant-loop-id l = IsVisit l.table l.self.hyps (drop l.id-index l.id-items) l.params
