use Rattle.std.proofs.Common.{◌≡◌, List, length}
use Rattle.lp_term.specs.declared.LpId.{LpId}
use Rattle.decode_back.specs.TermTasks.{visits}
use Rattle.decode_back.proofs.SpineLemmas.{onto}
use Rattle.decode_back.proofs.terms.set_out.Given as goal

abbrev pub invariant-loop-arg : goal.invariant-loop-arg
invariant-loop-arg l = onto l.back l.args ≡ l.fn.args

abbrev pub decreases-loop-arg : goal.decreases-loop-arg
decreases-loop-arg l = length l.args

abbrev pub invariant-loop-arg-2 : goal.invariant-loop-arg-2
invariant-loop-arg-2 l = (done : List LpId) × (onto l.back done ≡ l.fn.args) × (l.tasks ≡ visits l.binders l.level done l.fn.tasks)

abbrev pub decreases-loop-arg-2 : goal.decreases-loop-arg-2
decreases-loop-arg-2 l = length l.back
