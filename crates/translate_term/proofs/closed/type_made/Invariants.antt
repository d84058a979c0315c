use Rattle.std.specs.Prelude.{◌+◌}
use Rattle.translate_term.specs.declared.closed.TypeWork.TheVariants.{Next}
use Rattle.translate_term.specs.Closed.{works_of, nodes_work}
use Rattle.translate_term.specs.ClosedWalks.{with_type_work, TypesGoOn}
use Rattle.translate_term.specs.Walks.{Grows}
use Rattle.translate_term.proofs.closed.type_made.Given as goal

abbrev pub invariant-loop-work : goal.invariant-loop-work
invariant-loop-work l = Grows l.fn.target l.target × TypesGoOn l.fn.target l.depth l.nodes (with_type_work Next l.fn.walk) l.target l.left l.walk

abbrev pub decreases-loop-work : goal.decreases-loop-work
decreases-loop-work l = works_of l.walk.works + nodes_work l.left
