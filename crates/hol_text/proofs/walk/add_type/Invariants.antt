use Rattle.std.specs.Prelude.{◌≡◌, ◌+◌, ◌++◌}
use Rattle.decode_spec.specs.ClosedText.{type_text}
use Rattle.sequent.specs.Closed.{closed_type_view, spelled_types}
use Rattle.hol_text.specs.Works.{types_left_text, type_works, nodes_work}
use Rattle.hol_text.proofs.walk.add_type.Given as goal

abbrev pub invariant-loop-work : goal.invariant-loop-work
invariant-loop-work l = l.text.items ++ types_left_text l.works (spelled_types l.nodes) ≡ l.fn.text.items ++ type_text (closed_type_view l.ty)

abbrev pub decreases-loop-work : goal.decreases-loop-work
decreases-loop-work l = type_works l.works + nodes_work l.nodes
