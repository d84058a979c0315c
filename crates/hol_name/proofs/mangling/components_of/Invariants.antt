use Rattle.std.proofs.Common.{map, length}
use Rattle.hol_name.proofs.Demangling.{HasRead}
use Rattle.hol_name.proofs.mangling.components_of.Given as goal

abbrev pub invariant-loop-components : goal.invariant-loop-components
invariant-loop-components l = HasRead l.text (map (λ component. component.items) l.components.items) l.rest

abbrev pub decreases-loop-components : goal.decreases-loop-components
decreases-loop-components l = length l.rest
