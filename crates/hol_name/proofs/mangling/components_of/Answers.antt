use Rattle.std.proofs.lemmas.List.{map_push}
use Rattle.hol_name.proofs.Demangling.{read-on, read-end, read-fault}
use Rattle.hol_name.proofs.mangling.components_of.Goals as goal

pub returns-in-End-clause-inverse : goal.returns-in-End-clause-inverse
returns-in-End-clause-inverse c =
    rw (c.in_ok-push.ensures.items, map_push _ _ _) (read-end _ _ _ _ _ c.loop-components.invariant c.in_ok-component.ensures.read c.in-End.ensures)

pub loop-components-preserved : goal.loop-components-preserved
loop-components-preserved c =
    rw (c.in_ok-push.ensures.items, map_push _ _ _)
    (read-on _ _ _ _ _ _ c.loop-components.invariant c.in_ok-component.ensures.read c.in_ok-component.ensures.bytes c.in-Boundary.ensures)

pub returns-in-Fault-clause-inverse : goal.returns-in-Fault-clause-inverse
returns-in-Fault-clause-inverse c =
    read-fault _ _ _ _ _ c.loop-components.invariant c.in_ok-component.ensures.read c.in_ok-component.ensures.bytes c.in_ok-component.ensures.stops
    c.in-Fault.ensures
