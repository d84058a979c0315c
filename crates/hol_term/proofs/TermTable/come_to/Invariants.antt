use Rattle.hol_term.specs.Subterms.{IsOnTour, sizes}
use Rattle.hol_term.proofs.TermTable.come_to.Given as goal

abbrev pub invariant-loop-id : goal.invariant-loop-id
invariant-loop-id l = IsOnTour l.self l.fn.root l.fn.seen l.next l.seen

abbrev pub decreases-loop-id : goal.decreases-loop-id
decreases-loop-id l = sizes l.self l.next
