use Rattle.translate_term.specs.declared.closed.TermWork.TheVariants.{Next}
use Rattle.translate_term.specs.ClosedWalks.{terms_work, with_term_work, TermsGoOn}
use Rattle.translate_term.specs.Walks.{Grows}
use Rattle.translate_term.proofs.closed.term_made.Given as goal

abbrev pub invariant-loop-work : goal.invariant-loop-work
invariant-loop-work l = Grows l.fn.target l.target × TermsGoOn l.fn.target l.type_vars l.nodes (with_term_work (Next l.depth) l.fn.walk) l.target l.left l.walk

abbrev pub decreases-loop-work : goal.decreases-loop-work
decreases-loop-work l = terms_work l.walk.works l.left
