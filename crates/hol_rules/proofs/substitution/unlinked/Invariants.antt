use Rattle.hol_term.specs.Tables.{term_at}
use Rattle.hol_rules.proofs.Chaining.{IsUnlinking}
use Rattle.hol_rules.proofs.substitution.unlinked.Given as goal

abbrev pub invariant-loop-place : goal.invariant-loop-place
invariant-loop-place l = IsUnlinking l.terms l.count (term_at l.terms l.fn.whole.0) l.links.items l.rest l._place
