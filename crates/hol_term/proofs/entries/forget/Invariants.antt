use Rattle.hol_term.specs.Indexed.{kept_in}
use Rattle.hol_term.proofs.Indexing.{Forgotten}
use Rattle.hol_term.proofs.entries.forget.Given as goal

abbrev pub invariant-loop-number : goal.invariant-loop-number
invariant-loop-number l = Forgotten (kept_in l.fn.others) (kept_in l.others) l.fn.len l.number
