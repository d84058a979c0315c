use Rattle.std.proofs.Common.{arith}
use Rattle.hol_term.specs.Tables.{term_at}
use Rattle.hol_term.proofs.Remade.{closed_without, one_only}
use Rattle.hol_term.proofs.TermTable.is_without.Goals as goal

pub returns-in-len1 : goal.returns-in-len1
returns-in-len1 c =
    λ told closing.
    closed_without c.args.self.now c.args.args.now _ c.args.place.change (term_at c.args.self.now c.args.place.id.0)
    (one_only _ _ (omega (arith, c.in-len1.len_at_least)) (omega (arith, c.in-len1.len_below))) c.requires.args (c.is_without_free.ensures told)
    c.requires.closing closing
