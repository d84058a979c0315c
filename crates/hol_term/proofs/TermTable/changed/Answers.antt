use Rattle.std.proofs.Common.{arith}
use Rattle.hol_term.proofs.Remade.{alone_wanted}
use Rattle.hol_term.proofs.TermTable.changed.Goals as goal

pub remade-requires-clause-root : goal.remade-requires-clause-root
remade-requires-clause-root c = (c.requires.id, omega (arith, c.requires.id, c.mark-small.ensures.small))

pub returns-then-is_left_alone-clause-made : goal.returns-then-is_left_alone-clause-made
returns-then-is_left_alone-clause-made c =
    alone_wanted c.args.self.now c.args.args.now (record { id = c.args.id; depth = 0; change = c.args.change }) c.requires.id
    (c.is_left_alone.ensures c.if-is_left_alone.true)
