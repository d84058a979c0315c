use Rattle.share.proofs.TurnLaws.{variable-told, symbol-told}
use Rattle.share.proofs.typing.term_turn.Goals as goal

pub returns-in-Var-clause-turn : goal.returns-in-Var-clause-turn
returns-in-Var-clause-turn c = λ m h a. variable-told m c.args.table.now c.args.context.0 c.args.tree.0 c.in-Var.variable c.entry.result c.in-Var.ensures.is h
    c.entry.ensures

pub returns-in-Sym-clause-turn : goal.returns-in-Sym-clause-turn
returns-in-Sym-clause-turn c = λ m h a. symbol-told m c.args.table.now c.args.context.0 c.args.tree.0 c.in-Sym.field-0 c.constant_part.result
    c.in-Sym.ensures.is (c.constant_part.ensures m a)
