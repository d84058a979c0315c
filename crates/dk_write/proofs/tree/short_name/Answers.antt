use Rattle.std.proofs.Common.{sym, ◌∙◌, arith}
use Rattle.lp_term.specs.Tables.{tree_at}
use Rattle.holide_sig.specs.Modules.{declarations_of}
use Rattle.dk_write.proofs.ShortPlaces.{short-None, short-Some, short-past}
use Rattle.dk_write.proofs.tree.short_name.Goals as goal

pub returns-then-symbol-before : goal.returns-then-symbol-before
returns-then-symbol-before c =
    sym (short-Some (declarations_of c.args.source.now) c.args.before (tree_at c.args.source.now.table c.args.id.0) c.in-Some.symbol
    (sym c.short.ensures ∙ c.in-Some.is) (omega (arith, c.if-symbol-before.true)))

pub returns-else-symbol-before : goal.returns-else-symbol-before
returns-else-symbol-before c =
    sym (short-past (declarations_of c.args.source.now) c.args.before (tree_at c.args.source.now.table c.args.id.0) c.in-Some.symbol
    (sym c.short.ensures ∙ c.in-Some.is) (omega (arith, c.if-symbol-before.false)))

pub returns-in-None : goal.returns-in-None
returns-in-None c = sym
    (short-None (declarations_of c.args.source.now) c.args.before (tree_at c.args.source.now.table c.args.id.0) (sym c.short.ensures ∙ c.in-None.is))
