use Rattle.std.proofs.Common.{sym, ◌∙◌}
use Rattle.dk_write.proofs.NodeLaws.{short-IsWritten, view-IsWritten}
use Rattle.dk_write.proofs.tree.written_node.Goals as goal

pub returns-in-Some : goal.returns-in-Some
returns-in-Some c = short-IsWritten c.args.source.now c.args.before c.args.id c.in-Some.symbol (sym c.short_name.ensures ∙ c.in-Some.is)

pub returns-in-None : goal.returns-in-None
returns-in-None c =
    view-IsWritten c.args.source.now c.args.before c.args.id c.view.result (sym c.short_name.ensures ∙ c.in-None.is) c.view.ensures.is c.view.ensures.lower
