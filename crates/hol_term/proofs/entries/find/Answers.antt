use Rattle.std.proofs.Common.{◌∙◌, sym}
use Rattle.hol_term.specs.Indexed.{nodes_of, kept_in}
use Rattle.hol_term.proofs.Indexing.{finds_leaf}
use Rattle.hol_term.proofs.entries.find.Goals as goal

pub returns-in-None : goal.returns-in-None
returns-in-None c = finds_leaf (nodes_of c.args.entries.now) c.args.children.now (kept_in c.args.others.now) c.args.node.now c.requires c.find_other.result
    (sym c.greater_part.ensures ∙ c.in-None.is) c.find_other.ensures
