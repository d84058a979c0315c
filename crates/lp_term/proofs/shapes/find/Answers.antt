use Rattle.std.proofs.Common.{◌∙◌, sym}
use Rattle.lp_term.specs.Indexed.{kept_in}
use Rattle.lp_term.proofs.Indexing.{finds_leaf}
use Rattle.lp_term.proofs.shapes.find.Goals as goal

pub returns-in-None : goal.returns-in-None
returns-in-None c = finds_leaf c.args.shapes.now c.args.children.now (kept_in c.args.others.now) c.args.shape c.requires c.find_other.result
    (sym c.greater_part.ensures ∙ c.in-None.is) c.find_other.ensures
