use Rattle.std.proofs.Common.{sym, ap, ◌∙◌, Some}
use Rattle.hol_term.specs.Indexed.{kept_in}
use Rattle.hol_term.proofs.Indexing.{forgets}
use Rattle.hol_term.proofs.entries.forget_node.Goals as goal

pub returns-then-kept-number : goal.returns-then-kept-number
returns-then-kept-number c = forgets (kept_in c.args.others.now) (kept_in c.remove.new.self) c.args.node.now c.args.number
    (sym c.in-Some.ensures.value ∙ ap Some c.if-kept-number.true) c.remove.ensures.updates.0
