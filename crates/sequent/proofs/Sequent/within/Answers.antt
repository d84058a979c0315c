use Rattle.std.proofs.Common.{sym, ◌∙◌}
use Rattle.sequent.proofs.HypLaws.{within-at, and_then, and_not}
use Rattle.sequent.proofs.Sequent.within.Goals as goal

pub returns-then-are_among : goal.returns-then-are_among
returns-then-are_among c trees d k l =
    and_then _ _ _ (sym c.are_among.ensures ∙ c.if-are_among.true) c.eq.ensures ∙ sym (within-at trees d c.args.a.now c.args.b.now k l)

pub returns-else-are_among : goal.returns-else-are_among
returns-else-are_among c trees d k l =
    and_not _ _ _ c.are_among.ensures c.if-are_among.false ∙ sym (within-at trees d c.args.a.now c.args.b.now k l)
