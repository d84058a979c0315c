use Rattle.std.proofs.Common.{sym, ◌∙◌}
use Rattle.hol_rules.proofs.SideLaws.{ids_equal}
use Rattle.hol_rules.proofs.hypotheses.kept_in.Goals as goal

pub returns-then-eq : goal.returns-then-eq
returns-then-eq c = c.in_ok-copy.ensures.cases ∙ sym c.ids-2.ensures.numbers
    ∙ sym (ids_equal c.ids.result.now c.ids-2.result.now c.eq.result c.eq.ensures c.if-eq.true) ∙ c.ids.ensures.numbers
