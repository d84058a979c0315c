use Rattle.std.proofs.Common.{sym, ◌∙◌}
use Rattle.std.proofs.lemmas.Result.{IfOk-weaker}
use Rattle.sequent.proofs.HypLaws.{without-absent}
use Rattle.sequent.proofs.hyps.Hyps.without.Goals as goal

pub returns-then-not-contains : goal.returns-then-not-contains
returns-then-not-contains c = IfOk-weaker c.copied.result _ _
    (λ hyps e. e ∙ sym (without-absent c.args.self.now c.args.id (sym c.contains.ensures ∙ c.if-not-contains.true))) c.copied.ensures
