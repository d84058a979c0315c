use Rattle.std.proofs.Common.{◌≡◌, sym, subst, IfOk}
use Rattle.hol_spec.specs.Sequents.{Sequent}
use Rattle.hol_spec.specs.Rules.{is_free_in}
use Rattle.hol_rules.specs.Views.{variable_view}
use Rattle.hol_rules.proofs.Pushed.{sequent_at-kept}
use Rattle.hol_rules.proofs.proof.Proof.is_free_in_hyps.Goals as goal

pub returns-clause-free : goal.returns-clause-free
returns-clause-free c =
    let trees = c.self.inside.terms in
    let l = rw (← c.self.view_is) at c.requires.one in
    let same = sequent_at-kept trees c.self.inside.symbols c.self.inside.steps.items c.self.inside.made.items c.self.invariant c.args.one c.index.result.now l
    c.index.ensures in
    let found = rw c.ids.ensures.numbers at c.is_free_in_any.ensures.free in
    rw (← c.self.view_is) (
    subst (λ (s : Sequent). IfOk c.is_free_in_any.result (λ free. free ≡ is_free_in (variable_view trees c.args.var.now) s.hypotheses)) (sym same) found
    )
