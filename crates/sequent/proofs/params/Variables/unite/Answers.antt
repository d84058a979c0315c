use Rattle.std.proofs.Common.{[], ◌∷◌, ap, sym, ◌∙◌}
use Rattle.hol_spec.specs.Lists.{union}
use Rattle.hol_laws.specs.ListLaws.{union-append}
use Rattle.sequent.specs.Params.{same_variable}
use Rattle.sequent.proofs.params.Variables.unite.Goals as goal

pub loop-variable-preserved : goal.loop-variable-preserved
loop-variable-preserved c =
    c.in_ok-add.ensures.added
    ∙ ap (λ l. union same_variable l (c.in-Some.variable ∷ [])) c.loop-variable.invariant
    ∙ sym (union-append same_variable c.loop-variable.yielded (c.in-Some.variable ∷ []) c.args.self.now)
