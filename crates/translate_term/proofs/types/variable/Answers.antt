use Rattle.std.proofs.Common.{◌∙◌, ap, sym, Some}
use Rattle.std.proofs.lemmas.Result.{IfOk-weaker}
use Rattle.translate_laws.specs.ListedScopes.{told_types}
use Rattle.translate_term.proofs.ScopeLists.{told-found, told-absent}
use Rattle.translate_term.proofs.types.variable.Goals as goal

pub returns-in-Some-clause-made : goal.returns-in-Some-clause-made
returns-in-Some-clause-made c =
    λ given g.
    told-found _ _ c.args.name.now c.in-Some.tree g.known (sym c.find.ensures ∙ c.in-Some.is) ∙ ap (λ l. Some (told_types l c.args.name.now)) g.told

pub returns-in-None-clause-made : goal.returns-in-None-clause-made
returns-in-None-clause-made c =
    IfOk-weaker c.node.result _ _
    (λ r h given g. h ∙ ap Some (sym (told-absent _ _ c.args.name.now (sym c.find.ensures ∙ c.in-None.is)))
    ∙ ap (λ l. Some (told_types l c.args.name.now)) g.told)
    c.node.ensures.made
