use Rattle.std.proofs.Common.{ap, ◌∙◌}
use Rattle.std.proofs.lemmas.Result.{on_ok_weaker}
use Rattle.hol_spec.specs.Lists.{union}
use Rattle.hol_laws.specs.ListLaws.{union-distinct}
use Rattle.hol_spec.specs.NameEquality.{name_eq}
use Rattle.hol_laws.specs.NameEqualityLaws.{name_eq-Decides}
use Rattle.hol_spec.specs.Types.{variable_places}
use Rattle.hol_type.specs.Tables.{tree_at}
use Rattle.hol_term.proofs.TermTable.unite_type.Goals as goal

pub returns : goal.returns
returns c =
    rw (← c.self.view_is) (on_ok_weaker c.unite.result
    (λ e. e ∙ ap (union name_eq c.args.names.now) (c.deref.ensures.value ∙ c.in_ok-found.ensures)
    ∙ union-distinct name_eq name_eq-Decides (variable_places (tree_at c.self.inside.types c.args.ty.0)) c.args.names.now)
    c.unite.ensures.united)
