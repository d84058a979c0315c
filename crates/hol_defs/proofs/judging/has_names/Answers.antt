use Rattle.std.proofs.Common.{ap, ◌∙◌}
use Rattle.std.proofs.Math.Path.{ap₂}
use Rattle.std.specs.List.{list_all}
use Rattle.hol_spec.specs.Lists.{is_in, union}
use Rattle.hol_spec.specs.NameEquality.{name_eq}
use Rattle.hol_spec.specs.Types.{type_variables}
use Rattle.hol_type.specs.Tables.{tree_at}
use Rattle.hol_term.specs.Tables.{term_at, type_at}
use Rattle.hol_defs.proofs.JudgeLaws.{has_variables-listed}
use Rattle.hol_defs.proofs.judging.has_names.Goals as goal

pub returns : goal.returns
returns c =
    let own = c.in_ok-unite.ensures.united ∙ ap₂ (union name_eq) c.requires.own
    (c.in_ok-vars.ensures ∙ ap (λ types. type_variables (tree_at types c.args.ty.0)) c.types.ensures.types) in
    c.are_among.ensures ∙ ap (list_all (λ n. is_in name_eq n c.unite.new.self)) c.deref.ensures.value
    ∙ has_variables-listed (type_at c.args.table.now c.args.ty.0) (term_at c.args.table.now c.args.term.0) c.unite.new.self c.in_ok-names.names.items own
    c.in_ok-names.ensures
