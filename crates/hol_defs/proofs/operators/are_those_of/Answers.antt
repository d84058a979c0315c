use Rattle.std.proofs.Common.{ap, ◌∙◌, nat_eq, length}
use Rattle.std.proofs.Math.Path.{ap₂}
use Rattle.std.specs.Prelude.{◌&&◌}
use Rattle.std.specs.List.{list_all}
use Rattle.hol_spec.specs.Lists.{is_in, union}
use Rattle.hol_spec.specs.NameEquality.{name_eq}
use Rattle.hol_term.specs.Tables.{term_at}
use Rattle.hol_defs.proofs.JudgeLaws.{are_variables-listed}
use Rattle.hol_defs.proofs.operators.are_those_of.Goals as goal

pub returns : goal.returns
returns c =
    let mine = c.in_ok-unite.ensures.united ∙ ap₂ (union name_eq) c.requires.own c.in_ok-copied.ensures in
    let places = c.in_ok-unite-2.ensures.united ∙ ap (λ l. union name_eq l c.in_ok-variables.variables.items) c.requires.places in
    let once = ap (λ n. nat_eq n (length c.args.names.now)) c.len.ensures in
    let all = c.are_among-all.ensures ∙ ap (list_all (λ n. is_in name_eq n c.unite.new.self)) c.deref.ensures.value in
    c.all_of.ensures ∙ (λ i. once i && c.are_among-only.ensures i && all i)
    ∙ are_variables-listed c.args.names.now (term_at c.args.table.now c.args.term.0) c.unite.new.self c.in_ok-variables.variables.items c.unite-2.new.self mine
    c.in_ok-variables.ensures places
