use Rattle.std.proofs.Common.{◌≡◌, sym, ap, ◌∙◌, true}
use Rattle.std.specs.Prelude.{◌&&◌}
use Rattle.hol_spec.specs.NameEquality.{name_eq}
use Rattle.hol_spec.specs.Types.{type_eq}
use Rattle.hol_spec.specs.Terms.{free, variable_eq}
use Rattle.hol_term.specs.Tables.{type_at}
use Rattle.hol_term.specs.TableLaws.{Some-term_in}
use Rattle.hol_variables.specs.Variables.{variable_of, variable_view}
use Rattle.hol_variables.proofs.Found.{type_numbers}
use Rattle.hol_variables.proofs.counting.is_at.Goals as goal

pub returns-then-eq : goal.returns-then-eq
returns-then-eq c =
    let trees = c.args.terms.now in
    let v = c.args.variable.now in
    let named : name_eq v.name c.in-Free.name.now ≡ true = sym c.eq.ensures ∙ c.if-eq.true in
    let d = rw c.types.ensures.types at c.count-count.ensures.distinct in
    c.eq-then-eq.ensures
    ∙ type_numbers trees.types d v.ty c.in-Free.ty c.requires.variable c.in-Free.ensures.lower
    ∙ ap (λ b. b && type_eq (type_at trees v.ty.0) (type_at trees c.in-Free.ty.0)) (sym named)
    ∙ ap (variable_eq (variable_view trees v))
    (sym (ap variable_of (Some-term_in trees.terms c.args.id.0 (free c.in-Free.name.now (type_at trees c.in-Free.ty.0)) c.in-Free.ensures.is)))
