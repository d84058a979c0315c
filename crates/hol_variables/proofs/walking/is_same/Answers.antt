use Rattle.std.proofs.Common.{◌≡◌, sym, ap, ◌∙◌, true}
use Rattle.std.specs.Prelude.{◌&&◌}
use Rattle.hol_spec.specs.NameEquality.{name_eq}
use Rattle.hol_spec.specs.Types.{type_eq}
use Rattle.hol_term.specs.Tables.{type_at}
use Rattle.hol_variables.proofs.Found.{type_numbers}
use Rattle.hol_variables.proofs.walking.is_same.Goals as goal

pub returns-then-eq : goal.returns-then-eq
returns-then-eq c trees d lt own =
    let named : name_eq c.args.variable.now.name c.args.own.now.name ≡ true = sym c.eq.ensures ∙ c.if-eq.true in
    c.eq-then-eq.ensures ∙ type_numbers trees.types d c.args.variable.now.ty c.args.own.now.ty lt own
    ∙ ap (λ b. b && type_eq (type_at trees c.args.variable.now.ty.0) (type_at trees c.args.own.now.ty.0)) (sym named)
