use Rattle.std.proofs.Common.{◌≡◌, ◌+◌, length, refl, sym, ap, ◌∙◌, subst, arith}
use Rattle.hol_spec.specs.NameEquality.{name_eq}
use Rattle.translate_spec.specs.Scopes.{unfilled}
use Rattle.translate_proof.specs.Environments.{TellTypes}
use Rattle.translate_proof.specs.Placed.{placed}
use Rattle.translate_proof.specs.PlacedLaws.{placed-under_types}
use Rattle.translate_rule.proofs.generics.type_scope.Goals as goal

pub returns-clause-made : goal.returns-clause-made
returns-clause-made c =
    let names = c.args.names.now in
    let start = subst (λ es. TellTypes c.args.table.now es unfilled) (sym c.new-scope.ensures.types) (record { known = tt; each = λ n. refl }) in
    let told = c.in_ok-place_types.ensures.types unfilled start in
    let count : length names ≡ 0 + 0 + 0 + length names = omega arith in
    record { known = told.known; each = λ n. told.each n ∙ ap (λ k. placed name_eq k names unfilled n) count ∙ placed-under_types names n }
