use Rattle.std.proofs.Common.{refl, sym, subst}
use Rattle.std.specs.Prelude.{IsSome}
use Rattle.translate_proof.proofs.ConstantLaws.{left_side-IsTerm, equated-IsEquatedFormula}
use Rattle.translate_proof.proofs.SequentLaws.{is-some, if-some}
use Rattle.translate_proof.proofs.constants.equated.Goals as goal

pub dest_eq-requires : goal.dest_eq-requires
dest_eq-requires c = subst IsSome (sym c.requires.equation.typed) refl

pub unwrap-requires : goal.unwrap-requires
unwrap-requires c = is-some c.dest_eq.result c.dest_eq.ensures.none
    (λ q. q c.requires.equation.left c.requires.equation.right (c.requires.equation.ty, c.requires.equation.is))

pub type_of-ty-requires : goal.type_of-ty-requires
type_of-ty-requires c =
    let found = if-some _ c.dest_eq.result c.unwrap.result c.unwrap.ensures c.dest_eq.ensures.sides in
    left_side-IsTerm c.args.table.now c.args.id c.unwrap.result.0 c.unwrap.result.1 c.requires.equation found

pub returns : goal.returns
returns c =
    let found = if-some _ c.dest_eq.result c.unwrap.result c.unwrap.ensures c.dest_eq.ensures.sides in
    equated-IsEquatedFormula c.args.table.now c.args.id c.unwrap.result.0 c.unwrap.result.1 c.requires.equation found c.type_of-ty.result c.requires.known
    (if-some _ c.dest_eq.result c.unwrap.result c.unwrap.ensures c.dest_eq.ensures.right) c.type_of-ty.ensures.known c.type_of-ty.ensures.is
