use Rattle.translate_proof.proofs.SequentLaws.{is-some, if-some, conclusion-IsTerm, conclusion-IsEquation, left-IsTerm, equated-is}
use Rattle.translate_proof.proofs.rows.sides.Goals as goal

pub dest_eq-requires : goal.dest_eq-requires
dest_eq-requires c = rw c.terms-table.ensures
    (conclusion-IsTerm c.args.proof.now c.args.id c.requires.id c.is_proof.ensures c.sequent.result.now c.sequent.ensures.is c.sequent.ensures.known)

pub unwrap-requires : goal.unwrap-requires
unwrap-requires c =
    let none = rw c.terms-table.ensures at c.dest_eq.ensures.none in
    is-some c.dest_eq.result none
    (λ q. q c.requires.equation.left c.requires.equation.right
    (conclusion-IsEquation c.args.proof.now c.args.id c.requires.id c.is_proof.ensures c.sequent.result.now c.sequent.ensures.is c.sequent.ensures.known
    c.requires.equation))

pub type_of-ty-requires : goal.type_of-ty-requires
type_of-ty-requires c =
    let found = rw c.terms-table.ensures at (if-some _ c.dest_eq.result c.unwrap.result c.unwrap.ensures c.dest_eq.ensures.sides) in
    rw c.terms-table.ensures
    (left-IsTerm c.args.proof.now c.args.id c.requires.id c.is_proof.ensures c.sequent.result.now c.sequent.ensures.is c.sequent.ensures.known
    c.unwrap.result.0 c.unwrap.result.1 found)

pub returns : goal.returns
returns c =
    let found = rw c.terms-table.ensures at (if-some _ c.dest_eq.result c.unwrap.result c.unwrap.ensures c.dest_eq.ensures.sides) in
    let known = rw c.terms-table.ensures at c.type_of-ty.ensures.known in
    let typed = rw c.terms-table.ensures at c.type_of-ty.ensures.is in
    equated-is c.args.proof.now c.args.id c.requires.id c.is_proof.ensures c.sequent.result.now c.sequent.ensures.is c.sequent.ensures.known c.unwrap.result.0
    c.unwrap.result.1 found c.type_of-ty.result
    (if-some _ c.dest_eq.result c.unwrap.result c.unwrap.ensures c.dest_eq.ensures.left)
    (if-some _ c.dest_eq.result c.unwrap.result c.unwrap.ensures c.dest_eq.ensures.right) known typed
