use Rattle.translate_proof.proofs.PartLaws.{view-app, witness-IsTerm, holding-is}
use Rattle.translate_proof.proofs.parts.applied.Goals as goal

pub unreachable-requires : goal.unreachable-requires
unreachable-requires c =
    let k = c.args.proof.now in
    view-app k c.args.id c.requires.id c.is_proof.ensures c.sequent.result.now c.sequent.ensures.is c.sequent.ensures.known c.requires.defines c.view.result
    (rw c.terms-table.ensures at c.view.ensures.is) c.in_default.not-App

pub type_of-ty-requires : goal.type_of-ty-requires
type_of-ty-requires c =
    let k = c.args.proof.now in
    rw c.terms-table.ensures
    (witness-IsTerm k c.args.id c.requires.id c.is_proof.ensures c.sequent.result.now c.sequent.ensures.is c.sequent.ensures.known c.requires.defines
    c.in-App.predicate c.in-App.witness c.view.result c.in-App.is (rw c.terms-table.ensures at c.view.ensures.is))

pub returns : goal.returns
returns c =
    let k = c.args.proof.now in
    let known = rw c.terms-table.ensures at c.type_of-ty.ensures.known in
    let typed = rw c.terms-table.ensures at c.type_of-ty.ensures.is in
    holding-is k c.args.id c.requires.id c.is_proof.ensures c.sequent.result.now c.sequent.ensures.is c.sequent.ensures.known c.requires.defines
    c.in-App.predicate c.in-App.witness c.view.result c.in-App.is (rw c.terms-table.ensures at c.view.ensures.is)
    (rw c.terms-table.ensures at c.view.ensures.lower) c.type_of-ty.result known typed
