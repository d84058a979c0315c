use Rattle.std.proofs.Common.{arith}
use Rattle.translate_proof.proofs.PartLaws.{application-view, argument-seen, argument-below}
use Rattle.translate_proof.proofs.parts.argument.Goals as goal

pub unreachable-requires : goal.unreachable-requires
unreachable-requires c =
    let q = c.requires.application in
    application-view c.args.proof.now.trees c.args.id.0 q.0 q.1 q.2 c.view.result (rw c.terms-table.ensures at c.view.ensures.is) c.in_default.not-App

pub returns-clause-known : goal.returns-clause-known
returns-clause-known c =
    let below = argument-below c.args.proof.now.trees c.args.id.0 _ c.in-App.argument c.view.result c.in-App.is
    (rw c.terms-table.ensures at c.view.ensures.lower) in
    omega (arith, below, c.requires.id)

pub returns-clause-is : goal.returns-clause-is
returns-clause-is c = argument-seen c.args.proof.now.trees c.args.id.0 _ c.in-App.argument c.view.result c.in-App.is
    (rw c.terms-table.ensures at c.view.ensures.is)
