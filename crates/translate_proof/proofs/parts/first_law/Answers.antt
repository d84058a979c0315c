use Rattle.std.proofs.lemmas.Result.{IfOk-weaker}
use Rattle.translate_proof.proofs.LawEquations.{first-defining, first-equation, first-told}
use Rattle.translate_proof.proofs.parts.first_law.Goals as goal

pub law-requires-clause-equation : goal.law-requires-clause-equation
law-requires-clause-equation c = (_, _, _, _, first-equation c.args.ground.proof.now c.args.id c.args.one.id c.requires.law.0 c.requires.law.1)

pub law-requires-clause-defines : goal.law-requires-clause-defines
law-requires-clause-defines c = first-defining c.args.ground.proof.now c.args.id c.args.one.id c.requires.law.0 c.requires.law.1

pub law-requires-clause-told : goal.law-requires-clause-told
law-requires-clause-told c =
    let q = c.requires.told in
    (q.0, q.1, q.2, q.3, first-told c.args.ground.proof.now c.args.id c.args.one.id c.requires.law.0 q.0 q.3 c.requires.law.1, q.4)

pub returns-clause-made : goal.returns-clause-made
returns-clause-made c =
    let k = c.args.ground.proof.now in
    IfOk-weaker c.law.result _ _
    (λ r h given names is stands inside own one.
    h given _ _ _ _ (first-equation k c.args.id c.args.one.id names is) stands inside own (first-told k c.args.id c.args.one.id names given own is) one)
    c.law.ensures.made
