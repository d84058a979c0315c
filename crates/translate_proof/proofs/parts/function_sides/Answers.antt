use Rattle.translate_proof.proofs.PartLaws.{function_parts-some, functions-are}
use Rattle.translate_proof.proofs.parts.function_sides.Goals as goal

pub sides-sides-requires-clause-equation : goal.sides-sides-requires-clause-equation
sides-sides-requires-clause-equation c = let q = c.requires.equation in record { ty = _; left = q.2; right = q.3; is = q.4 }

pub unwrap-requires : goal.unwrap-requires
unwrap-requires c =
    let q = c.requires.equation in
    function_parts-some c.args.proof.now c.args.id c.sides-sides.result c.sides-sides.ensures q.0 q.1 q.2 q.3 q.4 c.function_parts.result
    (rw (c.types.ensures.types, c.terms.ensures) at c.function_parts.ensures.parts)

pub returns : goal.returns
returns c =
    let q = c.requires.equation in
    functions-are c.args.proof.now c.args.id c.sides-sides.result c.sides-sides.ensures q.0 q.1 q.2 q.3 q.4 c.function_parts.result
    (rw (c.types.ensures.types, c.terms.ensures) at c.function_parts.ensures.parts) c.unwrap.result c.unwrap.ensures c.function_parts.ensures.domain
    c.function_parts.ensures.codomain
