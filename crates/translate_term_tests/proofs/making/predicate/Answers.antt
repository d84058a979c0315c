use Rattle.translate_term_tests.proofs.making.predicate.Goals as goal

pub function-requires-clause-domain : goal.function-requires-clause-domain
function-requires-clause-domain c = c.truth.ensures.keeps.types c.in_ok-a.a.0 c.in_ok-a.ensures.plain

pub function-requires-clause-codomain : goal.function-requires-clause-codomain
function-requires-clause-codomain c = c.in_ok-truth.ensures.plain

pub returns : goal.returns
returns c = c.function.ensures.plain
