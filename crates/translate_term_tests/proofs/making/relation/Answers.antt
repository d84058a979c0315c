use Rattle.translate_term_tests.proofs.making.relation.Goals as goal

pub function-requires-clause-domain : goal.function-requires-clause-domain
function-requires-clause-domain c = c.in_ok-truth.ensures.plain

pub function-requires-clause-codomain : goal.function-requires-clause-codomain
function-requires-clause-codomain c = c.in_ok-truth.ensures.plain

pub function-requires-2-clause-domain : goal.function-requires-2-clause-domain
function-requires-2-clause-domain c = c.function.ensures.keeps.types c.in_ok-truth.truth.0 c.in_ok-truth.ensures.plain

pub function-requires-2-clause-codomain : goal.function-requires-2-clause-codomain
function-requires-2-clause-codomain c = c.in_ok-predicate.ensures.plain

pub returns : goal.returns
returns c = c.function-2.ensures.plain
