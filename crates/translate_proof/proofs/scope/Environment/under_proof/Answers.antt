use Rattle.translate_term.specs.GrowLaws.{Grows-trans}
use Rattle.translate_proof.proofs.scope.Environment.under_proof.Goals as goal

pub returns-in_err-bind_proof-clause-grows : goal.returns-in_err-bind_proof-clause-grows
returns-in_err-bind_proof-clause-grows c = Grows-trans c.of.ensures.grows c.bind_proof.ensures.grows

pub returns-clause-made : goal.returns-clause-made
returns-clause-made c = λ given trees placed known. c.in_ok-bind_proof.ensures.bound given trees (c.in_ok-made.ensures.made given trees placed) known

pub returns-clause-grows : goal.returns-clause-grows
returns-clause-grows c = Grows-trans c.of.ensures.grows c.bind_proof.ensures.grows
