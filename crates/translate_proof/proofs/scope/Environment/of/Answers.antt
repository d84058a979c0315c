use Rattle.translate_proof.proofs.scope.Environment.of.Goals as goal

pub place-requires : goal.place-requires
place-requires c = record { inside = c.requires; nothing = c.new-made.ensures.nothing }

pub returns-in_err-place-clause-grows : goal.returns-in_err-place-clause-grows
returns-in_err-place-clause-grows c = c.place.ensures.grows

pub returns-clause-made : goal.returns-clause-made
returns-clause-made c = c.in_ok-place.ensures.made

pub returns-clause-grows : goal.returns-clause-grows
returns-clause-grows c = c.place.ensures.grows
