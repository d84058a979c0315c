use Rattle.translate_proof.proofs.images.subst.Goals as goal

pub returns-clause-made : goal.returns-clause-made
returns-clause-made c = c.subst_over-made.ensures.made

pub returns-clause-grows : goal.returns-clause-grows
returns-clause-grows c = c.subst_over-made.ensures.grows
