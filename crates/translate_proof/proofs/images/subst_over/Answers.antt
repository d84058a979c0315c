use Rattle.translate_proof.proofs.images.subst_over.Goals as goal

pub subst_onto-made-requires-clause-none : goal.subst_onto-made-requires-clause-none
subst_onto-made-requires-clause-none c = c.new-args.ensures.items

pub returns-clause-made : goal.returns-clause-made
returns-clause-made c = c.subst_onto-made.ensures.made

pub returns-clause-grows : goal.returns-clause-grows
returns-clause-grows c = c.subst_onto-made.ensures.grows
