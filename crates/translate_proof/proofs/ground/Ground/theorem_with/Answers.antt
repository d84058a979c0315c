use Rattle.translate_proof.proofs.ground.Ground.theorem_with.Goals as goal

pub theorem_over-made-requires-clause-none : goal.theorem_over-made-requires-clause-none
theorem_over-made-requires-clause-none c = c.new-args.ensures.items

pub returns-clause-made : goal.returns-clause-made
returns-clause-made c = c.theorem_over-made.ensures.made

pub returns-clause-grows : goal.returns-clause-grows
returns-clause-grows c = c.theorem_over-made.ensures.grows
