use Rattle.translate_rule.proofs.declaration.step.Goals as goal

pub step_with-made-requires-clause-kept : goal.step_with-made-requires-clause-kept
step_with-made-requires-clause-kept c = c.new-kept.ensures.kept c.args.proof.now

pub returns-clause-made : goal.returns-clause-made
returns-clause-made c = c.step_with-made.ensures.made

pub returns-clause-known : goal.returns-clause-known
returns-clause-known c = c.step_with-made.ensures.known

pub returns-clause-grows : goal.returns-clause-grows
returns-clause-grows c = c.step_with-made.ensures.grows
