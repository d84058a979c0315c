use Rattle.translate_proof.proofs.constants.constant_list.Goals as goal

pub constant_list_over-made-requires-clause-none : goal.constant_list_over-made-requires-clause-none
constant_list_over-made-requires-clause-none c = c.new-args.ensures.items

pub returns-clause-made : goal.returns-clause-made
returns-clause-made c = c.constant_list_over-made.ensures.made

pub returns-clause-grows : goal.returns-clause-grows
returns-clause-grows c = c.constant_list_over-made.ensures.grows
