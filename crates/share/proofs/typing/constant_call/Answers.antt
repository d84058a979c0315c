use Rattle.share.proofs.typing.constant_call.Goals as goal

pub returns-in-None-clause-turn : goal.returns-in-None-clause-turn
returns-in-None-clause-turn c = λ m a. (c.requires.argument, c.in-None.ensures.asked m)

pub returns-in-None-constant-clause-turn : goal.returns-in-None-constant-clause-turn
returns-in-None-constant-clause-turn c = λ m a. (c.requires.function, c.in-None-constant.ensures.asked m)
