use Rattle.share.proofs.typing.simple_part.Goals as goal

pub returns-in-None-simple : goal.returns-in-None-simple
returns-in-None-simple c = λ m a. (c.in-Some.ensures.0, c.in-None-simple.ensures.asked m)
