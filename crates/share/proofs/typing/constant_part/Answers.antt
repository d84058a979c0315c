use Rattle.share.proofs.typing.constant_part.Goals as goal

pub returns-in-None : goal.returns-in-None
returns-in-None c = λ m a. (c.requires.known, c.in-None.ensures.asked m)
