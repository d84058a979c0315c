use Rattle.std.proofs.Common.{refl}
use Rattle.std.specs.Fmt.{digits}
use Rattle.article_count.proofs.steps.version_length.Goals as goal

pub returns-in-Six : goal.returns-in-Six
unfolding digits
returns-in-Six c = rw (c.in-Six.is, c.word_length.ensures) refl
