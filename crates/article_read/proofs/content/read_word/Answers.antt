use Rattle.std.proofs.Common.{◌∙◌}
use Rattle.article_read.proofs.Words.{looked_up-frequent}
use Rattle.article_read.proofs.content.read_word.Goals as goal

pub returns : goal.returns
returns c = c.look_up.ensures ∙ looked_up-frequent c.args.text.now
