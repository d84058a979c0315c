use Rattle.std.proofs.Common.{◌∙◌}
use Rattle.bridge_words.proofs.Answering.{each-readable}
use Rattle.bridge_words.proofs.form.are_readable.Goals as goal

pub returns-in-len1-up : goal.returns-in-len1-up
returns-in-len1-up c = c.is_each_readable.ensures ∙ each-readable c.args.words.now
