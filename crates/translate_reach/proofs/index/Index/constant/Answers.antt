use Rattle.std.proofs.Common.{◌∙◌}
use Rattle.translate_reach.proofs.Ordered.{get-name}
use Rattle.translate_reach.proofs.index.Index.constant.Goals as goal

pub returns : goal.returns
returns c = c.copied.ensures ∙ c.get.ensures.value ∙ get-name c.args.name.now c.args.self.now.constants
