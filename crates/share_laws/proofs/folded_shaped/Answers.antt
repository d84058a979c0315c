use Rattle.share_laws.specs.FoldedModules.{folded-IsModule, folded-AreLong}
use Rattle.share_laws.specs.FoldedShapes.{folded-AreShaped, folded-priced}
use Rattle.share_laws.proofs.folded_shaped.Goals as goal

pub returns : goal.returns
returns c = λ m h u s. record { is_module = folded-IsModule m h u s; long = folded-AreLong m u; shaped = folded-AreShaped m s; priced = folded-priced m s }
