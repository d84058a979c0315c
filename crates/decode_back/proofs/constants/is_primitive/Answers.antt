use Rattle.decode_back.proofs.ConstantLemmas.{primitive-second}
use Rattle.decode_back.proofs.constants.is_primitive.Goals as goal

pub returns : goal.returns
returns c = primitive-second c.args.name.now c.is_single.result c.is_single-2.result c.is_single.ensures c.if-is_single.false c.is_single-2.ensures
