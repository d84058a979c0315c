use Rattle.decode_back.proofs.SymbolLemmas.{primitive-third}
use Rattle.decode_back.proofs.symbols.is_primitive.Goals as goal

pub returns : goal.returns
returns c = primitive-third c.args.name.now c.is_single.result c.is_single-2.result c.is_single-3.result c.is_single.ensures c.if-is_single.false
    c.is_single-2.ensures c.if-is_single-2.false c.is_single-3.ensures
