use Rattle.std.proofs.Common.{◌∙◌, arith}
use Rattle.decode_back.proofs.SymbolLemmas.{front-numeral}
use Rattle.decode_back.proofs.symbols.input_front.Goals as goal

pub returns : goal.returns
returns c = c.in_ok-front.ensures ∙ front-numeral c.args.count (omega (arith, c.ranges.count))
