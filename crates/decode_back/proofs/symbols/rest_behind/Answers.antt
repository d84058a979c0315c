use Rattle.decode_back.proofs.SymbolLemmas.{no_more}
use Rattle.decode_back.proofs.symbols.rest_behind.Goals as goal

pub returns-in_default : goal.returns-in_default
returns-in_default c = no_more c.args.front.now c.loop-byte.rest.now c.loop-byte.byte-index _ c.loop-byte-test.true c.in_default.len_below c.loop-byte.invariant
