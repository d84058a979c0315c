use Rattle.std.proofs.Common.{arith}
use Rattle.dk_read.proofs.WordBytes.{byte_at}
use Rattle.dk_read.proofs.heads.is_word_byte.Goals as goal

pub returns : goal.returns
returns c = byte_at c.args.byte (let h = c.ranges.byte in omega (arith, h))
