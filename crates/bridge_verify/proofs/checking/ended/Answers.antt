use Rattle.std.proofs.Common.{sym}
use Rattle.bridge_verify.proofs.checking.ended.Goals as goal

pub returns-in-Ok-clause-read : goal.returns-in-Ok-clause-read
returns-in-Ok-clause-read c text m fed reads = sym ((c.in-Ok.ensures.reads text fed).only m reads)

pub returns-in-Err-clause-memory : goal.returns-in-Err-clause-memory
returns-in-Err-clause-memory c =
    c.answer_of.ensures.memory (c.in-Err.ensures.accepts c.requires.reads.0 c.requires.reads.1 c.requires.reads.2 tt c.requires.reads.3)
