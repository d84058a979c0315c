use Rattle.dk_read.proofs.Answered.{module_read, text_accepted, never_too_long}
use Rattle.dk_read.proofs.reader.Reader.finish.Goals as goal

pub returns-clause-reads : goal.returns-clause-reads
returns-clause-reads c = module_read c.args.self c.read_end.result c.read_end.ensures.ends

pub returns-clause-accepts : goal.returns-clause-accepts
returns-clause-accepts c = text_accepted c.args.self c.read_end.result c.read_end.ensures.ends

pub returns-clause-free : goal.returns-clause-free
returns-clause-free c = never_too_long c.args.self c.read_end.result c.read_end.ensures.ends
