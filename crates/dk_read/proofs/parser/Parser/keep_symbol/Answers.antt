use Rattle.dk_read.proofs.Grown.{slice_get-slice_set}
use Rattle.dk_read.proofs.parser.Parser.keep_symbol.Goals as goal

pub returns-clause-kept : goal.returns-clause-kept
returns-clause-kept c = rw c.keep.ensures.symbols (slice_get-slice_set c.args.self.now.atoms.symbols.items c.args.number _)
