use Rattle.std.proofs.Common.{sym, arith}
use Rattle.holide_sig.proofs.LongNames.{longer-absent}
use Rattle.holide_sig.proofs.signature.signature_symbol.Goals as goal

pub returns-then-name-gt-LONGEST : goal.returns-then-name-gt-LONGEST
returns-then-name-gt-LONGEST c = sym (longer-absent c.args.name.now (omega (arith, c.if-name-gt-LONGEST.true)))
