use Rattle.dk_read.specs.Names.{IsNameless, HasSymbols}
use Rattle.dk_read.proofs.signature_names.add_first.Given as goal

abbrev pub invariant-loop-symbol : goal.invariant-loop-symbol
invariant-loop-symbol l = record { nameless : IsNameless l.names l.nameless; symbols : HasSymbols l.names l.symbol }
