use Rattle.std.proofs.Common.{◌≡◌, drop}
use Rattle.std.specs.List.{list_any}
use Rattle.hol_spec.specs.DefinitionLists.{names_of}
use Rattle.hol_spec.specs.Symbols.{is_taken_constant}
use Rattle.hol_defs.specs.Lists.{pairs_at}
use Rattle.hol_defs.specs.Symbols.{symbols_at}
use Rattle.hol_defs.proofs.Symbols.has_taken.Given as goal

abbrev pub invariant-loop-pair : goal.invariant-loop-pair
invariant-loop-pair l = list_any (is_taken_constant (symbols_at l.table l.self)) (names_of (pairs_at l.table (drop l.pair-index l.pairs))) ≡ list_any
    (is_taken_constant (symbols_at l.table l.self)) (names_of (pairs_at l.table l.pairs))
