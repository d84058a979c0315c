use Rattle.std.specs.Prelude.{drop}
use Rattle.hol_term.proofs.FoundLaws.{IsNaming}
use Rattle.hol_term.proofs.TermTable.unite_heads.Given as goal

abbrev pub invariant-loop-id : goal.invariant-loop-id
invariant-loop-id l = IsNaming l.self l.ids (drop l.id-index l.ids) l.names
