use Rattle.std.specs.Prelude.{drop}
use Rattle.hol_term.proofs.FoundLaws.{IsFinding}
use Rattle.hol_term.proofs.TermTable.push_free_among.Given as goal

abbrev pub invariant-loop-id : goal.invariant-loop-id
invariant-loop-id l = IsFinding l.self l.ids (drop l.id-index l.ids) l.found.items
