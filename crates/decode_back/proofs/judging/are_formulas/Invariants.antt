use Rattle.std.proofs.Common.{◌≡◌, drop}
use Rattle.std.specs.List.{list_all}
use Rattle.hol_term.specs.Tables.{terms_at}
use Rattle.decode_back.specs.SequentWalks.{is_bounded_formula}
use Rattle.decode_back.proofs.judging.are_formulas.Given as goal

abbrev pub invariant-loop-id : goal.invariant-loop-id
invariant-loop-id l = list_all is_bounded_formula (terms_at l.table l.ids) ≡ list_all is_bounded_formula (terms_at l.table (drop l.id-index l.ids))
