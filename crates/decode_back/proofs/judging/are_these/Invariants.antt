use Rattle.std.proofs.Common.{◌≡◌, map, drop}
use lib.Pointwise.{pointwise}
use Rattle.hol_spec.specs.Terms.{term_eq}
use Rattle.hol_term.specs.Tables.{terms_at}
use Rattle.hol_term.specs.Subterms.{variables_of}
use Rattle.decode_back.specs.TermWalks.{free_of}
use Rattle.decode_back.proofs.judging.are_these.Given as goal

abbrev pub invariant-loop-place : goal.invariant-loop-place
invariant-loop-place l =
    pointwise term_eq (map free_of (variables_of l.table l.found)) (terms_at l.table l.terms)
    ≡ pointwise term_eq (map free_of (variables_of l.table (drop l.place l.found))) (terms_at l.table (drop l.place l.terms))
