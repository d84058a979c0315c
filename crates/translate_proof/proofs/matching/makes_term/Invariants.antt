use Rattle.std.proofs.Common.{◌≡◌, ◌∷◌, []}
use Rattle.translate_proof.specs.Matching.{are_terms_made, terms_left, AreTermsLeft}
use Rattle.translate_proof.proofs.matching.makes_term.Given as goal

abbrev pub invariant-loop-one : goal.invariant-loop-one
invariant-loop-one l = record {
  known : AreTermsLeft l.table l.left;
  made : are_terms_made l.table l.put ((l.fn.general, l.fn.id) ∷ []) ≡ are_terms_made l.table l.put l.left;
}

abbrev pub decreases-loop-one : goal.decreases-loop-one
decreases-loop-one l = terms_left l.table l.left
