use Rattle.std.proofs.Common.{◌≡◌, ◌∷◌, []}
use Rattle.hol_type.specs.Tables.{pairs_at}
use Rattle.translate_proof.specs.Matching.{are_types_made, types_left, AreTypesLeft}
use Rattle.translate_proof.proofs.matching.makes_type.Given as goal

abbrev pub invariant-loop-one : goal.invariant-loop-one
invariant-loop-one l = record {
  known : AreTypesLeft l.table l.left;
  made : are_types_made l.table (pairs_at l.table l.pairs) ((l.fn.general, l.fn.ty) ∷ []) ≡ are_types_made l.table (pairs_at l.table l.pairs) l.left;
}

abbrev pub decreases-loop-one : goal.decreases-loop-one
decreases-loop-one l = types_left l.table l.left
