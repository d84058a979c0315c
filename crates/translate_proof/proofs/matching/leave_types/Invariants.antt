use Rattle.std.proofs.Common.{◌≡◌, ◌+◌, ◌≤◌, length}
use Rattle.std.specs.Prelude.{◌&&◌}
use Rattle.hol_spec.specs.Limits.{types_size}
use Rattle.hol_spec.specs.Substitution.{substitute_all}
use Rattle.hol_spec.specs.Types.{types_eq, types_of}
use Rattle.hol_type.specs.Tables.{pairs_at, types_at, AreKnown}
use Rattle.translate_proof.specs.Matching.{are_types_made, types_left, AreTypesLeft}
use Rattle.translate_proof.proofs.matching.leave_types.Given as goal

abbrev pub invariant-loop-rest : goal.invariant-loop-rest
invariant-loop-rest l = record {
  rest_known : AreKnown l.table l.rest;
  others_known : AreKnown l.table l.others;
  known : AreTypesLeft l.table l.left;
  made : (types_eq (substitute_all (pairs_at l.table l.pairs) (types_of (types_at l.table l.general))) (types_of (types_at l.table l.types)) && are_types_made
      l.table (pairs_at l.table l.pairs) l.fn.left)
      ≡ (types_eq (substitute_all (pairs_at l.table l.pairs) (types_of (types_at l.table l.rest))) (types_of (types_at l.table l.others)) && are_types_made
      l.table (pairs_at l.table l.pairs) l.left);
  less : types_size (types_of (types_at l.table l.rest)) + types_left l.table l.left ≤ types_size (types_of (types_at l.table l.general)) + types_left l.table
      l.fn.left;
}

abbrev pub decreases-loop-rest : goal.decreases-loop-rest
decreases-loop-rest l = length l.rest
