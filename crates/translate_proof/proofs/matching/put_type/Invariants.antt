use Rattle.std.proofs.Common.{◌≡◌}
use Rattle.std.specs.Prelude.{drop}
use Rattle.std.specs.Map.{lookup}
use Rattle.hol_spec.specs.NameEquality.{name_eq}
use Rattle.translate_proof.proofs.matching.put_type.Given as goal

abbrev pub invariant-loop-own : goal.invariant-loop-own
invariant-loop-own l = lookup (name_eq l.name) (drop l.own-index l.pairs) ≡ lookup (name_eq l.name) l.pairs
