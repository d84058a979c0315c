use Rattle.std.specs.Prelude.{drop}
use Rattle.hol_spec.specs.NameEquality.{name_eq}
use Rattle.lp_term.specs.Tables.{Keeps}
use Rattle.translate_proof.specs.Environments.{TellTypes}
use Rattle.translate_proof.proofs.PlaceLaws.{Places}
use Rattle.translate_proof.proofs.scope.place_types.Given as goal

abbrev pub invariant-loop-name : goal.invariant-loop-name
invariant-loop-name l = record {
  keeps : Keeps l.fn.table l.table;
  places : Places name_eq TellTypes l.fn.table l.table l.fn.types l.types l.names (drop l.name-index l.names) l.depth l.place;
}
