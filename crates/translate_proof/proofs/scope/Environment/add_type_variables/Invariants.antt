use Rattle.std.specs.Prelude.{drop}
use Rattle.hol_term.specs.Tables.{Trees}
use Rattle.translate_term.specs.Walks.{Grows}
use Rattle.translate_proof.specs.Environments.{Given, Ready}
use Rattle.translate_proof.proofs.AddLaws.{AddsUp}
use Rattle.translate_proof.proofs.scope.Environment.add_type_variables.Given as goal

abbrev pub invariant-loop-name : goal.invariant-loop-name
invariant-loop-name l = record {
  grows : Grows l.fn.target l.target;
  adds : (given : Given) (trees : Trees) → AddsUp given.scope.types (Ready given l.fn.target trees l.self l.fn.args.items)
      (Ready given l.target trees l.self l.args.items) l.names (drop l.name-index l.names);
}
