use Rattle.std.proofs.Common.{◌≤◌, length}
use Rattle.lp_spec.specs.Modules.{abstractions}
use Rattle.lp_term.specs.Tables.{tree_at, trees_at}
use Rattle.translate_proof.proofs.DomainLaws.{IsOver}
use Rattle.translate_proof.proofs.trees.over.Given as goal

abbrev pub invariant-loop-rest : goal.invariant-loop-rest
invariant-loop-rest l = record {
  over : IsOver l.fn.table l.table l.rest l.made (abstractions (trees_at l.fn.table l.fn.domains) (tree_at l.fn.table l.fn.body.0));
  shorter : length l.rest ≤ length l.fn.domains;
}

abbrev pub decreases-loop-rest : goal.decreases-loop-rest
decreases-loop-rest l = length l.rest
