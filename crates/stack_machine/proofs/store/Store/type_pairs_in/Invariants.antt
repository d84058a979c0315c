use Rattle.hol_type.specs.Tables.{pairs_at, ArePairsKnown}
use Rattle.article_spec.specs.Operands.{as_name, as_type, pair_of}
use Rattle.stack_machine.specs.Stored.{IsListKnown, list_view, rank}
use Rattle.stack_machine.proofs.Elements.{IsRead}
use Rattle.stack_machine.proofs.store.Store.type_pairs_in.Given as goal

abbrev pub invariant-loop-rest : goal.invariant-loop-rest
invariant-loop-rest l = record {
  list : IsListKnown l.self l.rest;
  pairs : ArePairsKnown l.self.trees.types l.pairs.items;
  read : IsRead (pair_of as_name as_type) (list_view l.self l.fn.list) (list_view l.self l.rest) (pairs_at l.self.trees.types l.pairs.items);
}

abbrev pub decreases-loop-rest : goal.decreases-loop-rest
decreases-loop-rest l = rank l.rest
