use Rattle.hol_defs.specs.Lists.{pairs_at as constant_pairs_at, ArePairsKnown as AreConstantPairsKnown}
use Rattle.article_spec.specs.Operands.{as_name, as_variable, pair_of}
use Rattle.stack_machine.specs.Stored.{IsListKnown, list_view, rank}
use Rattle.stack_machine.proofs.Elements.{IsRead}
use Rattle.stack_machine.proofs.store.Store.constant_pairs_in.Given as goal

abbrev pub invariant-loop-rest : goal.invariant-loop-rest
invariant-loop-rest l = record {
  list : IsListKnown l.self l.rest;
  pairs : AreConstantPairsKnown l.self.trees l.pairs.items;
  read : IsRead (pair_of as_name as_variable) (list_view l.self l.fn.list) (list_view l.self l.rest) (constant_pairs_at l.self.trees l.pairs.items);
}

abbrev pub decreases-loop-rest : goal.decreases-loop-rest
decreases-loop-rest l = rank l.rest
