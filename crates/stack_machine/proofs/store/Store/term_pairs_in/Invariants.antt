use Rattle.hol_term.specs.Substitutions.{term_pairs_at, AreTermPairs}
use Rattle.article_spec.specs.Operands.{as_term, as_variable, pair_of}
use Rattle.stack_machine.specs.Stored.{IsListKnown, list_view, rank}
use Rattle.stack_machine.proofs.Elements.{IsRead}
use Rattle.stack_machine.proofs.store.Store.term_pairs_in.Given as goal

abbrev pub invariant-loop-rest : goal.invariant-loop-rest
invariant-loop-rest l = record {
  list : IsListKnown l.self l.rest;
  pairs : AreTermPairs l.self.trees l.pairs.items;
  read : IsRead (pair_of as_variable as_term) (list_view l.self l.fn.list) (list_view l.self l.rest) (term_pairs_at l.self.trees l.pairs.items);
}

abbrev pub decreases-loop-rest : goal.decreases-loop-rest
decreases-loop-rest l = rank l.rest
