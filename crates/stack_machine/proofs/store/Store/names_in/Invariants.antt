use Rattle.article_spec.specs.Operands.{as_name}
use Rattle.stack_machine.specs.Stored.{IsListKnown, list_view, rank}
use Rattle.stack_machine.proofs.Elements.{IsRead}
use Rattle.stack_machine.proofs.store.Store.names_in.Given as goal

abbrev pub invariant-loop-rest : goal.invariant-loop-rest
invariant-loop-rest l = record {
  list : IsListKnown l.self l.rest;
  read : IsRead as_name (list_view l.self l.fn.list) (list_view l.self l.rest) l.names.items;
}

abbrev pub decreases-loop-rest : goal.decreases-loop-rest
decreases-loop-rest l = rank l.rest
