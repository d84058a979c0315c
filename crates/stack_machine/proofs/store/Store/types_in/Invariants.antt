use Rattle.article_spec.specs.Operands.{as_type}
use Rattle.stack_machine.specs.Stored.{IsListKnown, list_view, rank}
use Rattle.hol_type.specs.Tables.{types_at, AreKnown}
use Rattle.stack_machine.proofs.Elements.{IsRead}
use Rattle.stack_machine.proofs.store.Store.types_in.Given as goal

abbrev pub invariant-loop-rest : goal.invariant-loop-rest
invariant-loop-rest l = record {
  list : IsListKnown l.self l.rest;
  types : AreKnown l.self.trees.types l.types.items;
  read : IsRead as_type (list_view l.self l.fn.list) (list_view l.self l.rest) (types_at l.self.trees.types l.types.items);
}

abbrev pub decreases-loop-rest : goal.decreases-loop-rest
decreases-loop-rest l = rank l.rest
