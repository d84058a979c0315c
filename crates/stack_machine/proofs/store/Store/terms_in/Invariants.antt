use Rattle.article_spec.specs.Operands.{as_term}
use Rattle.stack_machine.specs.Stored.{IsListKnown, list_view, rank}
use Rattle.hol_term.specs.Tables.{terms_at}
use Rattle.hol_rules.specs.Premises.{AreTermsAt}
use Rattle.stack_machine.proofs.Elements.{IsRead}
use Rattle.stack_machine.proofs.store.Store.terms_in.Given as goal

abbrev pub invariant-loop-rest : goal.invariant-loop-rest
invariant-loop-rest l = record {
  list : IsListKnown l.self l.rest;
  terms : AreTermsAt l.self.trees l.terms.items;
  read : IsRead as_term (list_view l.self l.fn.list) (list_view l.self l.rest) (terms_at l.self.trees l.terms.items);
}

abbrev pub decreases-loop-rest : goal.decreases-loop-rest
decreases-loop-rest l = rank l.rest
