use Rattle.std.proofs.Common.{ap, subst, ◌∙◌, arith}
use Rattle.article_spec.specs.Operands.{as_term, as_variable, pair_of}
use Rattle.stack_machine.specs.Stored.{IsListKnown, list_view, object_view, rank}
use Rattle.stack_machine.proofs.Passing.{handed_on}
use Rattle.stack_machine.proofs.Elements.{none_read, one_read, all_read, other_read, term_pairs_at-push, AreTermPairs-push, none_left}
use Rattle.stack_machine.proofs.store.Store.term_pairs_in.Goals as goal

pub loop-rest-init : goal.loop-rest-init
loop-rest-init c = record {
  list = c.requires;
  pairs = rw c.new-pairs.ensures.items tt;
  read =
      rw c.new-pairs.ensures.items (none_read (pair_of as_variable as_term) _);
}

pub cell-cell-requires : goal.cell-cell-requires
cell-cell-requires c = subst (IsListKnown c.args.self.now) c.in-Cell.is c.loop-rest.invariant.list

pub returns-in_err-pair-clause-refused : goal.returns-in_err-pair-clause-refused
returns-in_err-pair-clause-refused c = handed_on _ _ _ c.from_residual.ensures.1
    (other_read (pair_of as_variable as_term) _ _ _ _ _ (object_view c.args.self.now c.cell-cell.result.head)
    (ap (list_view c.args.self.now) c.in-Cell.is ∙ c.cell-cell.ensures.is) c.in_err-pair.ensures.refused c.loop-rest.invariant.read)

pub loop-rest-smaller : goal.loop-rest-smaller
loop-rest-smaller c = let e = ap rank c.in-Cell.is in omega (arith, e, c.cell-cell.ensures.lower)

pub loop-rest-preserved : goal.loop-rest-preserved
loop-rest-preserved c =
    let pair = c.in_ok-pair.pair in
    record {
      list = c.cell-cell.ensures.tail;
      pairs = rw c.in_ok-push.ensures.items
          (AreTermPairs-push _ _ pair c.loop-rest.invariant.pairs c.in_ok-pair.ensures.known.0 c.in_ok-pair.ensures.known.1.typed);
      read = rw (c.in_ok-push.ensures.items, term_pairs_at-push c.args.self.now.trees c.loop-rest.pairs.items pair)
          (one_read (pair_of as_variable as_term) _ _ _ _ (object_view c.args.self.now c.cell-cell.result.head) _
          (ap (list_view c.args.self.now) c.in-Cell.is ∙ c.cell-cell.ensures.is) c.in_ok-pair.ensures.pair c.loop-rest.invariant.read);
    }

pub returns-clause-pairs : goal.returns-clause-pairs
returns-clause-pairs c = all_read (pair_of as_variable as_term) _ _ _ (ap (list_view c.args.self.now) (none_left c.loop-rest.rest c.in_default.not-Cell))
    c.loop-rest.invariant.read

pub returns-clause-known : goal.returns-clause-known
returns-clause-known c = c.loop-rest.invariant.pairs
