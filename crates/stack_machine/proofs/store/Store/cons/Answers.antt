use Rattle.std.proofs.Common.{◌≡◌, ap, subst, sym, ◌∙◌, ◌∷◌, [], ◌++◌, length}
use Rattle.stack_machine.specs.declared.object.Cell.{Cell}
use Rattle.stack_machine.specs.declared.object.List.TheVariants.{Cell as CellOf}
use Rattle.stack_machine.specs.Making.{Run}
use Rattle.stack_machine.specs.Stored.{run_of, stored, list_view, cell_view, IsKnown, IsListKnown}
use Rattle.stack_machine.specs.StoredLaws.{Grows-refl}
use Rattle.stack_machine.proofs.Cells.{pushed-Grows, pushed-AreCells, pushed-known, pushed-list}
use Rattle.stack_machine.proofs.store.Store.cons.Goals as goal

abbrev new_cell : goal.In_ok-push → Cell
new_cell c = record { head = c.args.head; tail = c.args.tail }

abbrev run : goal.In_ok-push → Run
run c = run_of c.self.inside.proof c.self.inside.assumptions c.self.inside.exports c.self.inside.pool

-- the new cell has the next number
next : (c : goal.In_ok-push) → c.len.result ≡ length c.self.inside.cells.items
next c = c.len.ensures ∙ c.self.inside.cells.ok.0

pub invariant_of-self-2 : goal.invariant_of-self-2
invariant_of-self-2 c = record {
  cells_known = rw c.in_ok-push.ensures.items
      (pushed-AreCells c.self.inside.proof.trees c.self.inside.names.items (run c) c.self.inside.cells.items (new_cell c) c.self.invariant.cells_known
      (subst (λ m. IsKnown m c.args.head) (sym c.self.view_is) c.requires.head) (subst (λ m. IsListKnown m c.args.tail) (sym c.self.view_is) c.requires.tail));
  run_known = c.self.invariant.run_known;
  assumed = c.self.invariant.assumed;
  exported = c.self.invariant.exported;
}

pub returns-clause-known : goal.returns-clause-known
returns-clause-known c = rw c.in_ok-push.ensures.items
    (subst (λ n. IsListKnown (stored c.self.inside.proof.trees c.self.inside.names.items (run c) (c.self.inside.cells.items ++ new_cell c ∷ []))
    (CellOf (record { 0 = n }))) (sym (next c))
    (pushed-known c.self.inside.proof.trees c.self.inside.names.items (run c) c.self.inside.cells.items (new_cell c)))

pub returns-clause-made : goal.returns-clause-made
returns-clause-made c = rw (← c.self.view_is, c.in_ok-push.ensures.items)
    (subst (λ n. list_view (stored c.self.inside.proof.trees c.self.inside.names.items (run c) (c.self.inside.cells.items ++ new_cell c ∷ []))
    (CellOf (record { 0 = n })) ≡ cell_view (stored c.self.inside.proof.trees c.self.inside.names.items (run c) c.self.inside.cells.items) (new_cell c))
    (sym (next c)) (pushed-list c.self.inside.proof.trees c.self.inside.names.items (run c) c.self.inside.cells.items (new_cell c)))

pub returns-clause-grows : goal.returns-clause-grows
returns-clause-grows c = rw (← c.self.view_is, c.in_ok-push.ensures.items)
    (pushed-Grows c.self.inside.proof.trees c.self.inside.names.items (run c) c.self.inside.cells.items (new_cell c))

pub invariant_of-self : goal.invariant_of-self
invariant_of-self c = rw c.in_err-push.ensures.items c.self.invariant

pub returns-in_err-push-clause-grows : goal.returns-in_err-push-clause-grows
returns-in_err-push-clause-grows c = rw (← c.self.view_is, c.in_err-push.ensures.items) (Grows-refl _)

pub returns-in_err-push-clause-run : goal.returns-in_err-push-clause-run
returns-in_err-push-clause-run c = ap (λ m. m.run) c.self.view_is

pub returns-clause-run : goal.returns-clause-run
returns-clause-run c = ap (λ m. m.run) c.self.view_is
