use Rattle.std.proofs.Common.{ℕ, ◌<◌, ◌≤◌, ◌⊎◌, inl, inr, ap, sym, ◌∙◌, length, arith}
use Rattle.std.proofs.lemmas.Bool.{leb-true, le-leb}
use Rattle.stack_machine.proofs.Cells.{length-stored}
use Rattle.stack_machine.proofs.store.Store.is_crowded.Goals as goal
use Rattle.stack_machine.proofs.store.Store.is_crowded.Goals.{then-count-ge-FLOOR, else-count-ge-FLOOR}

-- what is below one of two numbers is not both as great as the one and as the other
below : (n objects : ℕ) → ((4096 ≤ n) × (n < objects)) ⊎ (n < 4096) → 4096 ≤ n → objects ≤ n → ⊥
below n objects (inl e) many as_many = omega (arith, e.1, as_many)
below n objects (inr e) many as_many = omega (arith, e, many)

pub returns-then-count-objects : goal.returns-then-count-objects
returns-then-count-objects c =
    let names = c.len.ensures ∙ c.self.inside.names.ok.0 ∙ ap (λ m. length m.names) c.self.view_is in
    let cells = c.len-2.ensures ∙ c.self.inside.cells.ok.0 ∙ sym (length-stored _ _ _ c.self.inside.cells.items) ∙ ap (λ m. length m.lists) c.self.view_is in
    let both = c.if-count-objects.true in (
      λ e. record {
        many = omega (arith, names, cells, both.0);
        as_many = omega (arith, names, cells, both.1);
        twice = omega (arith, names, cells, leb-true _ _ e);
      },
      λ k. le-leb _ _ (omega (arith, names, cells, k.twice)),
    )

pub returns-else-count-objects : goal.returns-else-count-objects
returns-else-count-objects c =
    let names = c.len.ensures ∙ c.self.inside.names.ok.0 ∙ ap (λ m. length m.names) c.self.view_is in
    let cells = c.len-2.ensures ∙ c.self.inside.cells.ok.0 ∙ sym (length-stored _ _ _ c.self.inside.cells.items) ∙ ap (λ m. length m.lists) c.self.view_is in
    let few = c.if-count-objects.either in (
      λ e. absurd (elim c.if-count-ge-FLOOR.branch [
        | then-count-ge-FLOOR w ↦ below _ _ few w.if-count-ge-FLOOR.true (leb-true _ _ (sym w.t-10-is ∙ e))
        | else-count-ge-FLOOR w ↦ omega (arith, w.if-count-ge-FLOOR.false, leb-true _ _ (sym w.t-10-is ∙ e))
      ]),
      λ k. absurd (below _ _ few (omega (arith, names, cells, k.many)) (omega (arith, names, cells, k.as_many))),
    )
