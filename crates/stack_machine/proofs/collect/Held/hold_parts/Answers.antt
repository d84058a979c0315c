use Rattle.std.proofs.Common.{◌≡◌, ◌+◌, ◌-◌, ◌<◌, length, arith, Some, ap, subst, sym, ◌∙◌}
use Rattle.std.proofs.lemmas.Option.{slice_get-get_or}
use Rattle.stack_machine.specs.Collecting.{AreBefore, IsClosedFrom}
use Rattle.stack_machine.proofs.Holdings.{HoldsMore-refl, HoldsMore-trans, closed_none, closed_past, more_parts, closed_more, no_more_parts}
use Rattle.stack_machine.proofs.collect.Held.hold_parts.Goals as goal

pub loop-i-preserved-then-has_cell : goal.loop-i-preserved-then-has_cell
loop-i-preserved-then-has_cell c =
    let more = c.loop-i.invariant.more in
    let next : c.loop-i.i ≡ c.loop-i.i - 1 + 1 = omega arith in
    let here : c.loop-i.i - 1 < length c.args.cells.now = omega arith in
    record {
      within = omega arith;
      more = rw c.hold_cell.ensures (HoldsMore-trans more (more_parts c.loop-i.self _));
      closed = rw c.hold_cell.ensures
          (closed_more c.loop-i.self c.args.cells.now (c.loop-i.i - 1) _ (slice_get-get_or _ _ _ here)
          (subst (λ n. AreBefore n c.args.cells.now) (sym more.name_count) c.requires.before) (more.cell_count ∙ c.requires.count)
          (subst (λ n. IsClosedFrom n c.loop-i.self c.args.cells.now) next c.loop-i.invariant.closed));
      least = λ k m closed. rw c.hold_cell.ensures
          (no_more_parts k c.args.cells.now closed (c.loop-i.i - 1) _ (slice_get-get_or _ _ _ here) c.loop-i.self
          (c.has_cell.ensures ∙ ap Some c.if-has_cell.true) (c.loop-i.invariant.least k m closed));
    }

pub loop-i-init : goal.loop-i-init
loop-i-init c = record { within = omega arith; more = HoldsMore-refl _; closed = closed_none _ _; least = λ k m closed. m }

pub loop-i-preserved : goal.loop-i-preserved
loop-i-preserved c =
    let next : c.loop-i.i ≡ c.loop-i.i - 1 + 1 = omega arith in
    record {
      within = omega arith;
      more = c.loop-i.invariant.more;
      closed = closed_past c.loop-i.self c.args.cells.now (c.loop-i.i - 1) (c.has_cell.ensures ∙ ap Some c.if-has_cell.false)
          (subst (λ n. IsClosedFrom n c.loop-i.self c.args.cells.now) next c.loop-i.invariant.closed);
      least = c.loop-i.invariant.least;
    }

pub returns-clause-closed : goal.returns-clause-closed
returns-clause-closed c = let none : c.loop-i.i ≡ 0 = omega arith in subst (λ n. IsClosedFrom n c.loop-i.self c.args.cells.now) none c.loop-i.invariant.closed
