use Rattle.std.proofs.Common.{◌≡◌, Ok, Err, sym, ap, subst, arith}
use Rattle.std.proofs.lemmas.Grind.{common_steps}
use Rattle.article_read.specs.Reading.{EndsWith}
use Rattle.article_spec.specs.Run.{machine, obey_all}
use Rattle.bridge_reading.specs.Halts.{Halts, HaltsText}
use Rattle.bridge_reading.proofs.Outcomes.{handed_on}
use Rattle.bridge_reading.proofs.Readings.{IsRead, none_read, piece_read, piece_obeyed, piece_halted, piece_faulty, last_obeyed, last_halted, last_faulty}
use Rattle.bridge_reading.proofs.reading.read_lines.Goals as goal

pub loop-count-init : goal.loop-count-init
loop-count-init g c = record {
  count = grind (arith, common_steps);
  told = grind (arith, common_steps);
  begun = grind (arith, common_steps);
  within = grind (arith, common_steps);
  read = subst (IsRead (g.H.Shelf.left c.args.shelf.now) (g.H.Shelf.left c.args.shelf.now) c.args.machine.now c.args.machine.now) (sym c.requires)
      (none_read (g.H.Shelf.left c.args.shelf.now) c.args.machine.now);
}

pub loop-count-preserved : goal.loop-count-preserved
loop-count-preserved g c = record {
  count = grind (arith, common_steps);
  told = grind (arith, common_steps);
  begun = grind (arith, common_steps);
  within = c.in_default.ensures.within;
  read = piece_obeyed _ (g.H.Shelf.left c.read.new.self) c.args.machine.now c.loop-count.machine c.run_all.new.machine c.feed-fed.new.self
      c.feed-fed.new.out.items
      (piece_read _ _ _ c.args.machine.now c.loop-count.machine c.loop-count.lines c.feed-fed.new.self _ c.clear.new.self.items c.feed-fed.new.out.items
      c.loop-count.invariant.read c.of_bytes.ensures c.in-Ok.ensures.bytes c.clear.ensures.items c.feed-fed.ensures.feeds)
      (subst (λ commands. obey_all machine c.loop-count.machine commands ≡ Ok c.run_all.new.machine) c.deref.ensures.value c.in_ok-run_all.ensures.obeyed);
}

pub returns-in_err-run_all-clause-refused : goal.returns-in_err-run_all-clause-refused
returns-in_err-run_all-clause-refused g c =
    handed_on c.from_residual.result c.in_err-run_all.field-0.0 (λ why. HaltsText why (g.H.Shelf.left c.args.shelf.now) c.args.machine.now)
    c.from_residual.ensures.1
    (piece_halted _ (g.H.Shelf.left c.read.new.self) c.args.machine.now c.loop-count.machine c.feed-fed.new.self c.feed-fed.new.out.items
    c.in_err-run_all.field-0.0
    (piece_read _ _ _ c.args.machine.now c.loop-count.machine c.loop-count.lines c.feed-fed.new.self _ c.clear.new.self.items c.feed-fed.new.out.items
    c.loop-count.invariant.read c.of_bytes.ensures c.in-Ok.ensures.bytes c.clear.ensures.items c.feed-fed.ensures.feeds)
    (subst (λ commands. Halts c.in_err-run_all.field-0.0 (obey_all machine c.loop-count.machine commands)) c.deref.ensures.value
    c.in_err-run_all.ensures.halted))

pub returns-in-Err-fed-clause-refused : goal.returns-in-Err-fed-clause-refused
returns-in-Err-fed-clause-refused g c =
    subst (λ why. HaltsText why (g.H.Shelf.left c.args.shelf.now) c.args.machine.now) (sym c.halt_of.ensures.halt)
    (piece_faulty _ (g.H.Shelf.left c.read.new.self) c.args.machine.now c.loop-count.machine c.run_all.new.machine c.feed-fed.new.self c.feed-fed.new.out.items
    c.in-Err-fed.fault
    (piece_read _ _ _ c.args.machine.now c.loop-count.machine c.loop-count.lines c.feed-fed.new.self _ c.clear.new.self.items c.feed-fed.new.out.items
    c.loop-count.invariant.read c.of_bytes.ensures c.in-Ok.ensures.bytes c.clear.ensures.items c.feed-fed.ensures.feeds)
    (subst (λ commands. obey_all machine c.loop-count.machine commands ≡ Ok c.run_all.new.machine) c.deref.ensures.value c.in_ok-run_all.ensures.obeyed)
    c.in-Err-fed.ensures.answer)

pub returns-in_err-run_all-2-clause-refused : goal.returns-in_err-run_all-2-clause-refused
returns-in_err-run_all-2-clause-refused g c =
    handed_on c.from_residual-in_err-run_all-2.result c.in_err-run_all-2.field-0.0 (λ why. HaltsText why (g.H.Shelf.left c.args.shelf.now) c.args.machine.now)
    c.from_residual-in_err-run_all-2.ensures.1
    (last_halted _ (g.H.Shelf.left c.loop-count.shelf) c.args.machine.now c.loop-count.machine c.loop-count.lines c.finish-ended.new.out.items
    c.finish-ended.result c.in_err-run_all-2.field-0.0 c.loop-count.invariant.read
    (let z : c.in-Ok.count ≡ 0 = grind (arith, common_steps) in c.in-Ok.ensures.end (ap Ok z) (grind (arith, common_steps)))
    (subst (λ cleared. EndsWith c.loop-count.lines cleared c.finish-ended.new.out.items c.finish-ended.result) c.clear-2.ensures.items
    c.finish-ended.ensures.ends)
    (subst (λ commands. Halts c.in_err-run_all-2.field-0.0 (obey_all machine c.loop-count.machine commands)) c.deref-2.ensures.value
    c.in_err-run_all-2.ensures.halted))

pub returns-in-Ok-ended-clause-read : goal.returns-in-Ok-ended-clause-read
returns-in-Ok-ended-clause-read g c =
    last_obeyed _ (g.H.Shelf.left c.loop-count.shelf) c.args.machine.now c.loop-count.machine c.run_all-2.new.machine c.loop-count.lines
    c.finish-ended.new.out.items c.in-Ok-ended.field-0 c.loop-count.invariant.read
    (let z : c.in-Ok.count ≡ 0 = grind (arith, common_steps) in c.in-Ok.ensures.end (ap Ok z) (grind (arith, common_steps)))
    (subst (λ cleared. EndsWith c.loop-count.lines cleared c.finish-ended.new.out.items (Ok c.in-Ok-ended.field-0)) c.clear-2.ensures.items
    c.in-Ok-ended.ensures.ends)
    (subst (λ commands. obey_all machine c.loop-count.machine commands ≡ Ok c.run_all-2.new.machine) c.deref-2.ensures.value c.in_ok-run_all-2.ensures.obeyed)

pub returns-in-Err-ended-clause-refused : goal.returns-in-Err-ended-clause-refused
returns-in-Err-ended-clause-refused g c =
    subst (λ why. HaltsText why (g.H.Shelf.left c.args.shelf.now) c.args.machine.now) (sym c.halt_of-in-Err-ended.ensures.halt)
    (last_faulty _ (g.H.Shelf.left c.loop-count.shelf) c.args.machine.now c.loop-count.machine c.run_all-2.new.machine c.loop-count.lines
    c.finish-ended.new.out.items c.in-Err-ended.fault c.loop-count.invariant.read
    (let z : c.in-Ok.count ≡ 0 = grind (arith, common_steps) in c.in-Ok.ensures.end (ap Ok z) (grind (arith, common_steps)))
    (subst (λ cleared. EndsWith c.loop-count.lines cleared c.finish-ended.new.out.items (Err c.in-Err-ended.fault)) c.clear-2.ensures.items
    c.in-Err-ended.ensures.ends)
    (subst (λ commands. obey_all machine c.loop-count.machine commands ≡ Ok c.run_all-2.new.machine) c.deref-2.ensures.value c.in_ok-run_all-2.ensures.obeyed))
