use Rattle.std.proofs.Common.{refl, sym, arith}
use Rattle.stack_machine.proofs.Kept.{numbered_more, numbered_all}
use Rattle.stack_machine.proofs.collect.numbers_of.Goals as goal
use Rattle.stack_machine.proofs.collect.numbers_of.Goals.{then-flag, else-flag}

pub loop-flag-init : goal.loop-flag-init
loop-flag-init c = record { before = omega arith; numbered = rw c.in_ok-numbers.ensures.items refl }

pub loop-flag-preserved : goal.loop-flag-preserved
loop-flag-preserved c = elim c.if-flag.branch [
  | then-flag w ↦ record {
    before = omega arith;
    numbered =
        numbered_more c.args.flags.now _ _ _ c.loop-flag.flag-index c.loop-flag.next c.if-flag.next c.loop-flag-test.true (rw w.if-flag.true (sym w.next-is))
        c.in_ok-push.ensures.items c.loop-flag.invariant.numbered;
  }
  | else-flag w ↦ record {
    before = omega arith;
    numbered =
        numbered_more c.args.flags.now _ _ _ c.loop-flag.flag-index c.loop-flag.next c.if-flag.next c.loop-flag-test.true (rw w.if-flag.false (sym w.next-is))
        c.in_ok-push.ensures.items c.loop-flag.invariant.numbered;
  }
]

pub returns : goal.returns
returns c = numbered_all c.args.flags.now _ _ c.loop-flag.flag-index c.loop-flag.next c.loop-flag-test.false c.loop-flag.invariant.numbered
