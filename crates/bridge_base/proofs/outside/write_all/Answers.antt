use Rattle.std.proofs.Common.{◌≡◌, ◌-◌, length, take, drop, arith}
use Rattle.std.proofs.lemmas.Grind.{common_steps}
use Rattle.bridge_base.specs.Gaining.{gains_more}
use Rattle.bridge_base.proofs.outside.write_all.Goals as goal

pub loop-written-preserved : goal.loop-written-preserved
loop-written-preserved g c =
    let rest : take (length c.args.piece.now - c.loop-written.written) (drop c.loop-written.written c.args.piece.now)
    ≡ drop c.loop-written.written c.args.piece.now = grind (arith, common_steps) in
    record {
      within = grind (arith, common_steps, c.in_ok-written.ensures.bound);
      gained = gains_more _ _ _ c.args.piece.now c.loop-written.written c.in_ok-written.field-0 c.loop-written.invariant.gained
          (rw rest at c.in_ok-written.ensures.bytes);
      later = omega (arith, c.in_ok-written.ensures.cause.later);
    }
