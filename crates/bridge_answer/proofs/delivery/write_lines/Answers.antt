use Rattle.std.proofs.Common.{◌≡◌, ◌≤◌, ◌-◌, length, take, drop, arith}
use Rattle.std.proofs.lemmas.Grind.{common_steps}
use Rattle.bridge_base.specs.Gaining.{gains_more}
use Rattle.bridge_answer.proofs.Fronts.{front_on, on_err}
use Rattle.bridge_answer.proofs.delivery.write_lines.Goals as goal

pub returns-in_err-write_all-clause-err : goal.returns-in_err-write_all-clause-err
returns-in_err-write_all-clause-err g c =
    let rest : take (length c.args.text.now - c.loop-written.written) (drop c.loop-written.written c.args.text.now)
    ≡ drop c.loop-written.written c.args.text.now = grind (arith, common_steps) in
    on_err c.from_residual.result (front_on _ _ _ c.args.text.now c.loop-written.written c.line_length-line.result c.loop-written.invariant.gained
    (rw rest at c.in_err-write_all.ensures.err))

pub loop-written-preserved : goal.loop-written-preserved
loop-written-preserved g c =
    let rest : take (length c.args.text.now - c.loop-written.written) (drop c.loop-written.written c.args.text.now)
    ≡ drop c.loop-written.written c.args.text.now = grind (arith, common_steps) in
    record {
      within = (let h : c.line_length-line.result ≤ length (drop c.loop-written.written c.args.text.now) =
          rw rest at c.line_length-line.ensures.within in grind (arith, common_steps));
      gained = gains_more _ _ _ c.args.text.now c.loop-written.written c.line_length-line.result c.loop-written.invariant.gained
          (rw rest at c.in_ok-write_all.ensures.ok);
      later = omega (arith, c.in_ok-write_all.ensures.cause.later);
    }
