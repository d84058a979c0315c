use Rattle.std.proofs.Common.{sym, arith}
use Rattle.std.proofs.lemmas.Bool.{eqb-true}
use Rattle.lp_kernel.proofs.Gathered.{awaited-argument}
use Rattle.lp_kernel.proofs.spines.awaited.Goals as goal

pub returns-then-eq-clause-awaited : goal.returns-then-eq-clause-awaited
returns-then-eq-clause-awaited c =
    awaited-argument c.args.base.now c.args.state.now c.args.b c.args.k c.args.g c.in-Pi.a c.in-Pi.c c.in-Function.app c.pop.new.self c.push.new.self
    c.requires.known c.in-Pi.ensures.is (omega (arith, c.in-Pi.ensures.lower.0, c.requires.b))
    (omega (arith, c.in-Pi.ensures.lower.1, c.requires.b)) (eqb-true c.in-Function.app.function.0 c.args.g.0 (sym c.if-eq.ensures))
    (rw c.in-Function.is at c.in-Some.ensures.popped) c.in_ok-push.ensures.pushed
