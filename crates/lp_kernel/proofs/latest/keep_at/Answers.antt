use Rattle.std.proofs.Common.{arith, inl}
use Rattle.lp_kernel.proofs.LatestLaws.{only-append, only-set}
use Rattle.lp_kernel.proofs.NotedLaws.{slice_get-set}
use Rattle.lp_kernel.proofs.latest.keep_at.Goals as goal

pub loop-kept-init : goal.loop-kept-init
loop-kept-init c = λ p f h. inl h

pub loop-kept-preserved : goal.loop-kept-preserved
loop-kept-preserved c = only-append c.args.kept.now.items c.loop-kept.kept.items c.push.new.self.items c.args.finding c.loop-kept.invariant
    c.in_ok-push.ensures.items

pub returns-clause-kept : goal.returns-clause-kept
returns-clause-kept c = slice_get-set c.loop-kept.kept.items c.args.place c.args.finding (omega (arith, c.loop-kept-test.false))

pub returns-clause-only : goal.returns-clause-only
returns-clause-only c = only-set c.args.kept.now.items c.loop-kept.kept.items c.args.place c.args.finding c.loop-kept.invariant
    (omega (arith, c.loop-kept-test.false))
