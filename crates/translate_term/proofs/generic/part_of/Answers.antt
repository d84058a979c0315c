use Rattle.std.proofs.Common.{arith}
use Rattle.translate_term.proofs.MatchTurns.{Fits-parts}
use Rattle.translate_term.proofs.generic.part_of.Goals as goal

pub returns-then-is_closed_under-clause-part : goal.returns-then-is_closed_under-clause-part
returns-then-is_closed_under-clause-part c =
    rw c.meet.ensures (record {
      pattern = omega (arith, c.requires.pattern, c.in-App.ensures.lower.1);
      instance = omega (arith, c.requires.instance, c.in-App-view.ensures.lower.1);
      fits = λ want f. (Fits-parts want _ c.args.task.pattern c.args.task.instance _ _ _ _ c.in-App.ensures.is c.in-App-view.ensures.is f).1;
    })

pub returns-else-is_closed_under-clause-part : goal.returns-else-is_closed_under-clause-part
returns-else-is_closed_under-clause-part c =
    rw c.meet-else-is_closed_under.ensures (record {
      pattern = omega (arith, c.requires.pattern, c.in-App.ensures.lower.0);
      instance = omega (arith, c.requires.instance, c.in-App-view.ensures.lower.0);
      fits = λ want f. (Fits-parts want _ c.args.task.pattern c.args.task.instance _ _ _ _ c.in-App.ensures.is c.in-App-view.ensures.is f).0;
    })
