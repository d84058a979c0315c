use Rattle.std.proofs.Common.{arith}
use Rattle.std.proofs.lemmas.Result.{on_ok_weaker}
use Rattle.article_count.proofs.TermWalks.{known-IsTermWalk, visit-term-less}
use Rattle.article_count.proofs.terms.TermCount.visit_term.Goals as goal

pub returns-in-Some-clause-walks : goal.returns-in-Some-clause-walks
returns-in-Some-clause-walks c = on_ok_weaker c.push.result
    (λ pushed steps q final walk.
    known-IsTermWalk c.known.new.self c.args.place c.in-Some.length c.push.new.self c.in-Some.ensures.counted pushed c.in-Some.ensures.closed
    c.in-Some.ensures.noted (omega arith) walk)
    c.push.ensures.pushed

pub returns-in-Some-clause-less : goal.returns-in-Some-clause-less
returns-in-Some-clause-less c = on_ok_weaker c.push.result (λ pushed. visit-term-less c.args.terms.now c.args.place c.args.walk.now.tasks) c.push.ensures.pushed
