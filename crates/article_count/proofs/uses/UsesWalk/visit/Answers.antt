use Rattle.std.proofs.Common.{ap, refl, sym}
use Rattle.std.proofs.lemmas.Result.{on_ok_weaker}
use Rattle.article_write_spec.specs.Lengths.{capped}
use Rattle.article_lines.specs.Greatest.{greatest_length}
use Rattle.article_count.proofs.UsesWalks.{made-IsUsesWalk, uses_at-none, visit-uses-less}
use Rattle.article_count.proofs.uses.UsesWalk.visit.Goals as goal

pub returns-then-loose-place-clause-sums : goal.returns-then-loose-place-clause-sums
returns-then-loose-place-clause-sums c = on_ok_weaker c.push.result
    (λ pushed root walk.
    let trees = c.args.terms.now in
    let none = uses_at-none trees c.args.loose.now c.args.place _ c.requires.loose walk.ends.0 refl c.if-loose-place.true in
    made-IsUsesWalk _ c.args.place 0 (ap (capped greatest_length) (sym none)) pushed refl walk)
    c.push.ensures.pushed

pub returns-then-loose-place-clause-less : goal.returns-then-loose-place-clause-less
returns-then-loose-place-clause-less c = on_ok_weaker c.push.result (λ pushed. visit-uses-less c.args.terms.now c.args.place c.args.self.now.tasks)
    c.push.ensures.pushed

pub returns-in-Some-clause-sums : goal.returns-in-Some-clause-sums
returns-in-Some-clause-sums c = on_ok_weaker c.push-in-Some.result
    (λ pushed root walk. made-IsUsesWalk _ c.args.place c.in-Some.sum (walk.noted c.args.place c.in-Some.sum c.in-Some.ensures.noted) pushed refl walk)
    c.push-in-Some.ensures.pushed

pub returns-in-Some-clause-less : goal.returns-in-Some-clause-less
returns-in-Some-clause-less c = on_ok_weaker c.push-in-Some.result (λ pushed. visit-uses-less c.args.terms.now c.args.place c.args.self.now.tasks)
    c.push-in-Some.ensures.pushed
