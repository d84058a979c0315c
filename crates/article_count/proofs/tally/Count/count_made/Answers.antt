use Rattle.std.proofs.Common.{◌+◌, subst, arith}
use Rattle.article_count.specs.StepCounts.{IsNewMade}
use Rattle.article_count.proofs.StepParts.{new-apart}
use Rattle.article_count.proofs.tally.Count.count_made.Goals as goal

pub count_theorem-requires-in-FirstLaw-clause-new : goal.count_theorem-requires-in-FirstLaw-clause-new
count_theorem-requires-in-FirstLaw-clause-new c =
    let keys = c.args.self.now.keys in
    let new = subst (λ k. IsNewMade keys k c.args.id) c.in-FirstLaw.is c.requires.new in
    rw c.count_theorem.ensures.theorem (new-apart c.args.id (c.args.id + 1) 0 keys.things (λ e. omega (arith, e)) new.first)
