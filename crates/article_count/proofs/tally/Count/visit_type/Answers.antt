use Rattle.article_count.proofs.TypeWalks.{told-IsTypeWalk, visit-less}
use Rattle.article_count.proofs.tally.Count.visit_type.Goals as goal

pub returns-in-Some-clause-walks : goal.returns-in-Some-clause-walks
returns-in-Some-clause-walks c steps final walk = rw c.in-Some.ensures.told (told-IsTypeWalk c.args.id c.in-Some.field-0 c.in-Some.ensures.length walk)

pub returns-in-Some-clause-less : goal.returns-in-Some-clause-less
returns-in-Some-clause-less c = visit-less c.args.terms.now c.args.id c.args.tasks.now
