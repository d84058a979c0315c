use Rattle.std.proofs.Common.{refl}
use Rattle.article_write_spec.specs.Lengths.{add}
use Rattle.article_count.proofs.Tallies.{added-IsTally}
use Rattle.article_count.proofs.tally.Count.count_variable.Goals as goal

pub count_type-requires-clause-count : goal.count_type-requires-clause-count
count_type-requires-clause-count c =
    let r = c.requires.count in
    rw c.add.ensures (r.0, add c.args.name r.1, added-IsTally c.args.name c.args.name refl r.2)
