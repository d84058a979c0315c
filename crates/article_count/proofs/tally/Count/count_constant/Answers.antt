use Rattle.std.proofs.Common.{refl}
use Rattle.article_write_spec.specs.Lengths.{add}
use Rattle.article_count.proofs.Tallies.{added-IsTally}
use Rattle.article_count.proofs.tally.Count.count_constant.Goals as goal

pub count_type-requires-clause-count : goal.count_type-requires-clause-count
count_type-requires-clause-count c =
    let r = c.requires.count in
    rw (c.add-2.ensures, c.add.ensures) (
      r.0,
      add c.word_length.result (add c.name_length.result r.1),
      added-IsTally c.word_length.result c.word_length.result refl (added-IsTally c.name_length.result c.name_length.result refl r.2),
    )
