use Rattle.decode_back.proofs.TermLemmas.{known-at}
use Rattle.decode_back.proofs.judging.are_formulas.Goals as goal

pub is_formula-requires : goal.is_formula-requires
is_formula-requires c = known-at c.args.table.now c.args.ids.now c.loop-id.id-index _ c.requires c.loop-id-test.true
