use Rattle.sequent.proofs.HypLaws.{none_twice}
use Rattle.sequent.proofs.ids.Ids.new.Goals as goal

pub invariant_of-result : goal.invariant_of-result
invariant_of-result c = none_twice c.new.result c.new.ensures.empty
