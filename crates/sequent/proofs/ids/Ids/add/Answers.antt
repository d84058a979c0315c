use Rattle.sequent.proofs.HypLaws.{no_repeats-add}
use Rattle.sequent.proofs.ids.Ids.add.Goals as goal

pub invariant_of-self-2 : goal.invariant_of-self-2
invariant_of-self-2 c = no_repeats-add c.self.inside.set c.insert_full.new.self c.args.id c.self.invariant c.in_ok-insert_full.ensures.keys
