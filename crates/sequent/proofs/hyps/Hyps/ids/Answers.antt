use Rattle.std.proofs.Common.{◌≡◌, []}
use Rattle.sequent.proofs.HypLaws.{none_twice}
use Rattle.sequent.proofs.hyps.Hyps.ids.Goals as goal

pub returns-in-None-clause-no_repeats : goal.returns-in-None-clause-no_repeats
returns-in-None-clause-no_repeats c = none_twice c.args.self.now (cc)
