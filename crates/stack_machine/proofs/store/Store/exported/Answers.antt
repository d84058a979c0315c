use Rattle.std.proofs.Common.{◌≡◌, subst, take}
use Rattle.sequent.specs.Sequents.{sequent_at}
use Rattle.compose.specs.Pools.{steps_in}
use Rattle.stack_machine.specs.Inferring.{first_saying}
use Rattle.stack_machine.proofs.Stated.{AreSteps-take, found-step}
use Rattle.stack_machine.proofs.store.Store.exported.Goals as goal

pub first_among-requires-clause-pool : goal.first_among-requires-clause-pool
first_among-requires-clause-pool c = c.self.invariant.exported

pub returns-clause-first : goal.returns-clause-first
returns-clause-first c = subst (λ m. c.first_among.result ≡ first_saying m (sequent_at m.trees c.args.sequent.now) m.run.pool) c.self.view_is
    c.first_among.ensures

pub returns-clause-step : goal.returns-clause-step
returns-clause-step c = rw (← c.self.view_is)
    (found-step c.self.inside.proof.made _ (take c.self.inside.pool (steps_in c.self.inside.exports)) _
    (AreSteps-take c.self.inside.proof.made c.self.inside.pool (steps_in c.self.inside.exports) c.self.invariant.run_known.exported) c.first_among.ensures)
