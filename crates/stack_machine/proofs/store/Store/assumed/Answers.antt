use Rattle.std.proofs.Common.{◌≡◌, subst}
use Rattle.sequent.specs.Sequents.{sequent_at}
use Rattle.compose.specs.Pools.{steps_in}
use Rattle.stack_machine.specs.Inferring.{first_saying}
use Rattle.stack_machine.proofs.Stated.{found-step}
use Rattle.stack_machine.proofs.store.Store.assumed.Goals as goal

pub first_of-requires-clause-pool : goal.first_of-requires-clause-pool
first_of-requires-clause-pool c = c.self.invariant.assumed

pub returns-clause-first : goal.returns-clause-first
returns-clause-first c = subst (λ m. c.first_of.result ≡ first_saying m (sequent_at m.trees c.args.sequent.now) m.run.assumptions) c.self.view_is
    c.first_of.ensures

pub returns-clause-step : goal.returns-clause-step
returns-clause-step c = rw (← c.self.view_is)
    (found-step c.self.inside.proof.made _ (steps_in c.self.inside.assumptions) _ c.self.invariant.run_known.assumed c.first_of.ensures)
