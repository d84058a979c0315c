use Rattle.std.proofs.Common.{ap, ◌∙◌}
use Rattle.std.specs.Option.{option_or}
use Rattle.sequent.specs.Sequents.{sequent_at}
use Rattle.stack_machine.specs.Inferring.{first_saying}
use Rattle.stack_machine.proofs.store.Store.known.Goals as goal

pub returns-in-Some-clause-first : goal.returns-in-Some-clause-first
returns-in-Some-clause-first c =
    let m = c.args.self.now in
    let q = sequent_at m.trees c.args.sequent.now in
    ap (λ o. option_or o (first_saying m q m.run.assumptions)) c.in-Some.ensures.first

pub returns-in-None-clause-first : goal.returns-in-None-clause-first
returns-in-None-clause-first c =
    let m = c.args.self.now in
    let q = sequent_at m.trees c.args.sequent.now in
    c.assumed.ensures.first ∙ ap (λ o. option_or o (first_saying m q m.run.assumptions)) c.in-None.ensures.first
