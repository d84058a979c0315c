use Rattle.std.proofs.Common.{sym}
use Rattle.hol_defs.specs.Symbols.{symbols_at}
use Rattle.hol_defs.proofs.UseLaws.{settled}
use Rattle.hol_defs.proofs.Symbols.use_op.Goals as goal

pub returns-then-own-arity-clause-takes : goal.returns-then-own-arity-clause-takes
returns-then-own-arity-clause-takes c = λ trees. settled (symbols_at trees c.args.self.now) c.args.name.now c.in-Some.own c.args.arity
    (sym (c.in-Some.ensures trees))

pub returns-then-own-arity-clause-fits : goal.returns-then-own-arity-clause-fits
returns-then-own-arity-clause-fits c = λ trees. rw (← c.in-Some.ensures trees) (sym c.if-own-arity.true)

pub returns-else-own-arity-clause-refusal : goal.returns-else-own-arity-clause-refusal
returns-else-own-arity-clause-refusal c = λ trees. rw (← c.in-Some.ensures trees) (λ e. c.if-own-arity.false (sym e))

pub returns-in_ok-use_input_operator-in-None-clause-takes : goal.returns-in_ok-use_input_operator-in-None-clause-takes
returns-in_ok-use_input_operator-in-None-clause-takes c = λ trees. c.in_ok-use_input_operator-in-None.ensures.takes trees (sym (c.in-None.ensures trees))

pub returns-in_ok-use_input_operator-in-None-clause-fits : goal.returns-in_ok-use_input_operator-in-None-clause-fits
returns-in_ok-use_input_operator-in-None-clause-fits c = λ trees. rw (← c.in-None.ensures trees) tt
