use Rattle.hol_defs.specs.Symbols.{named}
use Rattle.stack_machine.proofs.Stated.{InfersTwo-memory}
use Rattle.stack_machine.proofs.Defined.{DefinesType-IsStore, DefinesType-InfersTwo}
use Rattle.stack_machine.proofs.DefiningRules.{type_laws-no_step}
use Rattle.stack_machine.proofs.Inferred.{step-there}
use Rattle.stack_machine.proofs.store.Store.define_type_op.Goals as goal

pub returns-in_err-op : goal.returns-in_err-op
returns-in_err-op c = InfersTwo-memory _ c.from_residual.ensures.1

pub returns-in_err-abs : goal.returns-in_err-abs
returns-in_err-abs c = InfersTwo-memory _ c.from_residual-in_err-abs.ensures.1

pub returns-in_err-rep : goal.returns-in_err-rep
returns-in_err-rep c = InfersTwo-memory _ c.from_residual-in_err-rep.ensures.1

pub define_type_op-requires : goal.define_type_op-requires
define_type_op-requires c = step-there c.self.invariant c.self.view_is c.requires.one

pub invariant_of-self : goal.invariant_of-self
invariant_of-self c = DefinesType-IsStore c.define_type_op.ensures
    (type_laws-no_step c.args.version c.self.inside.proof.made (named c.in_ok-op.op c.in_ok-abs.abs c.in_ok-rep.rep c.args.variables.now) c.args.one)
    c.self.invariant

pub returns : goal.returns
returns c = rw (← c.in_ok-op.ensures, ← c.in_ok-abs.ensures, ← c.in_ok-rep.ensures, ← c.self.view_is)
    (DefinesType-InfersTwo c.define_type_op.ensures
    (type_laws-no_step c.args.version c.self.inside.proof.made (named c.in_ok-op.op c.in_ok-abs.abs c.in_ok-rep.rep c.args.variables.now) c.args.one)
    c.self.invariant)
