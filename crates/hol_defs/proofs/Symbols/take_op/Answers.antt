use Rattle.hol_defs.proofs.Symbols.take_op.Goals as goal

pub returns-in_err-types-clause-keeps : goal.returns-in_err-types-clause-keeps
returns-in_err-types-clause-keeps c = c.in_err-types.ensures.keeps

pub returns-in_err-push_op-clause-keeps : goal.returns-in_err-push_op-clause-keeps
returns-in_err-push_op-clause-keeps c = c.in_ok-types.ensures.keeps

pub returns-clause-takes : goal.returns-clause-takes
returns-clause-takes c = record {
  abstraction = c.in_ok-types.types.abs;
  representation = c.in_ok-types.types.rep;
  is = c.in_ok-push_op.ensures.takes;
  constants = c.in_ok-types.ensures.types;
}

pub returns-clause-keeps : goal.returns-clause-keeps
returns-clause-keeps c = c.in_ok-types.ensures.keeps
