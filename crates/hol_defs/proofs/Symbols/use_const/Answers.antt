use Rattle.std.proofs.Common.{sym}
use Rattle.hol_defs.proofs.Symbols.use_const.Goals as goal

pub fits-requires-clause-generic : goal.fits-requires-clause-generic
fits-requires-clause-generic c = rw c.types.ensures.types (c.in-Some.ensures.known c.args.table.now c.requires.known)

pub returns-in_ok-use_input-in-None-clause-takes : goal.returns-in_ok-use_input-in-None-clause-takes
returns-in_ok-use_input-in-None-clause-takes c = c.in_ok-use_input-in-None.ensures.takes c.args.table.now
    (sym (c.in-None.ensures.tells c.args.table.now c.requires.known))

pub returns-in_ok-use_input-in-None-clause-fits : goal.returns-in_ok-use_input-in-None-clause-fits
returns-in_ok-use_input-in-None-clause-fits c = rw (← c.in-None.ensures.tells c.args.table.now c.requires.known) tt

pub returns-in_ok-use_input-in-None-clause-known : goal.returns-in_ok-use_input-in-None-clause-known
returns-in_ok-use_input-in-None-clause-known c = c.in_ok-use_input-in-None.ensures.known c.args.table.now c.requires.known
