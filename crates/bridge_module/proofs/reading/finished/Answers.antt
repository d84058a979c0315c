use Rattle.std.proofs.Common.{sym, subst}
use Rattle.holide_sig.specs.Modules.{declarations_of}
use Rattle.bridge_module.specs.Stops.{StopsText}
use Rattle.bridge_module.proofs.Readings.{ended_well, ended_badly}
use Rattle.bridge_module.proofs.reading.finished.Goals as goal

pub returns-in-Ok : goal.returns-in-Ok
returns-in-Ok c told h =
    let ends = c.in-Ok.ensures.ends h.text h.fed in
    (ended_well _ _ h (declarations_of c.in-Ok.module) (c.in-Ok.ensures.reads h.text h.fed), ends.1, ends.2)

pub returns-in-Err : goal.returns-in-Err
returns-in-Err c told h =
    (subst (StopsText told) (sym c.stop_of.ensures.stop) (ended_badly _ _ h c.in-Err.fault (c.in-Err.ensures.ends h.text h.fed)), c.stop_of.ensures.own)
