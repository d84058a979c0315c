use Rattle.std.proofs.lemmas.Result.{on_ok_weaker, on_err_weaker}
use Rattle.dk_write.proofs.GainedLaws.{gained_whole, gained_front, on_err}
use Rattle.dk_write.proofs.write_by.Goals as goal

pub returns-in_err-write_declaration-clause-err : goal.returns-in_err-write_declaration-clause-err
returns-in_err-write_declaration-clause-err g c = on_err _ (rw c.forget.ensures at c.in_err-write_declaration.ensures.writes.err)

pub returns-clause-ok : goal.returns-clause-ok
returns-clause-ok g c =
    let before = rw c.forget.ensures at c.in_ok-write_declaration.ensures.writes.ok in
    on_ok_weaker _ (gained_whole _ _ _ _ _ before) c.flush.ensures.ok

pub returns-clause-err : goal.returns-clause-err
returns-clause-err g c =
    let before = rw c.forget.ensures at c.in_ok-write_declaration.ensures.writes.ok in
    on_err_weaker _ (gained_front _ _ _ _ _ before) c.flush.ensures.err
