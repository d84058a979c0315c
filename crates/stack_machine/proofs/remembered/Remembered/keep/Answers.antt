use Rattle.std.proofs.Common.{subst, sym}
use Rattle.stack_machine.specs.Putting.{IsPutBy}
use Rattle.stack_machine.proofs.PutAgain.{kept-remembered}
use Rattle.stack_machine.proofs.remembered.Remembered.keep.Goals as goal

pub returns : goal.returns
returns c m h put = rw c.in_ok-insert.ensures.entries
    (kept-remembered m c.args.lists c.in_ok-own.own c.self.inside.puts.entries (rw (← c.self.view_is) at h)
    (subst (IsPutBy m c.args.lists) (sym c.in_ok-own.ensures) put))
