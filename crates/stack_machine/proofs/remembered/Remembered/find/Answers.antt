use Rattle.stack_machine.specs.Putting.{IsPutBy}
use Rattle.stack_machine.proofs.PutAgain.{borrowed, found-put}
use Rattle.stack_machine.proofs.remembered.Remembered.find.Goals as goal

pub returns : goal.returns
returns c m h = borrowed (IsPutBy m c.args.lists) c.get.result
    (found-put m c.args.lists c.self.inside.puts.entries _ c.get.ensures.value (rw (← c.self.view_is) at h))
