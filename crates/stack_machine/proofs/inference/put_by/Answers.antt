use Rattle.std.proofs.Common.{subst, sym}
use Rattle.stack_machine.specs.Putting.{IsPutBy}
use Rattle.stack_machine.proofs.inference.put_by.Goals as goal

pub returns-in-Some : goal.returns-in-Some
returns-in-Some c = record {
  put = subst (IsPutBy c.args.store.now c.args.lists) (sym c.in_ok-again.ensures) (c.in-Some.ensures c.args.store.now c.requires.remembered);
  refused = tt;
  remembered = c.requires.remembered;
}
