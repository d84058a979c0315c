use Rattle.std.proofs.Common.{◌≡◌, ◌<◌, length}
use Rattle.lp_term.specs.Tables.{tree_at, Keeps}
use Rattle.dk_read.specs.States.{frames_of, before, head_of, IsSound, Rewinds}
use Rattle.dk_read.proofs.parser.Parser.unwind.Given as goal

abbrev pub invariant-loop-binder : goal.invariant-loop-binder
invariant-loop-binder l = record {
  sound : IsSound l.self;
  keeps : Keeps l.fn.self.module.table l.self.module.table;
  known : l.tree.0 < length l.self.module.table;
  declared : before l.self ≡ before l.fn.self;
  head : head_of l.self ≡ head_of l.fn.self;
  rewinds : Rewinds (frames_of l.fn.self) (tree_at l.fn.self.module.table l.fn.body.0) (frames_of l.self) (tree_at l.self.module.table l.tree.0);
}

abbrev pub decreases-loop-binder : goal.decreases-loop-binder
decreases-loop-binder l = length l.self.frames.items
