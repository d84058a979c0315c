use Rattle.std.proofs.Common.{◌≡◌, ◌≤◌, ◌++◌}
use Rattle.lp_spec.specs.Text.{tree_text}
use Rattle.holide_sig.specs.Modules.{declarations_of}
use Rattle.dk_write.specs.Nodes.{written_tree}
use Rattle.dk_write.specs.Paths.{IsTurn, AreFrames, left_text, work}
use Rattle.dk_write.specs.Writing.{Gained}
use Rattle.dk_write.proofs.tree.write_tree.Given as goal

-- what is left are the bytes gathered and what the turn and the frames write
abbrev pub invariant-loop-turn : goal.invariant-loop-turn
invariant-loop-turn g l = record {
  turn : IsTurn l.frames.room l.source l.before l.frames.frames l.turn;
  frames : AreFrames l.frames.room l.source.table l.frames.frames;
  text : Gained (g.S.Sink.got l.fn.sink) (l.fn.gathered ++ tree_text (declarations_of l.fn.source) 0 (written_tree l.fn.source l.fn.before l.fn.id))
      (l.gathered ++ left_text l.source l.before l.turn l.frames.frames) (g.S.Sink.got l.sink);
  room : l.frames.room ≡ l.fn.frames.room;
  later : g.S.Sink.faults l.fn.sink ≤ g.S.Sink.faults l.sink;
}

abbrev pub decreases-loop-turn : goal.decreases-loop-turn
decreases-loop-turn g l = work l.source.table l.turn l.frames.frames
