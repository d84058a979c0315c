use Rattle.std.proofs.Common.{◌≡◌, ◌≤◌, length, map, drop}
use Rattle.article_spec.specs.DefiningWords.{constant_objects}
use Rattle.stack_machine.specs.Stored.{Grows, IsListKnown, list_view}
use Rattle.stack_machine.proofs.store.Store.constants_of.Given as goal

abbrev pub invariant-loop-left : goal.invariant-loop-left
invariant-loop-left l = record {
  within : l.left ≤ length l.pairs;
  known : IsListKnown l.self l.list;
  made : list_view l.self l.list ≡ constant_objects (map (λ p. p.0) (drop l.left l.pairs));
  grows : Grows l.fn.self l.self;
  run : l.self.run ≡ l.fn.self.run;
}

abbrev pub decreases-loop-left : goal.decreases-loop-left
decreases-loop-left l = l.left
