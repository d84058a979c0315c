-- What is kept where names and cells are given up.
use Rattle.std.specs.Prelude.{◌≡◌}
use Rattle.stack_machine.specs.declared.object.Object.{Object}
use Rattle.stack_machine.specs.Collecting.{Holding, Numbering, IsHeld, numbered}
use Rattle.stack_machine.specs.Stored.{Stored, IsKnown, object_view}

-- by the new numbers an object stands for what it stood for
pub record IsMoved (r : Numbering) (a b : Stored) (x : Object) : Type 0 where
  pub known : IsKnown b (numbered r x)
  pub same : object_view b (numbered r x) ≡ object_view a x

-- the objects that hold nothing themselves but what is held stay, and so does what the run made
pub record Moves (h : Holding) (r : Numbering) (a b : Stored) : Type 0 where
  pub objects : (x : Object) → IsKnown a x → IsHeld h x → IsMoved r a b x
  pub run : b.run ≡ a.run
