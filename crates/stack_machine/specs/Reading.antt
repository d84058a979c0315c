-- What a call reads of an object, and of the stack.
use Rattle.std.specs.Prelude.{◌≡◌, ℕ, suc, ◌<◌, List, drop, length, Option, None, Some, Result, Ok, IfOk, IfErr}
use Rattle.common.specs.declared.faults.Fault.{Fault}
use Rattle.common.specs.declared.faults.Kind.{Kind}
use Rattle.article_spec.specs.State as state
use Rattle.article_spec.specs.Operands.{pop}
use Rattle.article_spec.specs.Results.{Fails}
use Rattle.stack_machine.specs.declared.object.Object.{Object}
use Rattle.stack_machine.specs.Stored.{Stored, object_view, objects_view, IsKnown, AreKnown}

-- An object is read as one of a kind, or is of another. What is read stands for this value, and is known where the object is.
pub record Reads {A B : Type 0} (m : Stored) (as_one : state.Object → Result A Kind) (value : B → A) (IsOne : B → Type 0) (x : Object)
    (result : Result B Fault) : Type 0 where
  pub taken : IfOk result (λ y. as_one (object_view m x) ≡ Ok (value y))
  pub known : IfOk result (λ y. IsKnown m x → IsOne y)
  pub refused : IfErr result (λ fault. Fails fault (as_one (object_view m x)))

-- An operand: the object at a depth of the stack is read as one of a kind, as a command pops it there.
pub record Operand {A B : Type 0} (m : Stored) (as_one : state.Object → Result A Kind) (value : B → A) (IsOne : B → Type 0) (stack : List Object) (depth : ℕ)
    (result : Result B Fault) : Type 0 where
  pub taken : IfOk result (λ y. pop as_one (objects_view m (drop depth stack)) ≡ Ok (value y, objects_view m (drop (suc depth) stack)))
  pub there : IfOk result (λ y. depth < length stack)
  pub known : IfOk result (λ y. AreKnown m stack → IsOne y)
  pub refused : IfErr result (λ fault. Fails fault (pop as_one (objects_view m (drop depth stack))))

-- the one object of a list of one, and the two of a list of two
abbrev pub one_object : state.Objects → Option state.Object
one_object (state.Objects.more x state.Objects.none) = Some x
one_object xs = None

abbrev pub with_first : state.Object → Option state.Object → Option (state.Object × state.Object)
with_first x None = None
with_first x (Some y) = Some (x, y)

abbrev pub two_of : state.Objects → Option (state.Object × state.Object)
two_of state.Objects.none = None
two_of (state.Objects.more x xs) = with_first x (one_object xs)

abbrev pub two_objects : state.Object → Option (state.Object × state.Object)
two_objects (state.Object.list xs) = two_of xs
two_objects x = None
