-- What is read at a depth of the stack.
use Rattle.std.proofs.Common.{◌≡◌, ℕ, refl, ap, sym, subst, zero, List, [], ◌∷◌, drop, Ok, Err, Result, IfOk, IfErr}
use Rattle.std.specs.Result.{IsErrAnd}
use Rattle.std.specs.Prelude.{slice_get, Some, None, suc}
use Rattle.std.proofs.lemmas.Option.{slice_get_within}
use Rattle.common.specs.declared.faults.Fault.{Fault}
use Rattle.common.specs.declared.faults.Fault.TheVariants.{Memory, Refused}
use Rattle.common.specs.declared.faults.Kind.{Kind}
use Rattle.common.specs.declared.faults.Kind.TheVariants.{StackShort, WrongKind}
use Rattle.stack_machine.specs.declared.object.Object.{Object}
use Rattle.article_spec.specs.State as state
use Rattle.article_spec.specs.Operands.{pop, as_list, list_of, each}
use Rattle.article_spec.specs.Results.{Fails}
use Rattle.stack_machine.specs.declared.object.List.{List as AList}
use Rattle.stack_machine.specs.Stored.{Stored, objects_view, list_view, IsKnown, IsListKnown, AreKnown}
use Rattle.stack_machine.specs.Reading.{Reads, Operand}
use Rattle.stack_machine.proofs.Turned.{drop-at, drop-past}

-- what is known of a stack is known of its objects
pub known-at : (m : Stored) (xs : List Object) (d : ℕ) (x : Object) → slice_get xs d ≡ Some x → AreKnown m xs → IsKnown m x
known-at m [] d x e k = absurd (cc)
known-at m (y ∷ xs) zero x e k = let f : y ≡ x = cc in subst (IsKnown m) f k.0
known-at m (y ∷ xs) (suc d) x e k = known-at m xs d x e k.1

module _ {A B : Type 0} (m : Stored) (as_one : state.Object → Result A Kind) (value : B → A) (IsOne : B → Type 0) (stack : List Object) (depth : ℕ) where
  -- what is read of the object there
  pub operand-there : (x : Object) (result : Result B Fault) → slice_get stack depth ≡ Some x → Reads m as_one value IsOne x result
      → Operand m as_one value IsOne stack depth result
  operand-there x (Ok y) e h = record {
    taken = rw (drop-at stack depth x e, h.taken) refl;
    there = slice_get_within stack depth x e;
    known = λ k. h.known (known-at m stack depth x e k);
    refused = tt;
  }
  operand-there x (Err Memory) e h = record { taken = tt; there = tt; known = tt; refused = tt }
  operand-there x (Err (Refused k)) e h = record { taken = tt; there = tt; known = tt; refused = rw (drop-at stack depth x e, h.refused) refl }

  -- nothing is there
  pub operand-short : slice_get stack depth ≡ None → Operand m as_one value IsOne stack depth (Err (Refused StackShort))
  operand-short e = record { taken = tt; there = tt; known = tt; refused = rw (drop-past stack depth e) refl }

first_or : {A B E : Type 0} → A → Result (A × B) E → A
first_or d (Ok p) = p.0
first_or d (Err e) = d

second_or : {A B E : Type 0} → B → Result (A × B) E → B
second_or d (Ok p) = p.1
second_or d (Err e) = d

-- equal answers are equal in both parts
answered : {A B : Type 0} (x y : A) (u v : B) → ◌≡◌ {A = Result (A × B) Kind} (Ok (x, u)) (Ok (y, v)) → (x ≡ y) × (u ≡ v)
unfolding first_or second_or
answered x y u v e = (ap (first_or x) e, ap (second_or u) e)

-- a list of objects of one kind on top
module _ {A : Type 0} (as_one : state.Object → Result A Kind) where
  elements_popped : (objects below : List state.Object) (xs : state.Objects) (ys : List A) → pop as_list objects ≡ Ok (xs, below) → each as_one xs ≡ Ok ys
      → pop (list_of as_one) objects ≡ Ok (ys, below)
  elements_popped [] below xs ys p e = absurd (cc)
  elements_popped (state.Object.list zs ∷ rest) below xs ys p e = let f = answered zs xs rest below p in rw (f.0, f.1, e) refl
  elements_popped (x ∷ rest) below xs ys p e = absurd (cc)

  elements_fail : (fault : Fault) (objects below : List state.Object) (xs : state.Objects) → pop as_list objects ≡ Ok (xs, below) → Fails fault (each as_one xs)
      → Fails fault (pop (list_of as_one) objects)
  elements_fail Memory objects below xs p h = tt
  elements_fail (Refused k) [] below xs p h = absurd (cc)
  elements_fail (Refused k) (state.Object.list zs ∷ rest) below xs p h = let f = answered zs xs rest below p in rw (f.0, h) refl
  elements_fail (Refused k) (x ∷ rest) below xs p h = absurd (cc)

  list_fails : (fault : Fault) (objects : List state.Object) → Fails fault (pop as_list objects) → Fails fault (pop (list_of as_one) objects)
  list_fails Memory objects h = tt
  list_fails (Refused k) [] h = let f : k ≡ StackShort = cc in rw f refl
  list_fails (Refused k) (state.Object.list zs ∷ rest) h = absurd (cc)
  list_fails (Refused k) (x ∷ rest) h = let f : k ≡ WrongKind = cc in rw f refl

  module _ {B : Type 0} (m : Stored) (value : B → List A) (IsOne : B → Type 0) (stack : List Object) (depth : ℕ) where
    -- no list is there
    pub elements-unread : (r : Result B Fault) (x : Fault) → IsErrAnd r (λ e. e ≡ x) → Fails x (pop as_list (objects_view m (drop depth stack)))
        → Operand m (list_of as_one) value IsOne stack depth r
    elements-unread (Ok y) x h f = absurd h
    elements-unread (Err e) x h f = record {
      taken = tt;
      there = tt;
      known = tt;
      refused = subst (λ w. Fails w (pop (list_of as_one) (objects_view m (drop depth stack)))) (sym h)
          (list_fails x _ f);
    }

    -- the elements of the list there are read
    pub elements-read : (xs : AList) (r : Result B Fault) → Operand m as_list (list_view m) (IsListKnown m) stack depth (Ok xs)
        → IfOk r (λ ys. each as_one (list_view m xs) ≡ Ok (value ys)) → IfOk r IsOne
        → IfErr r (λ fault. Fails fault (each as_one (list_view m xs))) → Operand m (list_of as_one) value IsOne stack depth r
    elements-read xs (Ok ys) h e k f = record { taken = elements_popped _ _ _ _ h.taken e; there = h.there; known = λ _. k; refused = tt }
    elements-read xs (Err x) h e k f = record { taken = tt; there = tt; known = tt; refused = elements_fail x _ _ _ h.taken f }
