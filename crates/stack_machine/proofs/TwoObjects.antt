-- Pairs that are read from lists.
use Rattle.std.proofs.Common.{◌≡◌, refl, sym, ap, subst, ◌∙◌, List, Option, Some, None, Result, Ok, Err}
use Rattle.std.specs.Option.{ok_or}
use Rattle.common.specs.declared.faults.Fault.{Fault}
use Rattle.common.specs.declared.faults.Fault.TheVariants.{Memory, Refused}
use Rattle.common.specs.declared.faults.Kind.{Kind}
use Rattle.common.specs.declared.faults.Kind.TheVariants.{WrongKind}
use Rattle.article_spec.specs.State as state
use Rattle.article_spec.specs.Operands.{as_list, each, list_of, pair_of}
use Rattle.article_spec.specs.Results.{◌>>=◌, Fails}
use Rattle.stack_machine.specs.Reading.{one_object, two_of, two_objects, with_first}
use Rattle.stack_machine.proofs.Obeyed.{first_fails, next_fails, next}

-- the objects of a list
pub two_objects-list : (x : state.Object) (xs : state.Objects) → as_list x ≡ Ok xs → two_objects x ≡ two_of xs
two_objects-list (state.Object.list ys) xs e = let same : ys ≡ xs = cc in ap two_of same
two_objects-list (state.Object.number z) xs e = absurd (cc)
two_objects-list (state.Object.name n) xs e = absurd (cc)
two_objects-list (state.Object.type_operator n) xs e = absurd (cc)
two_objects-list (state.Object.type t) xs e = absurd (cc)
two_objects-list (state.Object.constant n) xs e = absurd (cc)
two_objects-list (state.Object.variable v) xs e = absurd (cc)
two_objects-list (state.Object.term t) xs e = absurd (cc)
two_objects-list (state.Object.theorem i) xs e = absurd (cc)

pub two_objects-fails : (fault : Fault) (x : state.Object) → Fails fault (as_list x) → Fails fault (ok_or (two_objects x) WrongKind)
two_objects-fails Memory x h = tt
two_objects-fails (Refused k) (state.Object.list ys) h = absurd (cc)
two_objects-fails (Refused k) (state.Object.number z) h = let same : WrongKind ≡ k = cc in ap Err same
two_objects-fails (Refused k) (state.Object.name n) h = let same : WrongKind ≡ k = cc in ap Err same
two_objects-fails (Refused k) (state.Object.type_operator n) h = let same : WrongKind ≡ k = cc in ap Err same
two_objects-fails (Refused k) (state.Object.type t) h = let same : WrongKind ≡ k = cc in ap Err same
two_objects-fails (Refused k) (state.Object.constant n) h = let same : WrongKind ≡ k = cc in ap Err same
two_objects-fails (Refused k) (state.Object.variable v) h = let same : WrongKind ≡ k = cc in ap Err same
two_objects-fails (Refused k) (state.Object.term t) h = let same : WrongKind ≡ k = cc in ap Err same
two_objects-fails (Refused k) (state.Object.theorem i) h = let same : WrongKind ≡ k = cc in ap Err same

pub two_of-one : (xs : state.Objects) (x : state.Object) (fault : Fault) → Fails fault (ok_or (one_object xs) WrongKind)
    → Fails fault (ok_or (two_of (state.Objects.more x xs)) WrongKind)
two_of-one xs x fault h = go (one_object xs) fault h
  where
    go : (o : Option state.Object) (fault : Fault) → Fails fault (ok_or o WrongKind) → Fails fault (ok_or (with_first x o) WrongKind)
    go o Memory h = tt
    go None (Refused k) h = let same : WrongKind ≡ k = cc in ap Err same
    go (Some y) (Refused k) h = absurd (cc)

-- the objects of a list are read, where the object is a list
module _ {A : Type 0} (as_one : state.Object → Result A Kind) (x : state.Object) where
  pub list_of-fails : (fault : Fault) → Fails fault (as_list x) → Fails fault (list_of as_one x)
  list_of-fails fault h = first_fails fault (as_list x) (each as_one) h

  module _ (xs : state.Objects) (e : as_list x ≡ Ok xs) where
    pub each-fails : (fault : Fault) → Fails fault (each as_one xs) → Fails fault (list_of as_one x)
    each-fails fault h = next_fails fault (as_list x) (each as_one) xs e h

    pub each-taken : (ys : List A) → each as_one xs ≡ Ok ys → list_of as_one x ≡ Ok ys
    each-taken ys h = next (as_list x) (each as_one) xs (Ok ys) e h

module _ {A B : Type 0} (as_one : state.Object → Result A Kind) (as_two : state.Object → Result B Kind) where
  -- two objects are read one after the other
  abbrev pub read_both : state.Object × state.Object → Result (A × B) Kind
  read_both p = as_one p.0 >>= λ a. (as_two p.1 >>= λ b. Ok (a, b))

  pub pair_of-two : (x : state.Object) → pair_of as_one as_two x ≡ (ok_or (two_objects x) WrongKind >>= read_both)
  pair_of-two (state.Object.number z) = refl
  pair_of-two (state.Object.name n) = refl
  pair_of-two (state.Object.list state.Objects.none) = refl
  pair_of-two (state.Object.list (state.Objects.more x state.Objects.none)) = refl
  pair_of-two (state.Object.list (state.Objects.more x (state.Objects.more y state.Objects.none))) = refl
  pair_of-two (state.Object.list (state.Objects.more x (state.Objects.more y (state.Objects.more z xs)))) = refl
  pair_of-two (state.Object.type_operator n) = refl
  pair_of-two (state.Object.type t) = refl
  pair_of-two (state.Object.constant n) = refl
  pair_of-two (state.Object.variable v) = refl
  pair_of-two (state.Object.term t) = refl
  pair_of-two (state.Object.theorem i) = refl

  pub pair-fails : (fault : Fault) (x : state.Object) → Fails fault (ok_or (two_objects x) WrongKind) → Fails fault (pair_of as_one as_two x)
  pair-fails fault x h = subst (Fails fault) (sym (pair_of-two x)) (first_fails fault (ok_or (two_objects x) WrongKind) read_both h)

  module _ (x u v : state.Object) (e : two_objects x ≡ Some (u, v)) where
    both-read : pair_of as_one as_two x ≡ read_both (u, v)
    both-read = pair_of-two x ∙ ap (λ o. ok_or o WrongKind >>= read_both) e

    pub first-fails : (fault : Fault) → Fails fault (as_one u) → Fails fault (pair_of as_one as_two x)
    first-fails fault h = subst (Fails fault) (sym both-read) (first_fails fault (as_one u) (λ a. as_two v >>= λ b. Ok (a, b)) h)

    module _ (a : A) (f : as_one u ≡ Ok a) where
      pub second-fails : (fault : Fault) → Fails fault (as_two v) → Fails fault (pair_of as_one as_two x)
      second-fails fault h = subst (Fails fault) (sym both-read)
          (next_fails fault (as_one u) (λ a. as_two v >>= λ b. Ok (a, b)) a f (first_fails fault (as_two v) (λ b. Ok (a, b)) h))

      pub pair-taken : (b : B) → as_two v ≡ Ok b → pair_of as_one as_two x ≡ Ok (a, b)
      pair-taken b g = both-read ∙ next (as_one u) (λ a. as_two v >>= λ b. Ok (a, b)) a _ f (next (as_two v) (λ b. Ok (a, b)) b _ g refl)
