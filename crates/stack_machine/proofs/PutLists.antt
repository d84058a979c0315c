-- Substitutions that are read from two lists.
use Rattle.std.proofs.Common.{◌≡◌, ℕ, refl, sym, ap, subst, ◌∙◌, List, [], ◌∷◌, Option, Some, None, Result, Ok, Err, IfOk, IfErr, OnOk}
use Rattle.std.specs.Option.{ok_or}
use Rattle.std.specs.Result.{IsErrAnd}
use Rattle.std.proofs.Math.Path.{ap₂}
use Rattle.common.specs.declared.faults.Fault.{Fault}
use Rattle.common.specs.declared.faults.Fault.TheVariants.{Memory, Refused}
use Rattle.common.specs.declared.faults.Kind.{Kind}
use Rattle.common.specs.declared.faults.Kind.TheVariants.{WrongKind}
use Rattle.hol_spec.specs.Names.{Name}
use Rattle.hol_spec.specs.Substitution.{TypePairs}
use Rattle.hol_spec.specs.TermSubstitution.{TermPairs}
use Rattle.hol_type.specs.declared.table.TypeId.{TypeId}
use Rattle.hol_type.specs.Tables.{pairs_at, ArePairsKnown}
use Rattle.hol_term.specs.declared.TermId.{TermId}
use Rattle.hol_term.specs.declared.Variable.{Variable}
use Rattle.hol_term.specs.Substitutions.{term_pairs_at, AreTermPairs, ArePairsFitting}
use Rattle.hol_rules.specs.declared.made.Substitution.{Substitution}
use Rattle.article_spec.specs.RuleSteps.{pairs_fit, subst_step}
use Rattle.article_spec.specs.declared.commands.Word.TheVariants as word
use Rattle.article_spec.specs.State.{State}
use Rattle.article_spec.specs.State as state
use Rattle.article_spec.specs.Changes.{conclude, with_stack}
use Rattle.article_spec.specs.Operands.{as_list, as_name, as_substitution, as_term, as_theorem, as_type, as_variable, each, list_of, pair_of, pop}
use Rattle.article_spec.specs.Results.{◌>>=◌, Fails}
use Rattle.article_spec.specs.Step.{obey}
use Rattle.article_spec.specs.Changes.{by_step}
use Rattle.stack_machine.specs.Putting.{as_lists, lists_fit, lists_view, pairs_of, AreListsKnown, IsPutBy}
use Rattle.stack_machine.specs.Reading.{two_objects, Reads}
use Rattle.stack_machine.specs.Stored.{Stored, list_view, object_view}
use Rattle.stack_machine.specs.declared.object.Object.{Object}
use Rattle.stack_machine.specs.declared.remembered.Lists.{Lists}
use Rattle.stack_machine.proofs.Passing.{IfErr-map}
use Rattle.stack_machine.proofs.Obeyed.{condition_fails, first_fails, next_fails, next}
use Rattle.stack_machine.proofs.RuleWords.{obey-Subst}
use Rattle.stack_machine.proofs.TwoObjects.{pair_of-two, read_both}

-- what is refused is of a wrong kind
abbrev IsReadOnly : {A : Type 0} → Result A Kind → Type 0
IsReadOnly r = IfErr r (λ kind. kind ≡ WrongKind)

bind-kind : {A B : Type 0} (r : Result A Kind) (f : A → Result B Kind) → IsReadOnly r → ((x : A) → IsReadOnly (f x)) → IsReadOnly (r >>= f)
bind-kind (Ok x) f h g = g x
bind-kind (Err kind) f h g = h

list-kind : (x : state.Object) → IsReadOnly (as_list x)
list-kind (state.Object.list xs) = tt
list-kind (state.Object.number z) = refl
list-kind (state.Object.name n) = refl
list-kind (state.Object.type_operator n) = refl
list-kind (state.Object.type t) = refl
list-kind (state.Object.constant n) = refl
list-kind (state.Object.variable v) = refl
list-kind (state.Object.term t) = refl
list-kind (state.Object.theorem i) = refl

name-kind : (x : state.Object) → IsReadOnly (as_name x)
name-kind (state.Object.name n) = tt
name-kind (state.Object.number z) = refl
name-kind (state.Object.list xs) = refl
name-kind (state.Object.type_operator n) = refl
name-kind (state.Object.type t) = refl
name-kind (state.Object.constant n) = refl
name-kind (state.Object.variable v) = refl
name-kind (state.Object.term t) = refl
name-kind (state.Object.theorem i) = refl

type-kind : (x : state.Object) → IsReadOnly (as_type x)
type-kind (state.Object.type t) = tt
type-kind (state.Object.number z) = refl
type-kind (state.Object.name n) = refl
type-kind (state.Object.list xs) = refl
type-kind (state.Object.type_operator n) = refl
type-kind (state.Object.constant n) = refl
type-kind (state.Object.variable v) = refl
type-kind (state.Object.term t) = refl
type-kind (state.Object.theorem i) = refl

two-kind : (o : Option (state.Object × state.Object)) → IsReadOnly (ok_or o WrongKind)
two-kind None = refl
two-kind (Some p) = tt

pair-kind : (x : state.Object) → IsReadOnly (pair_of as_name as_type x)
pair-kind x =
    subst IsReadOnly (sym (pair_of-two as_name as_type x))
    (bind-kind (ok_or (two_objects x) WrongKind) (read_both as_name as_type) (two-kind (two_objects x))
    (λ p. bind-kind (as_name p.0) (λ a. as_type p.1 >>= λ b. Ok (a, b)) (name-kind p.0)
    (λ a. bind-kind (as_type p.1) (λ b. Ok (a, b)) (type-kind p.1) (λ b. tt))))

pairs-kind : (xs : state.Objects) → IsReadOnly (each (pair_of as_name as_type) xs)
pairs-kind state.Objects.none = tt
pairs-kind (state.Objects.more x xs) =
    bind-kind (pair_of as_name as_type x) (λ first. each (pair_of as_name as_type) xs >>= λ rest. Ok (first ∷ rest)) (pair-kind x)
    (λ first. bind-kind (each (pair_of as_name as_type) xs) (λ rest. Ok (first ∷ rest)) (pairs-kind xs) (λ rest. tt))

-- two are read one after the other
abbrev both_of : {A B : Type 0} → Result A Kind → Result B Kind → Result (A × B) Kind
both_of r q = do
  a ← r
  b ← q
  Ok (a, b)

-- both are lists before what is in them is read
lists-before : {A B : Type 0} (f : state.Objects → Result A Kind) (g : state.Objects → Result B Kind) → ((xs : state.Objects) → IsReadOnly (f xs))
    → (r q : Result state.Objects Kind) → IsReadOnly q → both_of (r >>= f) (q >>= g) ≡ (both_of r q >>= λ p. both_of (f p.0) (g p.1))
lists-before f g only (Err k) q h = refl
lists-before f g only (Ok xs) (Ok ys) h = refl
lists-before {A} {B} f g only (Ok xs) (Err k) h = go (f xs) (only xs)
  where
    go : (r : Result A Kind) → IsReadOnly r → both_of {B = B} r (Err k) ≡ Err k
    go (Ok a) o = refl
    go (Err j) o = ap Err (o ∙ sym h)

-- a substitution is what its two lists hold
as_substitution-lists : (x : state.Object) → as_substitution x ≡ (as_lists x >>= pairs_of)
as_substitution-lists x =
    pair_of-two (list_of (pair_of as_name as_type)) (list_of (pair_of as_variable as_term)) x ∙ go (ok_or (two_objects x) WrongKind)
    ∙ sym (ap (λ r. r >>= pairs_of) (pair_of-two as_list as_list x))
  where
    go : (r : Result (state.Object × state.Object) Kind)
        → (r >>= read_both (list_of (pair_of as_name as_type)) (list_of (pair_of as_variable as_term))) ≡ ((r >>= read_both as_list as_list) >>= pairs_of)
    go (Err k) = refl
    go (Ok p) = lists-before (each (pair_of as_name as_type)) (each (pair_of as_variable as_term)) pairs-kind (as_list p.0) (as_list p.1) (list-kind p.1)

-- what is read, and the stack below
abbrev over : List state.Object → TypePairs × TermPairs → Result ((TypePairs × TermPairs) × List state.Object) Kind
over below pairs = Ok (pairs, below)

-- the same on top of a stack
popped-lists : (objects : List state.Object) → pop as_substitution objects ≡ (pop as_lists objects >>= λ p. (pairs_of p.0 >>= over p.1))
popped-lists [] = refl
popped-lists (x ∷ below) = ap (λ r. r >>= over below) (as_substitution-lists x) ∙ go (as_lists x)
  where
    go : (r : Result (state.Objects × state.Objects) Kind) → ((r >>= pairs_of) >>= over below)
        ≡ (◌>>=◌ {B = (state.Objects × state.Objects) × List state.Object} r (λ top. Ok (top, below)) >>= λ p. (pairs_of p.0 >>= over p.1))
    go (Ok lists) = refl
    go (Err k) = refl

err-fails : (A B : Type 0) (fault : Fault) (k : Kind) → Fails {A = A} fault (Err k) → Fails {A = B} fault (Err k)
err-fails A B Memory k h = tt
err-fails A B (Refused j) k h = let e : k ≡ j = cc in ap Err e

-- what `subst` answers, by the theorem on top and the two lists below it
module _ (s : State) (i : ℕ) (below : List state.Object) (e : pop as_theorem s.stack ≡ Ok (i, below)) where
  -- the lists are missing, or are none
  pub lists-fail : (fault : Fault) → Fails fault (pop as_lists below) → Fails fault (obey s word.Subst)
  lists-fail fault h = next_fails fault _ _ _ e
      (first_fails fault _ _ (subst (Fails fault) (sym (popped-lists below)) (first_fails fault (pop as_lists below) _ h)))

  module _ (lists : state.Objects × state.Objects) (rest : List state.Object) (f : pop as_lists below ≡ Ok (lists, rest)) where
    pairs-popped : (r : Result (TypePairs × TermPairs) Kind) → pairs_of lists ≡ r → pop as_substitution below ≡ (r >>= over rest)
    pairs-popped r g = popped-lists below ∙ next _ _ _ _ f (ap (λ r. r >>= over rest) g)

    -- the lists hold these pairs
    pub subst-obeyed : (types : TypePairs) (terms : TermPairs) → pairs_of lists ≡ Ok (types, terms) → obey s word.Subst
        ≡ by_step (subst_step s.made types terms i) (with_stack s rest)
    subst-obeyed types terms g = obey-Subst s i types terms below rest e (pairs-popped (Ok (types, terms)) g)

    -- they hold other than pairs, or pairs that don't fit
    pub unfit-fails : (fault : Fault) → Fails fault (lists_fit lists) → Fails fault (obey s word.Subst)
    unfit-fails fault h = go (pairs_of lists) refl h
      where
        go : (r : Result (TypePairs × TermPairs) Kind) → pairs_of lists ≡ r → Fails fault (r >>= λ p. pairs_fit p.1) → Fails fault (obey s word.Subst)
        go (Err k) g d = next_fails fault _ _ _ e (first_fails fault _ _ (subst (Fails fault) (sym (pairs-popped (Err k) g)) (err-fails _ _ fault k d)))
        go (Ok p) g d =
            subst (Fails fault) (sym (subst-obeyed p.0 p.1 g))
            (first_fails fault (subst_step s.made p.0 p.1 i) (conclude (with_stack s rest)) (condition_fails fault (pairs_fit p.1) _ d))

-- an object that isn't read
pub unread : {A B : Type 0} {m : Stored} {as_one : state.Object → Result A Kind} {value : B → A} {IsOne : B → Type 0} {x : Object} (r : Result B Fault)
    (fault : Fault)
    → IsErrAnd r (λ e. e ≡ fault) → Fails fault (as_one (object_view m x)) → Reads m as_one value IsOne x r
unread (Ok y) fault h f = absurd h
unread {m = m} {as_one} {value} {IsOne} {x} (Err e) fault h f =
    record { taken = tt; known = tt; refused = subst (λ w. Fails w (as_one (object_view m x))) (sym h) f }

-- what two lists hold, read one after the other
module _ (m : Stored) (lists : Lists) where
  abbrev as_types : Result TypePairs Kind
  as_types = each (pair_of as_name as_type) (list_view m lists.types)

  abbrev as_terms : Result TermPairs Kind
  as_terms = each (pair_of as_variable as_term) (list_view m lists.terms)

  pub types-fail : (fault : Fault) → Fails fault as_types → Fails fault (lists_fit (lists_view m lists))
  types-fail fault h = first_fails fault (pairs_of (lists_view m lists)) (λ p. pairs_fit p.1) (first_fails fault as_types (λ a. as_terms >>= λ b. Ok (a, b)) h)

  module _ (types : List (Name × TypeId)) (e : as_types ≡ Ok (pairs_at m.trees.types types)) where
    pub terms-fail : (fault : Fault) → Fails fault as_terms → Fails fault (lists_fit (lists_view m lists))
    terms-fail fault h =
        first_fails fault (pairs_of (lists_view m lists)) (λ p. pairs_fit p.1)
        (next_fails fault as_types (λ a. as_terms >>= λ b. Ok (a, b)) _ e (first_fails fault as_terms (λ b. Ok (pairs_at m.trees.types types, b)) h))

    module _ (terms : List (Variable × TermId)) (f : as_terms ≡ Ok (term_pairs_at m.trees terms)) where
      pairs-read : pairs_of (lists_view m lists) ≡ Ok (pairs_at m.trees.types types, term_pairs_at m.trees terms)
      pairs-read = next as_types (λ a. as_terms >>= λ b. Ok (a, b)) _ _ e (next as_terms (λ b. Ok (pairs_at m.trees.types types, b)) _ _ f refl)

      pub pairs-unfit : (r : Result Substitution Fault) → IfErr r (λ fault. Fails fault (pairs_fit (term_pairs_at m.trees terms)))
          → IfErr r (λ fault. Fails fault (lists_fit (lists_view m lists)))
      pairs-unfit r h = IfErr-map r _ _ h (λ fault d. next_fails fault (pairs_of (lists_view m lists)) (λ p. pairs_fit p.1) _ pairs-read d)

      pub put-read : AreListsKnown m lists → ArePairsKnown m.trees.types types → AreTermPairs m.trees terms → (r : Result Substitution Fault)
          → IfOk r (λ put. put.types.items ≡ types) → IfOk r (λ put. put.terms.items ≡ terms) → OnOk r (ArePairsFitting m.trees terms)
          → IfOk r (IsPutBy m lists)
      put-read known k l (Err fault) t u fits = tt
      put-read known k l (Ok put) t u fits = record {
        known = known;
        pairs = pairs-read ∙ ap₂ (λ ps qs. Ok (pairs_at m.trees.types ps, term_pairs_at m.trees qs)) (sym t) (sym u);
        ready = record {
          types = subst (ArePairsKnown m.trees.types) (sym t) k;
          terms = subst (AreTermPairs m.trees) (sym u) l;
          fits = subst (ArePairsFitting m.trees) (sym u) fits;
        };
      }
