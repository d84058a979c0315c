-- What the words answer, by what is on the stack.
use Rattle.std.proofs.Common.{◌≡◌, ℕ, refl, sym, subst, ◌∙◌, List, ◌++◌, drop, length, Result, Ok, Err}
use Rattle.std.specs.Prelude.{is_some}
use Rattle.std.specs.Result.{IsErrAnd}
use Rattle.std.proofs.Math.Path.{ap₂}
use Rattle.hol_spec.specs.Names.{Name}
use Rattle.hol_spec.specs.Types.{HolType, operator, types_of}
use Rattle.hol_spec.specs.Terms.{Term, constant, type_of}
use Rattle.hol_spec.specs.Symbols.{Symbol, generic_type, operator_arity}
use Rattle.common.specs.declared.faults.Fault.{Fault}
use Rattle.common.specs.declared.faults.Fault.TheVariants.{Memory, Refused}
use Rattle.common.specs.declared.faults.Kind.{Kind}
use Rattle.article_spec.specs.declared.commands.Word.{Word}
use Rattle.article_spec.specs.declared.commands.Word.TheVariants as word
use Rattle.article_spec.specs.State.{State}
use Rattle.article_spec.specs.State as state
use Rattle.common.specs.declared.faults.Kind.TheVariants.{EmptyList, TypeMismatch}
use Rattle.article_spec.specs.Operands.{pop, as_list}
use Rattle.article_spec.specs.Conditions.{demand, type_in_limits, term_in_limits, arity_fits, generic_fits}
use Rattle.article_spec.specs.Results.{◌>>=◌, ◌>>◌, Fails}
use Rattle.article_spec.specs.Step.{obey}
use Rattle.stack_machine.specs.declared.object.Object.{Object}
use Rattle.stack_machine.specs.Making.{Run}
use Rattle.stack_machine.specs.Refusals.{application_fits, constant_fits, operator_fits}
use Rattle.stack_machine.specs.Stored.{Stored, objects_view, AreKnown, Grows}
use Rattle.stack_machine.specs.StoredLaws.{Grows-refl, AreKnown-Grows}
use Rattle.stack_machine.specs.Shown.{in_state, shown}
use Rattle.stack_machine.specs.Obeying.{Obeys, ObeysIn}
use Rattle.hol_spec.specs.declared.Version.{Version}
use Rattle.stack_machine.proofs.Placed.{placed-view, placed-known}

-- the first fault in a row is the fault of all
pub first_fails : {A B : Type 0} (fault : Fault) (r : Result A Kind) (f : A → Result B Kind) → Fails fault r → Fails fault (r >>= f)
first_fails Memory r f h = tt
first_fails (Refused k) r f h = rw h refl

pub next_fails : {A B : Type 0} (fault : Fault) (r : Result A Kind) (f : A → Result B Kind) (x : A) → r ≡ Ok x → Fails fault (f x) → Fails fault (r >>= f)
next_fails fault r f x e h = rw e h

pub condition_fails : {A B : Type 0} (fault : Fault) (r : Result A Kind) (q : Result B Kind) → Fails fault r → Fails fault (r >> q)
condition_fails Memory r q h = tt
condition_fails (Refused k) r q h = rw h refl

-- what comes after what is met
pub next : {A B : Type 0} (r : Result A Kind) (f : A → Result B Kind) (x : A) (y : Result B Kind) → r ≡ Ok x → f x ≡ y → (r >>= f) ≡ y
next r f x y e h = rw e h

pub met : {B : Type 0} (r : Result (Unit {0}) Kind) (q y : Result B Kind) → r ≡ Ok tt → q ≡ y → (r >> q) ≡ y
met r q y e h = rw e h

-- two conditions in a row
pub conditions_pass : {B : Type 0} (r q : Result (Unit {0}) Kind) (p y : Result B Kind) → (r >> q) ≡ Ok tt → p ≡ y → (r >> (q >> p)) ≡ y
conditions_pass (Ok x) (Ok z) p y e h = h
conditions_pass (Ok x) (Err k) p y e h = absurd (cc)
conditions_pass (Err k) q p y e h = absurd (cc)

pub conditions_fail : {B : Type 0} (fault : Fault) (r q : Result (Unit {0}) Kind) (p : Result B Kind) → Fails fault (r >> q) → Fails fault (r >> (q >> p))
conditions_fail Memory r q p h = tt
conditions_fail (Refused k) (Ok x) q p h = rw h refl
conditions_fail (Refused k) (Err j) q p h = let e : j ≡ k = cc in rw e refl

-- want of memory is always a fault
pub memory_fails : {A : Type 0} (fault : Fault) (r : Result A Kind) → fault ≡ Memory → Fails fault r
memory_fails fault r e = rw e tt

-- the conditions of what is made, met and refused
module _ {B : Type 0} (p : Result B Kind) where
  pub application_passes : (t : Term) (y : Result B Kind) → application_fits t ≡ Ok tt → p ≡ y
      → (demand (is_some (type_of t)) TypeMismatch >> (term_in_limits t >> p)) ≡ y
  application_passes t y e h = conditions_pass (demand (is_some (type_of t)) TypeMismatch) (term_in_limits t) p y e h

  pub application_fails : (t : Term) (fault : Fault) → Fails fault (application_fits t)
      → Fails fault (demand (is_some (type_of t)) TypeMismatch >> (term_in_limits t >> p))
  application_fails t fault h = conditions_fail fault (demand (is_some (type_of t)) TypeMismatch) (term_in_limits t) p h

  pub constant_passes : (symbols : List Symbol) (n : Name) (a : HolType) (y : Result B Kind) → constant_fits symbols n a ≡ Ok tt → p ≡ y
      → (generic_fits (generic_type symbols n) a >> (term_in_limits (constant n a) >> p)) ≡ y
  constant_passes symbols n a y e h = conditions_pass (generic_fits (generic_type symbols n) a) (term_in_limits (constant n a)) p y e h

  pub constant_fails : (symbols : List Symbol) (n : Name) (a : HolType) (fault : Fault) → Fails fault (constant_fits symbols n a)
      → Fails fault (generic_fits (generic_type symbols n) a >> (term_in_limits (constant n a) >> p))
  constant_fails symbols n a fault h = conditions_fail fault (generic_fits (generic_type symbols n) a) (term_in_limits (constant n a)) p h

  pub operator_passes : (symbols : List Symbol) (n : Name) (ts : List HolType) (y : Result B Kind) → operator_fits symbols n ts ≡ Ok tt → p ≡ y
      → (arity_fits (operator_arity symbols n) (length ts) >> (type_in_limits (operator n (types_of ts)) >> p)) ≡ y
  operator_passes symbols n ts y e h = conditions_pass (arity_fits (operator_arity symbols n) (length ts)) (type_in_limits (operator n (types_of ts))) p y e h

  pub operator_fails : (symbols : List Symbol) (n : Name) (ts : List HolType) (fault : Fault) → Fails fault (operator_fits symbols n ts)
      → Fails fault (arity_fits (operator_arity symbols n) (length ts) >> (type_in_limits (operator n (types_of ts)) >> p))
  operator_fails symbols n ts fault h = conditions_fail fault (arity_fits (operator_arity symbols n) (length ts)) (type_in_limits (operator n (types_of ts))) p
      h

-- an empty list has no first element
pub hdTl-none : (s : State) (below : List state.Object) (xs : state.Objects) → pop as_list s.stack ≡ Ok (xs, below) → xs ≡ state.Objects.none → obey s word.HdTl
    ≡ Err EmptyList
hdTl-none s below xs e f = rw (e, f) refl

module _ {word : Word} {a b : Stored} {stack : List Object} where
  -- a fault, where more may be kept
  pub failed : (r : Result (Unit {0}) Fault) (x : Fault) → IsErrAnd r (λ e. e ≡ x) → AreKnown a stack → Grows a b → b.run ≡ a.run
      → ((s : State) → Fails x (obey (shown a stack s) word)) → Obeys word a stack b stack r
  failed (Ok y) x h k g e f = absurd h
  failed (Err z) x h k g e f = record {
    taken = tt;
    refused = subst (λ w. (s : State) → Fails w (obey (shown a stack s) word)) (sym h) f;
    known = AreKnown-Grows g stack k;
    grows = g;
    same = refl;
    run = e;
  }

  -- some objects in place of so many on top
  pub placed : {new : List Object} (n : ℕ) (ys : List Object) (vs : List state.Object) (run : Run) → AreKnown a stack → Grows a b → new ≡ ys ++ drop n stack
      → AreKnown b ys → objects_view b ys ≡ vs → b.run ≡ run
      → ((s : State) → obey (shown a stack s) word ≡ Ok (in_state s (vs ++ objects_view a (drop n stack)) run)) → Obeys word a stack b new (Ok tt)
  placed {new = new} n ys vs run k g e l v f h = record {
    taken = λ s. h s ∙ ap₂ (λ xs ys. Ok (in_state s xs ys)) (sym (placed-view g stack new ys n k e vs v)) (sym f);
    refused = tt;
    known = placed-known g stack new ys n k e l;
    grows = g;
    same = tt;
    run = tt;
  }

-- a fault, where nothing changes
pub stopped : {word : Word} {a : Stored} {stack : List Object} (r : Result (Unit {0}) Fault) (x : Fault) → IsErrAnd r (λ e. e ≡ x) → AreKnown a stack
    → ((s : State) → Fails x (obey (shown a stack s) word)) → Obeys word a stack a stack r
stopped {a = a} r x h k f = failed r x h k (Grows-refl a) refl f

-- a word that is obeyed in each article is obeyed in one of a version
pub Obeys-In : (version : Version) {word : Word} {a b : Stored} {stack new : List Object} (r : Result (Unit {0}) Fault) → Obeys word a stack b new r
    → ObeysIn version word a stack b new r
Obeys-In version (Ok x) h = record { taken = λ s v. h.taken s; refused = tt; known = h.known; grows = h.grows; same = tt; run = tt }
Obeys-In version (Err x) h = record { taken = tt; refused = λ s v. h.refused s; known = h.known; grows = h.grows; same = h.same; run = h.run }

-- a remark is taken off as any object is
pub Obeys-Pragma : {a b : Stored} {stack new : List Object} {r : Result (Unit {0}) Fault} → Obeys word.Pop a stack b new r → Obeys word.Pragma a stack b new r
Obeys-Pragma h = record { taken = h.taken; refused = h.refused; known = h.known; grows = h.grows; same = h.same; run = h.run }
