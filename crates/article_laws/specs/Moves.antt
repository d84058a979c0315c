-- What is true of every state of a run is said of its objects and of its run, and is kept by each word if a few moves keep it: an object is
-- made of parts, a symbol is taken or defined, a step is concluded, assumed or exported.
use Rattle.std.specs.Prelude.{◌≡◌, ℕ, ℤ, List, [], ◌∷◌, ◌++◌, map, length, true, None, Some, Ok, is_some}
use Rattle.std.specs.List.{AllByRecursion}
use Rattle.std.specs.Option.{option_or}
use Rattle.std.specs.Ordering.{int_cmp}
use Rattle.std.specs.FinMap as entries
use Rattle.hol_spec.specs.Names.{Name}
use Rattle.hol_spec.specs.Types.{HolType, types_of}
use Rattle.hol_spec.specs.Terms.{Term, Variable, type_of}
use Rattle.hol_spec.specs.Limits.{TypeWithin, TermWithin, SequentWithin}
use Rattle.hol_spec.specs.Definitions.{Definition, TypeNames}
use Rattle.hol_spec.specs.DefinitionLists.{ConstantPairs, definitions_in}
use Rattle.hol_spec.specs.Symbols.{defined, generic_type, operator_arity, new_constant, new_operator}
use Rattle.hol_spec.specs.Rules.{abstraction}
use Rattle.hol_spec.specs.Proofs.{Made, Step, symbols_of, steps_of, sequent_at}
use Rattle.article_spec.specs.State.{Object, Stage, State, version_at}
use Rattle.article_spec.specs.Conditions.{arity_fits, generic_fits}
use Rattle.article_spec.specs.Changes.{with_symbols, with_step, with_type, next_step, first_same}
use Rattle.article_spec.specs.RuleSteps.{NewType, define_const_step, define_const_list_step, type_laws, axiom_step, restate_step, restatement}
use Rattle.article_laws.specs.Inferred.{Inferred}
use Rattle.article_laws.specs.Parts.{Parts, IsOf}

-- of the parts of objects, over what was made; and of a run, by its place, what it made, its exports, its assumptions and its pool
pub record Invariant : Type 1 where
  pub parts : List Made → Parts
  pub run : Stage → List Made → List ℕ → List ℕ → List ℕ → Type 0

-- the run of a state
abbrev pub RunHas : Invariant → State → Type 0
RunHas i s = i.run s.place s.made s.exports s.assumptions s.pool

-- objects on a stack and in a dictionary
pub record ObjectsHave (p : Parts) (stack : List Object) (dictionary : entries.FinMap int_cmp Object) : Type 0 where
  pub stacked : AllByRecursion (IsOf p) stack
  pub kept : (k : ℤ) (x : Object) → entries.get dictionary k ≡ Some x → IsOf p x

pub record Holds (i : Invariant) (s : State) : Type 0 where
  pub objects : ObjectsHave (i.parts s.made) s.stack s.dictionary
  pub run : RunHas i s

-- the state in which an operator or a constant is taken, where it is an input that is new
abbrev pub with_operator : State → Name → ℕ → State
with_operator s n k = with_symbols s (new_operator (symbols_of s.made) n k)

abbrev pub with_constant : State → Name → State
with_constant s n = with_symbols s (new_constant (symbols_of s.made) n)

-- the state in which constants are defined
abbrev pub with_constants : State → List Definition → State
with_constants s ds = with_symbols s (map defined ds)

pub record Moves (i : Invariant) : Type 0 where
  -- objects stay when more is made, and a new step has its number
  pub more : (m ys : List Made) (x : Object) → IsOf (i.parts m) x → IsOf (i.parts (m ++ ys)) x
  pub new_step : (m : List Made) (x : Step) → (i.parts (m ++ Made.step x ∷ [])).step (length (steps_of m))
  -- types, variables and terms are made of parts
  pub type_variable : (m : List Made) (n : Name) → (i.parts m).name n → (i.parts m).type (HolType.variable n)
  pub variable : (m : List Made) (v : Variable) → (i.parts m).name v.0 → (i.parts m).type v.1 → (i.parts m).variable v
  pub free : (m : List Made) (v : Variable) → (i.parts m).variable v → TermWithin (Term.free v.0 v.1) → (i.parts m).term (Term.free v.0 v.1)
  pub app : (m : List Made) (f x : Term) → (i.parts m).term f → (i.parts m).term x → is_some (type_of (Term.app f x)) ≡ true
      → TermWithin (Term.app f x) → (i.parts m).term (Term.app f x)
  pub abstracted : (m : List Made) (v : Variable) (t : Term) → (i.parts m).variable v → (i.parts m).term t → TermWithin (abstraction v t)
      → (i.parts m).term (abstraction v t)
  -- a type and a constant may take an input
  pub operator : (s : State) (n : Name) (ts : List HolType) (u : Unit {0}) → RunHas i s → (i.parts s.made).name n → AllByRecursion (i.parts s.made).type ts
      → arity_fits (operator_arity (symbols_of s.made) n) (length ts) ≡ Ok u → TypeWithin (HolType.operator n (types_of ts))
      → RunHas i (with_operator s n (length ts)) × (i.parts (with_operator s n (length ts)).made).type (HolType.operator n (types_of ts))
  pub constant : (s : State) (n : Name) (a : HolType) (u : Unit {0}) → RunHas i s → (i.parts s.made).name n → (i.parts s.made).type a
      → generic_fits (generic_type (symbols_of s.made) n) a ≡ Ok u → TermWithin (Term.constant n a)
      → RunHas i (with_constant s n) × (i.parts (with_constant s n).made).term (Term.constant n a)
  -- a rule's step is concluded
  pub rule : (s : State) (x : Step) → RunHas i s → Inferred (i.parts s.made) s.made x → SequentWithin x.sequent → RunHas i (with_step s x)
  -- a constant, a list of them, and a type operator with its constants are defined
  pub define_const : (s : State) (n : Name) (t : Term) (x : Step) → RunHas i s → (i.parts s.made).name n → (i.parts s.made).term t
      → define_const_step s.made n t ≡ Ok x → SequentWithin x.sequent → RunHas i (with_step (with_constants s (Definition.constant n t ∷ [])) x)
  pub define_const_list : (s : State) (pairs : ConstantPairs) (j : ℕ) (x : Step) → RunHas i s
      → AllByRecursion (λ q. (i.parts s.made).name q.0 × (i.parts s.made).variable q.1) pairs → (i.parts s.made).step j
      → define_const_list_step s.made pairs j ≡ Ok x → SequentWithin x.sequent
      → RunHas i (with_step (with_constants s (definitions_in pairs (sequent_at s.made j).hypotheses)) x)
  pub define_type_op : (s : State) (names : TypeNames) (j : ℕ) (x : NewType) → RunHas i s
      → (i.parts s.made).name names.operator × (i.parts s.made).name names.abstraction × (i.parts s.made).name names.representation
      → AllByRecursion (i.parts s.made).name names.variables → (i.parts s.made).step j → type_laws (version_at s.place) s.made names j ≡ Ok x → RunHas i (with_type s x)
  -- what is stated is met by an earlier step, is assumed, or is exported
  pub meet : (s : State) (hs : List Term) (c : Term) (x : Step) (j : ℕ) → RunHas i s → AllByRecursion (i.parts s.made).term hs → (i.parts s.made).term c
      → axiom_step hs c ≡ Ok x → option_or (first_same s s.pool x.sequent) (first_same s s.assumptions x.sequent) ≡ Some j → SequentWithin x.sequent
      → RunHas i (with_step s (restatement j x.sequent))
  pub assume : (s : State) (hs : List Term) (c : Term) (x : Step) → RunHas i s → AllByRecursion (i.parts s.made).term hs → (i.parts s.made).term c
      → axiom_step hs c ≡ Ok x → option_or (first_same s s.pool x.sequent) (first_same s s.assumptions x.sequent) ≡ None → SequentWithin x.sequent
      → RunHas i (record (with_step s x) { assumptions = s.assumptions ++ next_step s ∷ [] })
  pub export : (s : State) (j : ℕ) (hs : List Term) (c : Term) (x : Step) → RunHas i s → AllByRecursion (i.parts s.made).term hs
      → (i.parts s.made).term c → (i.parts s.made).step j → restate_step s.made j hs c ≡ Ok x → first_same s s.exports x.sequent ≡ None
      → SequentWithin x.sequent
      → RunHas i (record (with_step s x) { exports = s.exports ++ next_step s ∷ [] })
