-- A proof: the symbols that it took and the steps that it made, in order of making, each on what was made before it.
-- Source: HOL Light's kernel.
use Rattle.std.specs.Prelude.{ℕ, ◌≡◌, List, [], ◌∷◌, ◌++◌, Option, None, Some, map, slice_get, slice_index_or, if◌then◌else◌}
use Rattle.std.specs.List.{filter_map, IsAmong}
use Rattle.hol_spec.specs.Types.{HolType}
use Rattle.hol_spec.specs.Terms.{Term, bound}
use Rattle.hol_spec.specs.Sequents.{Sequent}
use Rattle.hol_spec.specs.Definitions.{Definition, TypeNames}
use Rattle.hol_spec.specs.TypeDefinitions.{IsTypeDefinition}
use Rattle.hol_spec.specs.Symbols.{Symbol}
use Rattle.hol_spec.specs.Taking.{Takes}
use Rattle.hol_spec.specs.Rules.{Parameters, type_operator}
use Rattle.hol_spec.specs.Derivations.{infers, Follows}
use Rattle.hol_spec.specs.declared.StepKind.{StepKind}
use Rattle.hol_spec.specs.declared.StepKind.TheVariants.{FirstLaw, SecondLaw}

-- A step: the rule by which a sequent was made, the numbers of the steps that were its premises, and what else the rule was given.
pub record Step : Type 0 where
  pub kind : StepKind
  pub premises : List ℕ
  pub parameters : Parameters
  pub sequent : Sequent

pub data Made : Type 0 where
  -- an input or a constant that is defined by a term
  symbol : Symbol → Made
  -- a type operator with its two constants, defined by the predicate of what the step of this number says
  type_definition : TypeNames → HolType → Term → ℕ → Made
  step : Step → Made

abbrev pub made_symbol : Made → Option Symbol
made_symbol (symbol x) = Some x
made_symbol (type_definition names c f i) = Some (Symbol.defined (Definition.type_operator names c f))
made_symbol (step x) = None

abbrev pub made_step : Made → Option Step
made_step (symbol x) = None
made_step (type_definition names c f i) = None
made_step (step x) = Some x

abbrev pub symbols_of : List Made → List Symbol
symbols_of made = filter_map made_symbol made

-- The steps are numbered from 0 in order of making.
abbrev pub steps_of : List Made → List Step
steps_of made = filter_map made_step made

-- The sequents of the steps, and that of one. Past the last there is none, and what stands here is none.
abbrev pub sequents_of : List Made → List Sequent
sequents_of made = map (λ x. x.sequent) (steps_of made)

abbrev pub sequent_at : List Made → ℕ → Sequent
sequent_at made i = slice_index_or (sequents_of made) i (record { hypotheses = []; conclusion = bound 0 })

-- The definitions among the symbols.
abbrev pub symbol_definition : Symbol → Option Definition
symbol_definition (Symbol.input_constant n) = None
symbol_definition (Symbol.input_operator n k) = None
symbol_definition (Symbol.defined d) = Some d

abbrev pub definitions_of : List Made → List Definition
definitions_of made = filter_map symbol_definition (symbols_of made)

-- The assumptions: the sequents of the steps that infer nothing.
abbrev pub assumed_by : Step → Option Sequent
assumed_by x = if infers x.kind then None else Some x.sequent

abbrev pub assumptions_of : List Made → List Sequent
assumptions_of made = filter_map assumed_by (steps_of made)

-- The steps of these numbers have these sequents.
abbrev pub ArePremises : List Sequent → List ℕ → List Sequent → Type 0
ArePremises sequents [] [] = Unit {0}
ArePremises sequents (n ∷ ns) (s ∷ ss) = (slice_get sequents n ≡ Some s) × ArePremises sequents ns ss
ArePremises sequents [] (s ∷ ss) = ⊥
ArePremises sequents (n ∷ ns) [] = ⊥

-- These premises are the one by which the type operator with these names was defined.
pub record IsOfDefinition (before : List Made) (names : TypeNames) (premises : List ℕ) : Type 0 where
  pub c : HolType
  pub f : Term
  pub number : ℕ
  pub among : IsAmong before (type_definition names c f number)
  pub is : premises ≡ number ∷ []

-- The laws of a type operator are made from the theorem by which it was defined.
abbrev pub IsLawOfDefinition : List Made → StepKind → List ℕ → Parameters → Type 0
IsLawOfDefinition before FirstLaw premises (type_operator names version) = IsOfDefinition before names premises
IsLawOfDefinition before SecondLaw premises (type_operator names version) = IsOfDefinition before names premises
IsLawOfDefinition before kind premises parameters = Unit {0}

-- A step follows from what was made before it.
pub record IsStep (before : List Made) (x : Step) : Type 0 where
  pub premises : List Sequent
  pub earlier : ArePremises (sequents_of before) x.premises premises
  pub follows : Follows (definitions_of before) x.kind premises x.parameters x.sequent
  pub law : IsLawOfDefinition before x.kind x.premises x.parameters

-- The predicate of what a step says defines a type operator.
pub record IsDefinedBy (before : List Made) (names : TypeNames) (c : HolType) (f : Term) (i : ℕ) : Type 0 where
  pub one : Sequent
  pub at : slice_get (sequents_of before) i ≡ Some one
  pub defines : IsTypeDefinition names c f one
  pub taken : Takes (symbols_of before) (Symbol.defined (Definition.type_operator names c f))

-- An input, or a constant's definition.
abbrev pub IsPlain : Symbol → Type 0
IsPlain (Symbol.defined (Definition.type_operator names c f)) = ⊥
IsPlain x = Unit {0}

-- What is made on what was made before it.
abbrev pub IsMade : List Made → Made → Type 0
IsMade before (symbol x) = IsPlain x × Takes (symbols_of before) x
IsMade before (type_definition names c f i) = IsDefinedBy before names c f i
IsMade before (step x) = IsStep before x

-- Where each thing that was made has a property on what was made before it.
pub data Each (P : List Made → Made → Type 0) : List Made → Type 0 where
  empty : Each P []
  more : {made whole : List Made} (x : Made) → Each P made → P made x → whole ≡ made ++ x ∷ [] → Each P whole

abbrev pub IsProof : List Made → Type 0
IsProof made = Each IsMade made

-- What an accepted run gives: symbols and steps in order of making, and the numbers of the steps that are assumptions and exports.
pub record Accepted : Type 0 where
  pub made : List Made
  pub assumptions : List ℕ
  pub exports : List ℕ
