-- What a proof's numbers stand for.
use Rattle.std.specs.Prelude.{◌≡◌, ℕ, suc, ◌<◌, List, [], ◌∷◌, length, map, slice_index_or}
use Rattle.std.specs.List.{AllByRecursion}
use Rattle.hol_spec.specs.Names.{Name}
use Rattle.hol_spec.specs.Terms.{Variable as AVariable, bound}
use Rattle.hol_spec.specs.Definitions.{Definition}
use Rattle.hol_spec.specs.Symbols.{Symbol}
use Rattle.hol_spec.specs.Rules as rule
use Rattle.hol_spec.specs.Proofs.{Made, steps_of, symbols_of, IsProof}
use Rattle.hol_spec.specs.Proofs as proof
use Rattle.hol_spec.specs.declared.StepKind.{StepKind}
use Rattle.hol_spec.specs.declared.StepKind.TheVariants.{Refl}
use Rattle.hol_type.specs.Tables as type
use Rattle.hol_term.specs.declared.Variable.{Variable}
use Rattle.hol_term.specs.Substitutions.{term_pairs_at, AreKnownPairs}
use Rattle.hol_term.specs.Tables.{Trees, term_at, type_at, IsDistinct}
use Rattle.hol_defs.specs.Lists.{pairs_at, ArePairsKnown}
use Rattle.hol_defs.specs.Symbols.{Taken, named, symbols_at, AreKnownSymbols}
use Rattle.hol_variables.specs.declared.ParamMemo.{ParamMemo}
use Rattle.hol_variables.specs.Noted.{AreNoted}
use Rattle.sequent.specs.declared.Sequent.{Sequent}
use Rattle.sequent.specs.Sequents.{sequent_at, IsKnown}
use Rattle.hol_rules.specs.declared.made.Parameters.{Parameters}
use Rattle.hol_rules.specs.declared.made.Parameters.TheVariants as parameters
use Rattle.hol_rules.specs.declared.made.Made.{Made as OneMade}
use Rattle.hol_rules.specs.declared.made.Made.TheVariants as one
use Rattle.hol_rules.specs.declared.made.Step.{Step}

abbrev pub variable_view : Trees → Variable → AVariable
variable_view trees v = (v.name, type_at trees v.ty.0)

abbrev pub parameters_view : Trees → Parameters → rule.Parameters
parameters_view trees parameters.Nothing = rule.Parameters.nothing
parameters_view trees (parameters.Term t) = rule.Parameters.term (term_at trees t.0)
parameters_view trees (parameters.Variable v) = rule.Parameters.variable (variable_view trees v)
parameters_view trees (parameters.Subst s) = rule.Parameters.substitution (type.pairs_at trees.types s.types.items) (term_pairs_at trees s.terms.items)
parameters_view trees (parameters.Sequent s) = rule.Parameters.sequent (sequent_at trees s)
parameters_view trees (parameters.Const n t) = rule.Parameters.constant n (term_at trees t.0)
parameters_view trees (parameters.List pairs) = rule.Parameters.constants (pairs_at trees pairs.items)
parameters_view trees (parameters.TypeOp o) = rule.Parameters.type_operator (named o.op o.abs o.rep o.names.items) o.version

abbrev pub step_view : Trees → Step → proof.Step
step_view trees x = record {
  kind = x.inference.kind;
  premises = x.inference.premises;
  parameters = parameters_view trees x.parameters;
  sequent = sequent_at trees x.sequent;
}

-- the step by a rule, of a sequent of numbers
abbrev pub new_step : Trees → StepKind → List ℕ → Parameters → Sequent → proof.Step
new_step trees kind premises parameters sequent = record {
  kind = kind;
  premises = premises;
  parameters = parameters_view trees parameters;
  sequent = sequent_at trees sequent;
}

abbrev pub steps_view : Trees → List Step → List proof.Step
steps_view trees xs = map (step_view trees) xs

-- the step with a number; past the last there is none, and what stands here is none
abbrev pub step_in : List proof.Step → ℕ → proof.Step
step_in steps i =
    slice_index_or steps i
    (record { kind = Refl; premises = []; parameters = rule.Parameters.nothing; sequent = record { hypotheses = []; conclusion = bound 0 } })

abbrev pub step_at : List Made → ℕ → proof.Step
step_at made i = step_in (steps_of made) i

-- the first of the symbols, and those after it; of none, what stands here is none
abbrev pub first_symbol : List Symbol → Symbol
first_symbol [] = Symbol.input_constant []
first_symbol (x ∷ xs) = x

abbrev pub other_symbols : List Symbol → List Symbol
other_symbols [] = []
other_symbols (x ∷ xs) = xs

-- a constant that is defined, under this name
abbrev pub constant_named : Name → Symbol → Symbol
constant_named n (Symbol.defined (Definition.constant m t)) = Symbol.defined (Definition.constant n t)
constant_named n x = x

-- the definition of a type operator under this name, from the step of this number
abbrev pub type_operator_made : Name → ℕ → Symbol → Made
type_operator_made n i (Symbol.defined (Definition.type_operator names c f)) = Made.type_definition (record names { operator = n }) c f i
type_operator_made n i x = Made.symbol x

-- what was made, from these symbols and steps: each symbol is the next one, each step the one with its number
abbrev pub made_of : List Symbol → List proof.Step → List OneMade → List Made
made_of symbols steps [] = []
made_of symbols steps (one.InputConst n ∷ ms) = Made.symbol (Symbol.input_constant n) ∷ made_of (other_symbols symbols) steps ms
made_of symbols steps (one.InputOp n k ∷ ms) = Made.symbol (Symbol.input_operator n k) ∷ made_of (other_symbols symbols) steps ms
made_of symbols steps (one.Const n ∷ ms) = Made.symbol (constant_named n (first_symbol symbols)) ∷ made_of (other_symbols symbols) steps ms
made_of symbols steps (one.TypeOp n i ∷ ms) = type_operator_made n i (first_symbol symbols) ∷ made_of (other_symbols symbols) steps ms
made_of symbols steps (one.Step i ∷ ms) = Made.step (step_in steps i) ∷ made_of symbols steps ms

abbrev pub made_view : Trees → List Taken → List Step → List OneMade → List Made
made_view trees symbols xs ms = made_of (symbols_at trees symbols) (steps_view trees xs) ms

-- how many symbols were made
abbrev pub symbol_count : List OneMade → ℕ
symbol_count [] = 0
symbol_count (one.InputConst n ∷ ms) = suc (symbol_count ms)
symbol_count (one.InputOp n k ∷ ms) = suc (symbol_count ms)
symbol_count (one.Const n ∷ ms) = suc (symbol_count ms)
symbol_count (one.TypeOp n i ∷ ms) = suc (symbol_count ms)
symbol_count (one.Step i ∷ ms) = symbol_count ms

-- the numbers of a step are of the table
abbrev pub AreParametersKnown : Trees → Parameters → Type 0
AreParametersKnown trees parameters.Nothing = Unit {0}
AreParametersKnown trees (parameters.Term t) = t.0 < length trees.terms
AreParametersKnown trees (parameters.Variable v) = v.ty.0 < length trees.types
AreParametersKnown trees (parameters.Subst s) = AreKnownPairs trees s.types.items s.terms.items
AreParametersKnown trees (parameters.Sequent s) = IsKnown trees s
AreParametersKnown trees (parameters.Const n t) = t.0 < length trees.terms
AreParametersKnown trees (parameters.List pairs) = ArePairsKnown trees pairs.items
AreParametersKnown trees (parameters.TypeOp o) = Unit {0}

pub record IsStepKnown (trees : Trees) (x : Step) : Type 0 where
  pub parameters : AreParametersKnown trees x.parameters
  pub sequent : IsKnown trees x.sequent

-- a step that was made is one of so many
abbrev pub IsNumbered : ℕ → OneMade → Type 0
IsNumbered n (one.InputConst m) = Unit {0}
IsNumbered n (one.InputOp m k) = Unit {0}
IsNumbered n (one.Const m) = Unit {0}
IsNumbered n (one.TypeOp m i) = Unit {0}
IsNumbered n (one.Step i) = i < n

-- what is kept is a proof: its steps in order are those that were made, its symbols those that are taken, and what is
-- noted of the table is right
pub record IsKept (trees : Trees) (symbols : List Taken) (xs : List Step) (ms : List OneMade) (memo : ParamMemo) : Type 0 where
  pub distinct : IsDistinct trees.terms
  pub known : AllByRecursion (IsStepKnown trees) xs
  pub numbered : AllByRecursion (IsNumbered (length xs)) ms
  pub steps : steps_of (made_view trees symbols xs ms) ≡ steps_view trees xs
  pub counted : symbol_count ms ≡ length symbols
  pub symbols_taken : symbols_of (made_view trees symbols xs ms) ≡ symbols_at trees symbols
  pub symbols_known : AreKnownSymbols trees symbols
  pub proof : IsProof (made_view trees symbols xs ms)
  pub noted : AreNoted trees memo
