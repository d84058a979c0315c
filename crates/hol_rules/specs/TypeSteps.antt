-- What the definition of a type operator keeps: the operator, and the steps of its laws.
use Rattle.std.specs.Prelude.{◌≡◌, ℕ, ◌+◌, List, [], ◌∷◌, ◌++◌}
use Rattle.hol_spec.specs.Definitions.{Definition, TypeNames}
use Rattle.hol_spec.specs.Names.{Name}
use Rattle.hol_spec.specs.Rules.{Parameters}
use Rattle.hol_spec.specs.Symbols.{Symbol}
use Rattle.hol_spec.specs.Terms.{Term, app, HasType}
use Rattle.hol_spec.specs.Types.{HolType}
use Rattle.hol_spec.specs.declared.StepKind.{StepKind}
use Rattle.hol_spec.specs.declared.StepKind.TheVariants.{FirstLaw, SecondLaw}
use Rattle.hol_spec.specs.declared.Version.{Version}
use Rattle.hol_term.specs.Tables.{Trees}
use Rattle.sequent.specs.declared.Sequent.{Sequent}
use Rattle.hol_rules.specs.declared.made.Made.{Made}
use Rattle.hol_rules.specs.declared.made.Made.TheVariants as one
use Rattle.hol_rules.specs.declared.made.Step.{Step}
use Rattle.hol_rules.specs.declared.type_definitions.Laws.{Laws}
use Rattle.hol_rules.specs.declared.type_definitions.LawSteps.{LawSteps}
use Rattle.hol_rules.specs.Views.{parameters_view, AreParametersKnown}

-- the step is that of a law, by this rule, of a sequent of numbers
pub record IsLawStep (version : Version) (kind : StepKind) (names : TypeNames) (id : ℕ) (sequent : Sequent) (x : Step) : Type 0 where
  pub by_rule : x.inference.kind ≡ kind
  pub premise : x.inference.premises ≡ id ∷ []
  pub given : (trees : Trees) → parameters_view trees x.parameters ≡ Parameters.type_operator names version
  pub known : (trees : Trees) → AreParametersKnown trees x.parameters
  pub says : x.sequent ≡ sequent

-- the steps are those of both laws
pub record AreLawSteps (version : Version) (names : TypeNames) (id : ℕ) (laws : Laws) (steps : LawSteps) : Type 0 where
  pub first : IsLawStep version FirstLaw names id laws.first steps.first
  pub second : IsLawStep version SecondLaw names id laws.second steps.second

-- the steps of both laws after those that there were
abbrev pub with_laws : List Step → LawSteps → List Step
with_laws xs steps = (xs ++ steps.first ∷ []) ++ steps.second ∷ []

-- what was made, then an operator from a step, and then two steps from this number on
abbrev pub with_operator : List Made → Name → ℕ → ℕ → List Made
with_operator ms op i n = ((ms ++ one.TypeOp op i ∷ []) ++ one.Step n ∷ []) ++ one.Step (n + 1) ∷ []

-- the operator with these names is taken, whose predicate and type are those of an application
abbrev pub TakesType : TypeNames → Term → List Symbol → List Symbol → Type 0
TakesType names p old new = (f t : Term) (c : HolType) → p ≡ app f t → HasType t c → new ≡ old ++ Symbol.defined (Definition.type_operator names c f) ∷ []
