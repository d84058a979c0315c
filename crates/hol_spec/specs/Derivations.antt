-- What derives from definitions and assumptions: the least relation that holds of the assumptions and is closed under the rules that infer.
-- Source: HOL Light's kernel.
use Rattle.std.specs.Prelude.{◌≡◌, List, [], ◌∷◌, Bool, true, false}
use Rattle.std.specs.Option.{option_map, option_to_list}
use Rattle.std.specs.List.{IsAmong, AllByRecursion}
use Rattle.hol_spec.specs.Terms.{Term, app, type_of}
use Rattle.hol_spec.specs.Sequents.{Sequent}
use Rattle.hol_spec.specs.Definitions.{Definition, TypeNames}
use Rattle.hol_spec.specs.DefinitionLists.{definitions_in}
use Rattle.hol_spec.specs.Rules.{Parameters, constant, constants, type_operator, Rule}
use Rattle.hol_spec.specs.declared.StepKind.{StepKind}
use Rattle.hol_spec.specs.declared.StepKind.TheVariants.{Axiom, DefineConst, DefineConstList, FirstLaw, SecondLaw}

-- The type operator that a theorem |- f t defines.
abbrev pub type_definition_in : TypeNames → Term → List Definition
type_definition_in names (app f t) = option_to_list (option_map (λ c. Definition.type_operator names c f) (type_of t))
type_definition_in names t = []

-- The definitions on which a step rests.
abbrev pub definitions_used : StepKind → List Sequent → Parameters → List Definition
definitions_used DefineConst premises (constant n t) = Definition.constant n t ∷ []
definitions_used DefineConstList (one ∷ []) (constants pairs) = definitions_in pairs one.hypotheses
definitions_used FirstLaw (one ∷ []) (type_operator names version) = type_definition_in names one.conclusion
definitions_used SecondLaw (one ∷ []) (type_operator names version) = type_definition_in names one.conclusion
definitions_used kind premises parameters = []

-- Whether a rule infers: all do but that of assumptions.
abbrev pub infers : StepKind → Bool
infers Axiom = false
infers kind = true

-- A sequent follows from premises by a rule, with its definitions among these.
pub record Follows (definitions : List Definition) (kind : StepKind) (premises : List Sequent) (parameters : Parameters) (s : Sequent) : Type 0 where
  pub rule : Rule kind premises parameters s
  pub defined : AllByRecursion (IsAmong definitions) (definitions_used kind premises parameters)

mutual
  pub data Derives (definitions : List Definition) (assumptions : List Sequent) : Sequent → Type 0 where
    assumed : {s : Sequent} → IsAmong assumptions s → Derives definitions assumptions s
    inferred : {kind : StepKind} {premises : List Sequent} {parameters : Parameters} {s : Sequent} → infers kind ≡ true
        → Follows definitions kind premises parameters s → DerivesAll definitions assumptions premises → Derives definitions assumptions s

  pub data DerivesAll (definitions : List Definition) (assumptions : List Sequent) : List Sequent → Type 0 where
    none : DerivesAll definitions assumptions []
    more : {s : Sequent} {rest : List Sequent} → Derives definitions assumptions s → DerivesAll definitions assumptions rest
        → DerivesAll definitions assumptions (s ∷ rest)
