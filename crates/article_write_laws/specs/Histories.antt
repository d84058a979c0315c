-- How what an accepted run made came about, command by command: what no law of proofs tells. What was given was built from its parts, and its names can be written.
use Rattle.std.proofs.Common.{◌≡◌, ℕ, ◌<◌, true, false, List, [], ◌∷◌, ◌++◌, map, None, Some}
use Rattle.std.specs.List.{list_any}
use Rattle.hol_spec.specs.declared.Version.{Version}
use Rattle.hol_spec.specs.Names.{Name}
use Rattle.hol_spec.specs.Types.{HolType}
use Rattle.hol_spec.specs.Terms.{Term, equation, type_of}
use Rattle.hol_spec.specs.TermSubstitution.{sub}
use Rattle.hol_spec.specs.Lists.{IsIn}
use Rattle.hol_spec.specs.Sequents.{Sequent}
use Rattle.hol_spec.specs.Definitions.{Definition, TypeNames}
use Rattle.hol_spec.specs.DefinitionLists.{ConstantPairs, names_of, definitions_in, constants_put}
use Rattle.hol_spec.specs.TypeDefinitions.{first_law_of, second_law_of}
use Rattle.hol_spec.specs.Symbols.{Symbol, defined, is_taken_constant}
use Rattle.hol_spec.specs.Taken.{ParametersTaken}
use Rattle.hol_spec.specs.Rules.{Parameters, derived}
use Rattle.hol_spec.specs.Rules as rule
use Rattle.hol_spec.specs.Proofs.{Made, Step, symbols_of, sequent_at}
use Rattle.hol_spec.specs.declared.StepKind.TheVariants as by_rule
use Rattle.article_spec.specs.RuleSteps.{step_by, restatement}
use Rattle.article_write_laws.specs.SymbolUses.{IsInput}
use Rattle.article_write_laws.specs.BuiltSteps.{IsBuiltGiven}
use Rattle.article_write_laws.specs.WritableDrafts.{GivenNamed}
use Rattle.article_write_laws.specs.InferenceWords.{is_inference}
use Rattle.article_write_laws.specs.Tales.{next, first_of}

pub record IsGood (g : Parameters) : Type 0 where
  pub built : IsBuiltGiven g
  pub named : GivenNamed g

pub data History : List Made → List ℕ → List ℕ → Type 0 where
  empty : History [] [] []
  input : {made whole : List Made} {ax ex : List ℕ} (x : Symbol) → History made ax ex → IsInput x → whole ≡ made ++ Made.symbol x ∷ [] → History whole ax ex
  inferred : {made whole : List Made} {ax ex : List ℕ} (x : Step) → History made ax ex → is_inference x.kind ≡ true → IsGood x.parameters
      → whole ≡ made ++ Made.step x ∷ [] → History whole ax ex
  assumed : {made whole : List Made} {ax all ex : List ℕ} (s : Sequent) → History made ax ex → first_of made ax s ≡ None → IsGood (Parameters.sequent s)
      → whole ≡ made ++ Made.step (step_by by_rule.Axiom [] (Parameters.sequent s) s) ∷ [] → all ≡ ax ++ next made ∷ [] → History whole all ex
  met : {made whole : List Made} {ax ex : List ℕ} (s : Sequent) (i : ℕ) → History made ax ex → first_of made ax s ≡ Some i → IsGood (Parameters.sequent s)
      → whole ≡ made ++ Made.step (restatement i s) ∷ [] → History whole ax ex
  met_export : {made whole : List Made} {ax ex : List ℕ} (s : Sequent) (i : ℕ) → History made ax ex → IsIn ex i → IsGood (Parameters.sequent s)
      → whole ≡ made ++ Made.step (restatement i s) ∷ [] → History whole ax ex
  exported : {made whole : List Made} {ax ex all : List ℕ} (s : Sequent) (i : ℕ) → History made ax ex → first_of made ex s ≡ None
      → IsGood (Parameters.sequent s)
      → whole ≡ made ++ Made.step (restatement i s) ∷ [] → all ≡ ex ++ next made ∷ [] → History whole ax all
  constant : {made whole : List Made} {ax ex : List ℕ} (n : Name) (t : Term) (a : HolType) → History made ax ex → type_of t ≡ Some a
      → IsGood (Parameters.constant n t)
      → whole ≡ (made ++ Made.symbol (defined (Definition.constant n t)) ∷ [])
      ++ Made.step (step_by by_rule.DefineConst [] (Parameters.constant n t) (derived [] (equation a (Term.constant n a) t))) ∷ [] → History whole ax ex
  constants : {made whole : List Made} {ax ex : List ℕ} (i : ℕ) (pairs : ConstantPairs) → History made ax ex
      → list_any (is_taken_constant (symbols_of made)) (names_of pairs) ≡ false
      → ParametersTaken (symbols_of made) (rule.constants pairs) → i < next made → IsGood (Parameters.constants pairs)
      → whole ≡ (made ++ map Made.symbol (map defined (definitions_in pairs (sequent_at made i).hypotheses)))
      ++ Made.step (step_by by_rule.DefineConstList (i ∷ []) (rule.constants pairs) (derived [] (sub [] (constants_put pairs) (sequent_at made i).conclusion)))
      ∷ [] → History whole ax ex
  type : {made whole : List Made} {ax ex : List ℕ} (i : ℕ) (names : TypeNames) (c : HolType) (f : Term) (version : Version) → History made ax ex → i < next made
      → IsGood (Parameters.type_operator names version)
      → whole ≡ ((made ++ Made.type_definition names c f i ∷ [])
      ++ Made.step (step_by by_rule.FirstLaw (i ∷ []) (rule.type_operator names version) (first_law_of version names c)) ∷ [])
      ++ Made.step (step_by by_rule.SecondLaw (i ∷ []) (rule.type_operator names version) (second_law_of version names c f)) ∷ [] → History whole ax ex
