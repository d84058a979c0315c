-- How what a run made came about, command by command, with all that is asked of the steps that are to be told again: the flagged ones.
use Rattle.std.proofs.Common.{◌≡◌, ℕ, suc, ◌<◌, Bool, true, false, List, [], ◌∷◌, ◌++◌, map, length, Option, None, Some, IsTrue}
use Rattle.std.specs.List.{AllByRecursion, find, list_any}
use Rattle.hol_spec.specs.declared.Version.{Version}
use Rattle.hol_spec.specs.Names.{Name}
use Rattle.hol_spec.specs.Types.{HolType}
use Rattle.hol_spec.specs.Terms.{Term, equation}
use Rattle.hol_spec.specs.TermSubstitution.{sub}
use Rattle.hol_spec.specs.Limits.{SequentWithin}
use Rattle.hol_spec.specs.Sequents.{Sequent, IsSequent, same, within}
use Rattle.hol_spec.specs.Definitions.{Definition, TypeNames}
use Rattle.hol_spec.specs.DefinitionLists.{ConstantPairs, names_of, defining_equations, definitions_in, constants_put, is_definition_list}
use Rattle.hol_spec.specs.TypeDefinitions.{IsTypeDefinition, first_law_of, second_law_of}
use Rattle.hol_spec.specs.Symbols.{Symbol, defined, is_taken_constant}
use Rattle.hol_spec.specs.Taking.{Takes, AreNew}
use Rattle.hol_spec.specs.Taken.{TermTaken, ParametersTaken}
use Rattle.hol_spec.specs.Rules.{Parameters, Rule, derived, IsDefining}
use Rattle.hol_spec.specs.Rules as rule
use Rattle.hol_spec.specs.Proofs.{Made, Step, symbols_of, steps_of, sequent_at}
use Rattle.hol_spec.specs.declared.StepKind.TheVariants as by_rule
use Rattle.article_spec.specs.RuleSteps.{step_by, restatement}
use Rattle.article_write_laws.specs.SymbolUses.{IsInput}
use Rattle.article_write_laws.specs.Built.{HasNoBinderName}
use Rattle.article_write_laws.specs.BuiltSteps.{IsBuiltTerm, IsBuiltGiven, IsFreshGiven}
use Rattle.article_write_laws.specs.InferenceWords.{is_inference}

abbrev pub next : List Made → ℕ
next made = length (steps_of made)

-- the first of these steps with the same sequent
abbrev pub first_of : List Made → List ℕ → Sequent → Option ℕ
first_of made is s = find (λ i. same (sequent_at made i) s) is

module _ (q : ℕ) (version : Version) (flag is_export : ℕ → Bool) where
  -- a premise that is told
  pub record IsTold (made : List Made) (i : ℕ) : Type 0 where
    pub earlier : i < next made
    pub flagged : flag i ≡ true
    pub no_export : is_export i ≡ false

  -- what is asked of the parameters of a step that is told
  pub record IsSayable (made : List Made) (g : Parameters) : Type 0 where
    pub built : IsBuiltGiven g
    pub fresh : IsFreshGiven q g
    pub taken : ParametersTaken (symbols_of made) g

  -- a step by an inference rule
  pub record IsInferred (made : List Made) (x : Step) : Type 0 where
    pub given : IsSayable made x.parameters
    pub premises : AllByRecursion (IsTold made) x.premises
    pub follows : Rule x.kind (map (sequent_at made) x.premises) x.parameters x.sequent
    pub limits : SequentWithin x.sequent

  -- a step that states a sequent
  pub record IsStated (made : List Made) (s : Sequent) : Type 0 where
    pub given : IsSayable made (Parameters.sequent s)
    pub sequent : IsSequent s
    pub limits : SequentWithin s

  pub record IsConstant (made : List Made) (n : Name) (t : Term) (a : HolType) : Type 0 where
    pub built : IsBuiltTerm t
    pub fresh : HasNoBinderName q t
    pub taken : TermTaken (symbols_of made) t
    pub defining : IsDefining a t
    pub limits : SequentWithin (derived [] (equation a (Term.constant n a) t))

  pub record AreConstants (made : List Made) (i : ℕ) (pairs : ConstantPairs) : Type 0 where
    pub given : IsSayable made (Parameters.constants pairs)
    pub premise : IsTold made i
    pub new : list_any (is_taken_constant (symbols_of made)) (names_of pairs) ≡ false
    pub defining : AllByRecursion (λ e. IsDefining e.0.1 e.1) (defining_equations pairs (sequent_at made i).hypotheses)
    pub is_list : IsTrue (is_definition_list pairs (sequent_at made i))
    pub limits : SequentWithin (derived [] (sub [] (constants_put pairs) (sequent_at made i).conclusion))

  pub record IsType (made : List Made) (i : ℕ) (names : TypeNames) (c : HolType) (f : Term) (made_in : Version) : Type 0 where
    pub same : made_in ≡ version
    pub premise : IsTold made i
    pub new : AreNew (symbols_of made) names
    pub definition : IsTypeDefinition names c f (sequent_at made i)
    pub first : SequentWithin (first_law_of made_in names c)
    pub second : SequentWithin (second_law_of made_in names c f)

  -- symbols that are taken one after the other
  abbrev pub TakesAll : List Symbol → List Symbol → Type 0
  TakesAll symbols [] = Unit {0}
  TakesAll symbols (x ∷ xs) = Takes symbols x × TakesAll (symbols ++ x ∷ []) xs

  -- what was made, the assumptions and the exports
  pub data Tale : List Made → List ℕ → List ℕ → Type 0 where
    empty : Tale [] [] []
    input : {made whole : List Made} {ax ex : List ℕ} (x : Symbol) → Tale made ax ex → IsInput x → Takes (symbols_of made) x
        → whole ≡ made ++ Made.symbol x ∷ [] → Tale whole ax ex
    inferred : {made whole : List Made} {ax ex : List ℕ} (x : Step) → Tale made ax ex → is_inference x.kind ≡ true → is_export (next made) ≡ false
        → (flag (next made) ≡ true → IsInferred made x) → whole ≡ made ++ Made.step x ∷ [] → Tale whole ax ex
    assumed : {made whole : List Made} {ax all ex : List ℕ} (s : Sequent) → Tale made ax ex → is_export (next made) ≡ false → first_of made ax s ≡ None
        → (flag (next made) ≡ true → IsStated made s) → whole ≡ made ++ Made.step (step_by by_rule.Axiom [] (Parameters.sequent s) s) ∷ [] → all ≡ ax
        ++ next made ∷ [] → Tale whole all ex
    met : {made whole : List Made} {ax ex : List ℕ} (s : Sequent) (i : ℕ) → Tale made ax ex → is_export (next made) ≡ false → first_of made ax s ≡ Some i
        → (flag (next made) ≡ true → IsStated made s × IsTold made i) → whole ≡ made ++ Made.step (restatement i s) ∷ [] → Tale whole ax ex
    met_export : {made whole : List Made} {ax ex : List ℕ} (s : Sequent) (i : ℕ) → Tale made ax ex → flag (next made) ≡ false
        → whole ≡ made ++ Made.step (restatement i s) ∷ [] → Tale whole ax ex
    exported : {made whole : List Made} {ax ex all : List ℕ} (s : Sequent) (i : ℕ) → Tale made ax ex → is_export (next made) ≡ true → flag (next made) ≡ true
        → first_of made ex s ≡ None
        → IsStated made s → IsTold made i → IsTrue (within (sequent_at made i) s) → whole ≡ made ++ Made.step (restatement i s) ∷ [] → all ≡ ex
        ++ next made ∷ [] → Tale whole ax all
    constant : {made whole : List Made} {ax ex : List ℕ} (n : Name) (t : Term) (a : HolType) → Tale made ax ex → is_export (next made) ≡ false
        → Takes (symbols_of made) (defined (Definition.constant n t))
        → (flag (next made) ≡ true → IsConstant made n t a)
        → whole ≡ (made ++ Made.symbol (defined (Definition.constant n t)) ∷ [])
        ++ Made.step (step_by by_rule.DefineConst [] (Parameters.constant n t) (derived [] (equation a (Term.constant n a) t))) ∷ [] → Tale whole ax ex
    constants : {made whole : List Made} {ax ex : List ℕ} (i : ℕ) (pairs : ConstantPairs) → Tale made ax ex → is_export (next made) ≡ false
        → TakesAll (symbols_of made) (map defined (definitions_in pairs (sequent_at made i).hypotheses))
        → (flag (next made) ≡ true → AreConstants made i pairs)
        → whole ≡ (made ++ map Made.symbol (map defined (definitions_in pairs (sequent_at made i).hypotheses)))
        ++ Made.step
        (step_by by_rule.DefineConstList (i ∷ []) (rule.constants pairs) (derived [] (sub [] (constants_put pairs) (sequent_at made i).conclusion))) ∷ []
        → Tale whole ax ex
    type : {made whole : List Made} {ax ex : List ℕ} (i : ℕ) (names : TypeNames) (c : HolType) (f : Term) (made_in : Version) → Tale made ax ex
        → is_export (next made) ≡ false → is_export (suc (next made)) ≡ false
        → Takes (symbols_of made) (defined (Definition.type_operator names c f)) → flag (suc (next made)) ≡ flag (next made)
        → (flag (next made) ≡ true → IsType made i names c f made_in)
        → whole ≡ ((made ++ Made.type_definition names c f i ∷ [])
        ++ Made.step (step_by by_rule.FirstLaw (i ∷ []) (rule.type_operator names made_in) (first_law_of made_in names c)) ∷ [])
        ++ Made.step (step_by by_rule.SecondLaw (i ∷ []) (rule.type_operator names made_in) (second_law_of made_in names c f)) ∷ [] → Tale whole ax ex
