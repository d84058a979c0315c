-- The definition of a type operator, among what was made: it is a symbol, and no step.
use Rattle.std.proofs.Common.{◌≡◌, ℕ, List, [], ◌∷◌, ◌++◌, ap, ◌∙◌}
use Rattle.hol_spec.specs.Types.{HolType}
use Rattle.hol_spec.specs.Terms.{Term}
use Rattle.hol_spec.specs.Definitions.{Definition, TypeNames}
use Rattle.hol_spec.specs.Symbols.{defined}
use Rattle.hol_spec.specs.Proofs.{Made, Step, symbols_of, steps_of}
use Rattle.hol_proof_laws.specs.ProofLaws.{steps_of-push, symbols_of-push}
use Rattle.hol_proof_laws.specs.ProofGrowth.{steps_of-append, symbols_of-append}
use Rattle.article_write_laws.specs.SymbolUses.{nil-append}

module _ (made : List Made) (names : TypeNames) (c : HolType) (f : Term) (i : ℕ) where
  pub steps_of-definition : steps_of (made ++ Made.type_definition names c f i ∷ []) ≡ steps_of made
  steps_of-definition = steps_of-append made (Made.type_definition names c f i ∷ []) ∙ nil-append (steps_of made)

  pub symbols_of-definition : symbols_of (made ++ Made.type_definition names c f i ∷ []) ≡ symbols_of made ++ defined (Definition.type_operator names c f) ∷ []
  symbols_of-definition = symbols_of-append made (Made.type_definition names c f i ∷ [])

  -- with the first law behind it
  pub law-grown : (x : Step) → steps_of ((made ++ Made.type_definition names c f i ∷ []) ++ Made.step x ∷ []) ≡ steps_of made ++ x ∷ []
  law-grown x = steps_of-push (made ++ Made.type_definition names c f i ∷ []) x ∙ ap (λ l. l ++ x ∷ []) steps_of-definition

  pub law-symbols : (x : Step)
      → symbols_of ((made ++ Made.type_definition names c f i ∷ []) ++ Made.step x ∷ []) ≡ symbols_of made ++ defined (Definition.type_operator names c f) ∷ []
  law-symbols x = symbols_of-push (made ++ Made.type_definition names c f i ∷ []) x ∙ symbols_of-definition
