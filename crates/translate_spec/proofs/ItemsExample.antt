-- How items are numbered: an input operator, an assumption, a type definition of three items, its law, and an export of it.
use Rattle.hol_spec.specs.declared.Version.TheVariants.{Six}
use Rattle.std.specs.Prelude.{◌≡◌, ℕ, List, [], ◌∷◌}
use Rattle.std.proofs.Common.{refl}
use Rattle.hol_spec.specs.Names.{Name}
use Rattle.hol_spec.specs.Types.{HolType}
use Rattle.hol_spec.specs.Terms.{Term}
use Rattle.hol_spec.specs.Sequents.{Sequent}
use Rattle.hol_spec.specs.Definitions.{TypeNames}
use Rattle.hol_spec.specs.Symbols.{Symbol}
use Rattle.hol_spec.specs.Rules.{Parameters}
use Rattle.hol_spec.specs.Proofs.{Made}
use Rattle.hol_spec.specs.declared.StepKind.TheVariants.{Axiom, Restate, FirstLaw}
use Rattle.translate_spec.specs.Items.{Content, Item}
use Rattle.translate_spec.specs.Reach.{number_key}
use Rattle.translate_spec.specs.MadeItems.{Naming, items_of, roots_of}

module _ (n : Name) (names : TypeNames) (c : HolType) (f : Term) (one law : Sequent) where
  abbrev run : List Made
  run =
      Made.symbol (Symbol.input_operator n 1) ∷ Made.step (record { kind = Axiom; premises = []; parameters = Parameters.sequent one; sequent = one })
      ∷ Made.type_definition names c f 0
      ∷ Made.step (record { kind = FirstLaw; premises = 0 ∷ []; parameters = Parameters.type_operator names Six; sequent = law })
      ∷ Made.step (record { kind = Restate; premises = 1 ∷ []; parameters = Parameters.sequent law; sequent = law }) ∷ []

  abbrev plain : Naming
  plain i x c = []

  abbrev item : ℕ → Content → Item
  item i c = record { symbol = i; name = []; content = c }

  example_items : items_of plain run
      ≡ item 0 (Content.operator n 1) ∷ item 1 (Content.unproved one) ∷ item 2 (Content.type_operator names c f 1 one) ∷ item 3
      (Content.type_abstraction names c f 1 one)
      ∷ item 4 (Content.type_representation names c f 1 one) ∷ item 5 (Content.step FirstLaw (1 ∷ []) (one ∷ []) (Parameters.type_operator names Six) law)
      ∷ item 6 (Content.step Restate (5 ∷ []) (law ∷ []) (Parameters.sequent law) law) ∷ []
  example_items = refl

  example_roots : roots_of plain run (2 ∷ []) ≡ number_key 6 ∷ []
  example_roots = refl
