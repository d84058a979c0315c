-- The items of what a proof made: each symbol at the place where it was taken, the operator and the two constants of a type definition
-- one after the other, and each step. The premises of a step and of a type definition, told by the numbers of steps, become the numbers of
-- items; assumptions are items without a body.
use Rattle.std.specs.Prelude.{Bool, true, false, not, if◌then◌else◌, ℕ, ◌+◌, drop, List, [], ◌∷◌, ◌++◌, length, map, Option, slice_index_or}
use Rattle.std.specs.Option.{option_map}
use Rattle.std.specs.List.{filter_map}
use Rattle.hol_spec.specs.Primitives.{generic}
use Rattle.hol_spec.specs.Lists.{is_in}
use Rattle.hol_spec.specs.Terms.{Term, bound, term_eq}
use Rattle.hol_spec.specs.Sequents.{Sequent}
use Rattle.hol_spec.specs.Types.{HolType}
use Rattle.hol_spec.specs.Definitions.{Definition, TypeNames}
use Rattle.hol_spec.specs.Symbols.{Symbol}
use Rattle.hol_spec.specs.Proofs.{Made, Step}
use Rattle.hol_spec.specs.Rules.{Parameters}
use Rattle.hol_spec.specs.declared.StepKind.{StepKind}
use Rattle.hol_spec.specs.declared.StepKind.TheVariants.{ProveHyp, Restate}
use Rattle.translate_spec.specs.Rows.{has_row, type_or}
use Rattle.translate_spec.specs.Items.{Content, Item, says}
use Rattle.translate_spec.specs.Reach.{Key, number_key}

-- The contents that a symbol gives, but for those of a type definition.
abbrev pub contents_of : Symbol → List Content
contents_of (Symbol.input_constant n) = Content.constant n generic ∷ []
contents_of (Symbol.input_operator n k) = Content.operator n k ∷ []
contents_of (Symbol.defined (Definition.constant n t)) = Content.defined_constant n (type_or t) t ∷ []
contents_of (Symbol.defined (Definition.type_operator names c f)) = []

-- The contents of a type definition, by the theorem of this number and this sequent.
abbrev pub type_contents : TypeNames → HolType → Term → ℕ × Sequent → List Content
type_contents names c f one = Content.type_operator names c f one.0 one.1 ∷ Content.type_abstraction names c f one.0 one.1 ∷ Content.type_representation names c
    f one.0 one.1 ∷ []

-- What items say, each with its number, in order: the k-th is that of the k-th step.
abbrev pub said_of : Item → Option (ℕ × Sequent)
said_of x = option_map (λ (s : Sequent). (x.symbol, s)) (says x.content)

abbrev pub said_by : List Item → List (ℕ × Sequent)
said_by items = filter_map said_of items

abbrev pub premise_at : List Item → ℕ → ℕ × Sequent
premise_at items k = slice_index_or (said_by items) k (0, record { hypotheses = []; conclusion = bound 0 })

-- A step that has a proof, or what is given.
abbrev pub content_by : Bool → StepKind → List ℕ → List Sequent → Parameters → Sequent → Content
content_by true kind premises sequents parameters s = Content.step kind premises sequents parameters s
content_by false kind premises sequents parameters s = Content.unproved s

-- Whether a step is by `proveHyp` where the first premise proves no hypothesis of the second: its proof is the second premise alone.
abbrev pub proves_nothing : StepKind → List Sequent → Bool
proves_nothing ProveHyp (one ∷ two ∷ []) = not (is_in term_eq one.conclusion two.hypotheses)
proves_nothing kind premises = false

-- A step with the premises that its proof needs.
abbrev pub restated : Step → Step
restated x = record { kind = Restate; premises = drop 1 x.premises; parameters = Parameters.sequent x.sequent; sequent = x.sequent }

abbrev pub needed : List Sequent → Step → Step
needed sequents x = if proves_nothing x.kind sequents then restated x else x

abbrev pub sequents_at : List Item → List ℕ → List Sequent
sequents_at before ks = map (λ k. (premise_at before k).1) ks

abbrev pub shown_content : List Item → Step → Content
shown_content before x = content_by (has_row x.kind) x.kind (map (λ k. (premise_at before k).0) x.premises) (sequents_at before x.premises) x.parameters
    x.sequent

abbrev pub step_content : List Item → Step → Content
step_content before x = shown_content before (needed (sequents_at before x.premises) x)

abbrev pub contents : List Item → Made → List Content
contents before (Made.symbol x) = contents_of x
contents before (Made.type_definition names c f i) = type_contents names c f (premise_at before i)
contents before (Made.step x) = step_content before x ∷ []

-- contents as items with these names, numbered from i
abbrev pub numbered : (Content → List ℕ) → ℕ → List Content → List Item
numbered named i [] = []
numbered named i (c ∷ cs) = record { symbol = i; name = named c; content = c } ∷ numbered named (i + 1) cs

-- names of what is made after so many steps
abbrev pub Naming : Type 0
Naming = ℕ → Made → Content → List ℕ

module _ (named : Naming) where
  -- the items after what was made, on those before it
  abbrev pub items_after : List Item → List Made → List Item
  items_after before [] = before
  items_after before (x ∷ xs) = items_after (before ++ numbered (named (length (said_by before)) x) (length before) (contents before x)) xs

  abbrev pub items_of : List Made → List Item
  items_of made = items_after [] made

  -- the keys of the exports
  abbrev pub roots_of : List Made → List ℕ → List Key
  roots_of made exports = map (λ k. number_key (premise_at (items_of made) k).0) exports
