-- A module on its way: what is declared of the items of a run, in order.
use Rattle.std.specs.Prelude.{◌≡◌, ℕ, ◌+◌, ◌<◌, ◌++◌, ◌∷◌, [], Bool, true, false, List, length, Some}
use Rattle.article_spec.specs.SoundRuns.{IsSoundRun}
use Rattle.hol_defs.specs.Symbols.{Taken, symbol_at}
use Rattle.hol_spec.specs.Proofs.{Made, Step, made_symbol, steps_of, symbols_of, Accepted}
use Rattle.hol_rules.specs.declared.made.Made.{Made as OneMade}
use Rattle.hol_rules.specs.declared.made.Made.TheVariants as one
use Rattle.hol_rules.specs.Kept.{Kept}
use Rattle.holide_sig.specs.declared.module.Module.{Module}
use Rattle.holide_sig.specs.Modules.{declarations_of, IsHeld}
use Rattle.translate_reach.specs.MadeItems.{definition_made, IsNoted}
use Rattle.translate_reach.specs.Reached.{IsReach}
use Rattle.translate_spec.specs.Items.{Item}
use Rattle.image_laws.specs.Named.{HasNames}
use Rattle.image_items_laws.specs.Making.{items_made, made_items, is_kept, kept_of, declared, step_item, step_symbol, IsNextKept}
use Rattle.translate_rule.specs.declared.items.Item.{Item as AnItem}
use Rattle.translate_rule.specs.declared.items.TypeDefinition.{TypeDefinition}
use Rattle.translate_rule.specs.declared.run.Run.{Run}
use Rattle.translate_rule.specs.declared.builder.ModuleBuilder.{ModuleBuilder}
use Rattle.translate_rule.specs.ItemViews.{accepted, item_name, item_content, IsItemKnown}
use Rattle.translate_rule.specs.Steps.{symbol_in}

-- a run is sound and has names, and the flags tell which of its items the exports reach
pub record IsRun (run : Run) (flags : List Bool) : Type 0 where
  pub sound : IsSoundRun (accepted run)
  pub named : HasNames (accepted run)
  pub reach : IsReach flags run.proof.now.made run.exports.now

-- what is kept of these items is declared
pub record AreDeclared (run : Accepted) (items : List Item) (target : Module) : Type 0 where
  pub held : IsHeld target
  pub declared : declarations_of target ≡ declared run (kept_of run items)

-- and they are counted
pub record AreCounted (run : Accepted) (items : List Item) (now : ModuleBuilder) : Type 0 where
  pub declared : AreDeclared run items now.target
  pub item : now.item ≡ length items

-- an item that is kept: the next one of the module after these, and with it they are those
pub record IsKeptItem (run : Accepted) (items grown : List Item) (k : Kept) (numbers : List ℕ) (one : AnItem) : Type 0 where
  pub x : Item
  pub next : IsNextKept run items grown x
  pub name : x.name ≡ item_name run one
  pub content : x.content ≡ item_content k numbers one
  pub known : IsItemKnown k numbers one

-- an item is the next one after these; where it isn't kept it adds nothing
pub record IsNextItem (run : Accepted) (items grown : List Item) (k : Kept) (numbers : List ℕ) (one : AnItem) : Type 0 where
  pub within : length items < length (made_items run)
  pub more : length grown ≡ length items + 1
  pub kept : is_kept run (length items) ≡ true → IsKeptItem run items grown k numbers one
  pub gone : is_kept run (length items) ≡ false → kept_of run grown ≡ kept_of run items

-- each step so far that is declared has its symbol
abbrev pub HaveNumbers : Accepted → List Made → List ℕ → Type 0
HaveNumbers run earlier numbers = (k : ℕ) → k < length (steps_of earlier) → is_kept run (step_item run k) ≡ true → symbol_in numbers k ≡ step_symbol run k

-- what is kept of what was made so far is declared, and each step that is has its symbol
pub record IsBuilt (run : Accepted) (earlier : List Made) (now : ModuleBuilder) : Type 0 where
  pub counted : AreCounted run (items_made run earlier) now
  pub symbol : now.symbol ≡ length (symbols_of earlier)
  pub steps : length now.numbers.items ≡ length (steps_of earlier)
  pub numbers : HaveNumbers run earlier now.numbers.items

-- a step stands for a step, and every other thing for a symbol or a type definition
abbrev pub IsSameKind : OneMade → Made → Type 0
IsSameKind (one.Step i) (Made.step x) = Unit {0}
IsSameKind (one.Step i) y = ⊥
IsSameKind m y = IsNoted y m

-- a thing is a step, is the symbol that is taken, of which this is noted, or is a type definition
abbrev pub IsStep : Made → Type 0
IsStep y = (x : Step) × (y ≡ Made.step x)

abbrev pub IsTaken : Run → Taken → OneMade → Made → Type 0
IsTaken run taken m y = IsNoted y m × (made_symbol y ≡ Some (symbol_at run.proof.now.trees taken))

abbrev pub IsDefinition : Run → TypeDefinition → Made → Type 0
IsDefinition run d y = y ≡ definition_made run.proof.now.trees d.view d.premise

-- the module of no thing
abbrev pub IsBegun : ModuleBuilder → Type 0
IsBegun now = (run : Accepted) → IsBuilt run [] now

-- the next thing that was made is such a one, and what came before it is in the module
abbrev pub HasThing : Run → (Made → Type 0) → ModuleBuilder → Type 0
HasThing run Is now = (earlier later : List Made) × (y : Made) × (run.proof.now.made ≡ earlier ++ y ∷ later) × Is y × IsBuilt (accepted run) earlier now

-- and then it is in the module too, or its items are
abbrev pub AddsThing : Run → (Made → Type 0) → ModuleBuilder → ModuleBuilder → Type 0
AddsThing run Is old new = (earlier later : List Made) (y : Made) → run.proof.now.made ≡ earlier ++ y ∷ later → Is y → IsBuilt (accepted run) earlier old
    → IsBuilt (accepted run) (earlier ++ y ∷ []) new

abbrev pub AddsItemsOf : Run → (Made → Type 0) → ModuleBuilder → ModuleBuilder → Type 0
AddsItemsOf run Is old new = (earlier later : List Made) (y : Made) → run.proof.now.made ≡ earlier ++ y ∷ later → Is y → IsBuilt (accepted run) earlier old
    → AreCounted (accepted run) (items_made (accepted run) (earlier ++ y ∷ [])) new

-- an item is the next one, and then it is counted, or what is kept of it is declared
abbrev pub HasNext : Run → AnItem → ModuleBuilder → Type 0
HasNext run one now = (items grown : List Item) × AreCounted (accepted run) items now
    × IsNextItem (accepted run) items grown run.proof.now now.numbers.items one

abbrev pub AddsItem : Run → AnItem → ModuleBuilder → ModuleBuilder → Type 0
AddsItem run one old new = (items grown : List Item) → AreCounted (accepted run) items old
    → IsNextItem (accepted run) items grown run.proof.now old.numbers.items one → AreCounted (accepted run) grown new

abbrev pub DeclaresNext : Run → AnItem → ModuleBuilder → Module → Type 0
DeclaresNext run one old target = (items grown : List Item) → AreCounted (accepted run) items old
    → IsNextItem (accepted run) items grown run.proof.now old.numbers.items one → AreDeclared (accepted run) grown target

-- an item is kept, and then it is declared
abbrev pub HasKept : Run → AnItem → ModuleBuilder → Type 0
HasKept run one now = (items grown : List Item) × AreDeclared (accepted run) items now.target
    × IsKeptItem (accepted run) items grown run.proof.now now.numbers.items one

abbrev pub Declares : Run → AnItem → ModuleBuilder → Module → Type 0
Declares run one old target = (items grown : List Item) → AreDeclared (accepted run) items old.target
    → IsKeptItem (accepted run) items grown run.proof.now old.numbers.items one → AreDeclared (accepted run) grown target
