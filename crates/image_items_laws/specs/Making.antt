-- The module of an accepted run, made item by item: what is declared so far, and the statements of this crate about the next item.
use Rattle.std.specs.Prelude.{◌≡◌, ℕ, ◌+◌, ◌<◌, Bool, true, false, List, [], ◌∷◌, ◌++◌, map, length}
use Rattle.std.specs.List.{AllByRecursion}
use Rattle.article_spec.specs.SoundRuns.{IsSoundRun}
use Rattle.hol_spec.specs.Proofs.{Made, Step, steps_of, sequent_at, Accepted}
use Rattle.hol_spec.specs.Symbols.{Symbol}
use Rattle.hol_spec.specs.Definitions.{TypeNames}
use Rattle.hol_spec.specs.Types.{HolType}
use Rattle.hol_spec.specs.Terms.{Term}
use Rattle.lp_spec.specs.Lemmas.{lemmas}
use Rattle.lp_spec.specs.ModuleOrder.{MayFollow}
use Rattle.lp_spec.specs.Modules.{Declaration, signature}
use Rattle.translate_laws.specs.ItemConditions.{IsContent}
use Rattle.translate_laws.specs.MadeModules.{IsNew}
use Rattle.translate_spec.specs.Image.{symbol_name, type_definition_name, step_name, name_in}
use Rattle.translate_spec.specs.Items.{Content, Item, declaration, symbols_of, module_of}
use Rattle.translate_spec.specs.MadeItems.{Naming, contents_of, type_contents, premise_at, content_by, needed, step_content, contents, numbered, items_of, roots_of}
use Rattle.translate_spec.specs.Reach.{renumbered_content, renumbered, keep_of, symbol_of, image_items}
use Rattle.translate_spec.specs.Rows.{has_row}
use Rattle.translate_spec.specs.Scopes.{SymbolMap}
use Rattle.image_laws.specs.AcceptedRuns.{IsCarried}
use Rattle.image_laws.specs.Named.{HasNames}
use Rattle.image_items_laws.specs.Told.{TellsContent}

-- the items of what some of a run made
abbrev pub items_made : Accepted → List Made → List Item
items_made run made = items_of (name_in run) made

-- the items of what it made, and which of their numbers are kept
abbrev pub made_items : Accepted → List Item
made_items run = items_made run run.made

abbrev pub is_kept : Accepted → ℕ → Bool
is_kept run = keep_of (roots_of (name_in run) run.made run.exports) (made_items run)

-- the symbol in its module of the item with a number
abbrev pub module_number : Accepted → ℕ → ℕ
module_number run = symbol_of (is_kept run)

-- the items of its module, those of some of its items, and the symbols that they give
abbrev pub kept_of : Accepted → List Item → List Item
kept_of run items = image_items (is_kept run) items

abbrev pub kept_items : Accepted → List Item
kept_items run = kept_of run (made_items run)

abbrev pub kept_symbols : Accepted → SymbolMap
kept_symbols run = symbols_of (kept_items run)

-- what is declared once some items of its module are
abbrev pub declared : Accepted → List Item → List Declaration
declared run before = module_of (kept_symbols run) before

-- The statements about the next item of its module: what is declared so far tells what it mentions
abbrev pub NextTells : Type 0
NextTells = (run : Accepted) → IsSoundRun run → HasNames run → (before after : List Item) (x : Item) → kept_items run ≡ before ++ x ∷ after
    → TellsContent (declared run before) (kept_symbols run) x.content

-- its declaration may follow
abbrev pub NextFollows : Type 0
NextFollows = (run : Accepted) → IsSoundRun run → HasNames run → (before after : List Item) (x : Item) → kept_items run ≡ before ++ x ∷ after
    → MayFollow (signature ++ declared run before) (declaration (kept_symbols run) x)

-- it has the next number, is new, and asks for nothing but what is declared so far
pub record IsNext (before : List Item) (x : Item) : Type 0 where
  pub symbol : x.symbol ≡ length signature + (length lemmas + length before)
  pub new : IsNew before x.content
  pub content : IsContent before x.content

abbrev pub NextMade : Type 0
NextMade = (run : Accepted) → IsSoundRun run → (before after : List Item) (x : Item) → kept_items run ≡ before ++ x ∷ after → IsNext before x

-- the number of the item of a step, and the symbol of that item in the module
abbrev pub step_item : Accepted → ℕ → ℕ
step_item run k = (premise_at (made_items run) k).0

abbrev pub step_symbol : Accepted → ℕ → ℕ
step_symbol run k = module_number run (step_item run k)

-- a step as it is used: with the premises that its proof needs
abbrev pub used_step : Accepted → Step → Step
used_step run x = needed (map (sequent_at run.made) x.premises) x

-- what a step is in the module: its premises are told by the symbols that they have there
abbrev pub module_content : Accepted → Step → Content
module_content run x = content_by (has_row x.kind) x.kind (map (step_symbol run) x.premises) (map (sequent_at run.made) x.premises) x.parameters x.sequent

-- The next step: its item is the next one, and in the module has for premises what was said under these symbols; where it is kept, each premise of its proof is
pub record IsNextStep (run : Accepted) (earlier : List Made) (x : Step) : Type 0 where
  pub item : step_item run (length (steps_of earlier)) ≡ length (items_made run earlier)
  pub content : renumbered_content (module_number run) (step_content (items_made run earlier) x) ≡ module_content run (used_step run x)
  pub earlier_premises : AllByRecursion (λ k. k < length (steps_of earlier)) (used_step run x).premises
  pub kept_premises : is_kept run (length (items_made run earlier)) ≡ true → has_row x.kind ≡ true
      → AllByRecursion (λ k. is_kept run (step_item run k) ≡ true) (used_step run x).premises

abbrev pub NextPremises : Type 0
NextPremises = (run : Accepted) → IsSoundRun run → (earlier later : List Made) (x : Step) → run.made ≡ earlier ++ Made.step x ∷ later → IsNextStep run earlier x

-- The items of what was made, in order: those of one thing stand after those of what was made before it
abbrev pub new_items : Accepted → List Made → Made → List Item
new_items run earlier y = numbered (name_in run (length (steps_of earlier)) y) (length (items_made run earlier)) (contents (items_made run earlier) y)

abbrev pub ItemsGrow : Type 0
ItemsGrow = (run : Accepted) (earlier : List Made) (y : Made) → items_made run (earlier ++ y ∷ []) ≡ items_made run earlier ++ new_items run earlier y

abbrev pub ItemsStay : Type 0
ItemsStay = (run : Accepted) (earlier later : List Made) → run.made ≡ earlier ++ later → (rest : List Item) × (made_items run ≡ items_made run earlier ++ rest)

-- of these the module has those that are kept
abbrev pub KeptStays : Type 0
KeptStays = (run : Accepted) (earlier later : List Item) (z : Item) → made_items run ≡ earlier ++ z ∷ later → is_kept run z.symbol ≡ true
    → (kept_items run ≡ kept_of run earlier ++ renumbered (module_number run) z ∷ kept_of run later)
    × (kept_of run (earlier ++ z ∷ []) ≡ kept_of run earlier ++ renumbered (module_number run) z ∷ [])

abbrev pub OthersGo : Type 0
OthersGo = (run : Accepted) (earlier later : List Item) (z : Item) → made_items run ≡ earlier ++ z ∷ later → is_kept run z.symbol ≡ false
    → kept_of run (earlier ++ z ∷ []) ≡ kept_of run earlier

-- an item is the next of the module after what is kept of some items, and with these and one item more it is kept
pub record IsNextKept (run : Accepted) (items grown : List Item) (x : Item) : Type 0 where
  pub after : List Item
  pub whole : kept_items run ≡ kept_of run items ++ x ∷ after
  pub kept : kept_of run grown ≡ kept_of run items ++ x ∷ []

-- the next step as an item of the module
abbrev pub step_in_module : Accepted → List Made → Step → Item
step_in_module run earlier x = record {
  symbol = module_number run (length (items_made run earlier));
  name = step_name run (length (steps_of earlier)) x.kind;
  content = module_content run (used_step run x);
}

-- What the next step adds to the module: its item, where that is kept, else nothing
abbrev pub NextStepKept : Type 0
NextStepKept = (run : Accepted) → IsSoundRun run → (earlier later : List Made) (x : Step) → run.made ≡ earlier ++ Made.step x ∷ later
    → is_kept run (length (items_made run earlier)) ≡ true
    → IsNextKept run (items_made run earlier) (items_made run (earlier ++ Made.step x ∷ [])) (step_in_module run earlier x)

abbrev pub NextStepGone : Type 0
NextStepGone = (run : Accepted) (earlier later : List Made) (x : Step) → run.made ≡ earlier ++ Made.step x ∷ later
    → is_kept run (length (items_made run earlier)) ≡ false
    → kept_of run (items_made run (earlier ++ Made.step x ∷ [])) ≡ kept_of run (items_made run earlier)

-- the items up to some of the contents of the next symbol, the number of the item of the content after these, and that item in the module
abbrev pub items_up_to : Accepted → List Made → Symbol → List Content → List Item
items_up_to run earlier s front = items_made run earlier ++ numbered (λ (c : Content). symbol_name s) (length (items_made run earlier)) front

abbrev pub content_number : Accepted → List Made → List Content → ℕ
content_number run earlier front = length (items_made run earlier) + length front

abbrev pub symbol_in_module : Accepted → List Made → Symbol → List Content → Content → Item
symbol_in_module run earlier s front c = record { symbol = module_number run (content_number run earlier front); name = symbol_name s; content = c }

-- What each content of the next symbol adds: its item, where that is kept, else nothing
abbrev pub NextSymbolKept : Type 0
NextSymbolKept = (run : Accepted) (earlier later : List Made) (s : Symbol) → run.made ≡ earlier ++ Made.symbol s ∷ later
    → (front back : List Content) (c : Content) → contents_of s ≡ front ++ c ∷ back
    → is_kept run (content_number run earlier front) ≡ true
    → IsNextKept run (items_up_to run earlier s front) (items_up_to run earlier s (front ++ c ∷ [])) (symbol_in_module run earlier s front c)

abbrev pub NextSymbolGone : Type 0
NextSymbolGone = (run : Accepted) (earlier later : List Made) (s : Symbol) → run.made ≡ earlier ++ Made.symbol s ∷ later
    → (front back : List Content) (c : Content) → contents_of s ≡ front ++ c ∷ back
    → is_kept run (content_number run earlier front) ≡ false → kept_of run (items_up_to run earlier s (front ++ c ∷ []))
    ≡ kept_of run (items_up_to run earlier s front)

-- the items up to some of the contents of the next type definition, and the item of the content after these in the module
abbrev pub definition_up_to : Accepted → List Made → List Content → List Item
definition_up_to run earlier front = items_made run earlier ++ numbered type_definition_name (length (items_made run earlier)) front

abbrev pub definition_in_module : Accepted → List Made → List Content → Content → Item
definition_in_module run earlier front c = record
    { symbol = module_number run (content_number run earlier front); name = type_definition_name c; content = renumbered_content (module_number run) c }

-- these are the contents of the next type definition
abbrev pub AreDefinitionContents : Accepted → List Made → TypeNames → HolType → Term → ℕ → List Content → Type 0
AreDefinitionContents run earlier names a f k cs = type_contents names a f (premise_at (items_made run earlier) k) ≡ cs

-- What each content of the next type definition adds: its item, where that is kept, else nothing
abbrev pub NextDefinitionKept : Type 0
NextDefinitionKept = (run : Accepted) (earlier later : List Made) (names : TypeNames) (a : HolType) (f : Term) (k : ℕ) → run.made ≡ earlier
    ++ Made.type_definition names a f k ∷ later
    → (front back : List Content) (c : Content) → AreDefinitionContents run earlier names a f k (front ++ c ∷ back)
    → is_kept run (content_number run earlier front) ≡ true
    → IsNextKept run (definition_up_to run earlier front) (definition_up_to run earlier (front ++ c ∷ [])) (definition_in_module run earlier front c)

abbrev pub NextDefinitionGone : Type 0
NextDefinitionGone = (run : Accepted) (earlier later : List Made) (names : TypeNames) (a : HolType) (f : Term) (k : ℕ) → run.made ≡ earlier
    ++ Made.type_definition names a f k ∷ later
    → (front back : List Content) (c : Content) → AreDefinitionContents run earlier names a f k (front ++ c ∷ back)
    → is_kept run (content_number run earlier front) ≡ false
    → kept_of run (definition_up_to run earlier (front ++ c ∷ [])) ≡ kept_of run (definition_up_to run earlier front)

-- The premise of the next type definition: an earlier step, which is kept with each of the contents
pub record IsNextDefinition (run : Accepted) (earlier : List Made) (names : TypeNames) (a : HolType) (f : Term) (k : ℕ) : Type 0 where
  pub premise : premise_at (items_made run earlier) k ≡ (step_item run k, sequent_at run.made k)
  pub earlier_premise : k < length (steps_of earlier)
  pub kept_premise : (front back : List Content) (c : Content) → AreDefinitionContents run earlier names a f k (front ++ c ∷ back)
      → is_kept run (content_number run earlier front) ≡ true → is_kept run (step_item run k) ≡ true

abbrev pub NextDefinition : Type 0
NextDefinition = (run : Accepted) → IsSoundRun run → (earlier later : List Made) (names : TypeNames) (a : HolType) (f : Term) (k : ℕ) → run.made ≡ earlier
    ++ Made.type_definition names a f k ∷ later → IsNextDefinition run earlier names a f k

-- A run that is sound is carried: its module is shaped, well typed and priced, and each export is what an item says
abbrev pub SoundCarried : Type 0
SoundCarried = (named : Naming) (run : Accepted) → IsSoundRun run → IsCarried named run
