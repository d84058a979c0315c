-- The items of what a proof made, without names, and what each of them needs by the numbers of a table.
use Rattle.std.specs.Prelude.{◌≡◌, ℕ, ◌<◌, ◌≤◌, List, [], ◌∷◌, ◌++◌, map, length, drop, slice_index_or, None, Bool, false}
use Rattle.std.specs.List.{AllByRecursion}
use Rattle.hol_spec.specs.Names.{Name}
use Rattle.hol_spec.specs.Lists.{IsIn}
use Rattle.hol_spec.specs.Proofs.{Made, Step, sequent_at, steps_of, symbols_of}
use Rattle.hol_spec.specs.Symbols.{Symbol}
use Rattle.hol_type.specs.Tables.{tree_at}
use Rattle.hol_term.specs.Tables.{Trees, term_at, type_at}
use Rattle.hol_defs.specs.declared.readers.TypeOpView.{TypeOpView}
use Rattle.hol_defs.specs.Symbols.{named}
use Rattle.hol_rules.specs.Kept.{Kept, step_count}
use Rattle.hol_rules.specs.declared.made.Made.{Made as OneMade}
use Rattle.hol_rules.specs.declared.made.Made.TheVariants as one
use Rattle.hol_rules.specs.Views.{made_of, step_at}
use Rattle.translate_spec.specs.Rows.{has_row}
use Rattle.translate_spec.specs.Items.{Content, Item, is_constant, is_operator, says}
use Rattle.translate_spec.specs.MadeItems.{Naming, content_by, items_of, needed, roots_of, said_by}
use Rattle.translate_spec.specs.Reach.{Key, constant_key, operator_key, number_key, gives, given_keys, is_wanted, keep_of, needs, type_keys, term_keys, wanted_from}
use Rattle.translate_laws.specs.MadeModules.{any_content}
use Rattle.translate_laws.specs.WantedItems.{AreMadeInOrder}
use Rattle.translate_reach.specs.declared.items.Items.{Items}
use Rattle.translate_reach.specs.declared.items.Need.{Need}
use Rattle.translate_reach.specs.declared.items.Need.TheVariants as need
use Rattle.translate_reach.specs.declared.walk.Walk.{Walk}
use Rattle.translate_reach.specs.Indexes.{IsIndex}
use Rattle.translate_reach.specs.Reached.{flag}
use Rattle.translate_reach.specs.Walks.{IsWalk, Wants}

-- names that are none: names play no part
abbrev pub unnamed : Naming
unnamed n x c = []

-- the items of what was made
abbrev pub made_items : List Made → List Item
made_items made = items_of unnamed made

-- the numbers of the items that are steps
abbrev pub numbers_of : List Item → List ℕ
numbers_of items = map (λ p. p.0) (said_by items)

-- the item of a step
abbrev pub number_in : List ℕ → ℕ → ℕ
number_in numbers k = slice_index_or numbers k 0

-- a step with the premises that its proof needs
abbrev pub needed_at : List Made → ℕ → Step
needed_at made id = needed (map (sequent_at made) (step_at made id).premises) (step_at made id)

-- the content of the item that a step is, where steps have these items
abbrev pub shown_at : List ℕ → List Made → Step → Content
shown_at numbers made x = content_by (has_row x.kind) x.kind (map (number_in numbers) x.premises) (map (sequent_at made) x.premises) x.parameters x.sequent

abbrev pub content_at : List ℕ → List Made → ℕ → Content
content_at numbers made id = shown_at numbers made (needed_at made id)

-- the keys that an item needs
abbrev pub need_keys : Kept → Need → List Key
need_keys p need.Nothing = []
need_keys p (need.Term id) = term_keys (term_at p.trees id.0)
need_keys p (need.Part id a) = number_key (number_in (numbers_of (made_items p.made)) id) ∷ type_keys (tree_at p.trees.types a.0)
need_keys p (need.Step id) = needs (content_at (numbers_of (made_items p.made)) p.made id)

-- what the item with a number needs
abbrev pub need_at : Items → ℕ → Need
need_at items i = slice_index_or items.needs.items i need.Nothing

-- the numbers in it are of the proof
abbrev pub IsNeedKnown : Kept → Need → Type 0
IsNeedKnown p need.Nothing = Unit {0}
IsNeedKnown p (need.Term id) = id.0 < length p.trees.terms
IsNeedKnown p (need.Part id a) = (id < step_count p) × (a.0 < length p.trees.types)
IsNeedKnown p (need.Step id) = id < step_count p

abbrev pub needs_item : Item → List Key
needs_item x = needs x.content

-- what is kept of these items is right
pub record AreListed (p : Kept) (list : List Item) (items : Items) : Type 0 where
  pub index : IsIndex list items.index
  pub steps : items.steps.items ≡ numbers_of list
  pub needs : map (need_keys p) items.needs.items ≡ map needs_item list
  pub known : AllByRecursion (IsNeedKnown p) items.needs.items

-- the items of what was made are numbered in order, each new and on what was made before it
abbrev pub IsInOrder : Kept → Type 0
IsInOrder p = AreMadeInOrder [] (made_items p.made)

-- the items of all that the proof made
abbrev pub AreItems : Kept → Items → Type 0
AreItems p items = AreListed p (made_items p.made) items

-- an item that comes next, a constant with this name and what it needs
pub record AddsConstant (p : Kept) (list : List Item) (n : Name) (what : Need) (x : Item) : Type 0 where
  pub number : x.symbol ≡ length list
  pub key : gives x ≡ constant_key n
  pub silent : says x.content ≡ None
  pub new : any_content (is_constant n) list ≡ false
  pub needs : needs x.content ≡ need_keys p what
  pub known : IsNeedKnown p what

-- an item that comes next, an operator with this name, so many arguments and what it needs
pub record AddsOperator (p : Kept) (list : List Item) (n : Name) (k : ℕ) (what : Need) (x : Item) : Type 0 where
  pub number : x.symbol ≡ length list
  pub key : gives x ≡ operator_key n k
  pub silent : says x.content ≡ None
  pub new : any_content (is_operator n k) list ≡ false
  pub needs : needs x.content ≡ need_keys p what
  pub known : IsNeedKnown p what

-- what is noted stands for a symbol, or for a type definition, which is noted with its step
abbrev pub IsNoted : Made → OneMade → Type 0
IsNoted (Made.symbol x) m = Unit {0}
IsNoted (Made.type_definition names c f i) (one.TypeOp n j) = i ≡ j
IsNoted (Made.type_definition names c f i) m = ⊥
IsNoted (Made.step x) m = ⊥

-- the definition of a type operator from a step
abbrev pub definition_made : Trees → TypeOpView → ℕ → Made
definition_made trees x i = Made.type_definition (named x.op.now x.abs.now x.rep.now x.names.now) (type_at trees x.whole.0) (term_at trees x.predicate.0) i

-- a walk over these items, and what it wants more
abbrev pub IsWalkOf : Kept → Walk → Type 0
IsWalkOf p w = IsWalk p.trees (made_items p.made) w

abbrev pub WantsOf : Kept → List Key → Walk → Walk → Type 0
WantsOf p ks old new = Wants p.trees (made_items p.made) ks old new

-- the keys of steps
abbrev pub step_keys : Kept → List ℕ → List Key
step_keys p ids = map number_key (map (number_in (numbers_of (made_items p.made))) ids)

-- the keys of a step's proof: its premises, and what it defines
abbrev pub proof_keys : Kept → ℕ → List Key
proof_keys p id = step_keys p (needed_at p.made id).premises ++ given_keys (needed_at p.made id).parameters

-- the steps are of the proof
abbrev pub AreSteps : Kept → List ℕ → Type 0
AreSteps p ids = AllByRecursion (λ id. id < step_count p) ids

-- the items from a number on were looked at: what is marked is what is wanted, and their flags are known
pub record IsLooked (p : Kept) (exports : List ℕ) (w : Walk) (flags : List Bool) (i : ℕ) : Type 0 where
  pub walk : IsWalkOf p w
  pub tasks : w.tasks ≡ []
  pub wanted : (x : Item) → IsIn (made_items p.made) x → flag w.marks.items x.symbol
      ≡ is_wanted (wanted_from (roots_of unnamed p.made exports) (drop i (made_items p.made))) x
  pub count : length flags ≡ length (made_items p.made)
  pub each : (j : ℕ) → i ≤ j → flag flags j ≡ keep_of (roots_of unnamed p.made exports) (made_items p.made) j
  pub within : i ≤ length (made_items p.made)

-- what was taken of what a proof made, where this is still to be taken
pub record AreTaken (p : Kept) (rest : List OneMade) (items : Items) (symbol : ℕ) : Type 0 where
  pub front : List Made
  pub symbols : List Symbol
  pub whole : p.made ≡ front ++ made_of symbols (steps_of p.made) rest
  pub listed : AreListed p (made_items front) items
  pub count : symbol ≡ length (symbols_of front)
