-- The entries of a folded module, by numbers: what they stand for, and that they are listed.
use Rattle.std.specs.Prelude.{◌≡◌, ℕ, ◌<◌, ◌≤◌, ◌++◌, min, List, [], ◌∷◌, length, map, take, drop, slice_get, Option, None, Some, nat_eq}
use Rattle.std.specs.List.{filter}
use Rattle.std.specs.Option.{unwrap_or}
use Rattle.indexmap.specs.IndexMap.{get}
use Rattle.lp_spec.specs.Trees.{Tree, SortType}
use Rattle.lp_spec.specs.Modules.{Declaration, symbol}
use Rattle.lp_term.specs.declared.LpId.{LpId}
use Rattle.lp_term.specs.Tables.{tree_at}
use Rattle.holide_sig.specs.declared.module.Module.{Module}
use Rattle.holide_sig.specs.Modules.{declarations_of}
use Rattle.share_spec.specs.Folded.{Entry, kept, abbreviated, abbreviations, entries, firsts, is_shared, parts_in, places}
use Rattle.share_spec.specs.Abbreviations.{abbreviation}
use Rattle.share_laws.specs.FirstsByNodes.{Alike, IsClosed}
use Rattle.share.specs.declared.order.Meeting.{Meeting}
use Rattle.share.specs.declared.listing.Listed.{Listed}
use Rattle.share.specs.declared.listing.Listed.TheVariants as listed
use Rattle.share.specs.declared.listing.Listing.{Listing}
use Rattle.share.specs.Asking.{IsAsking}
use Rattle.share.specs.Counts.{Agrees}
use Rattle.share.specs.Meetings.{met_in}

-- the count of a tree's places among these, up to two
abbrev pub counted : List Tree → Tree → ℕ
counted all t = min 2 (places t all)

-- the abbreviations of those of the trees that are shared
abbrev pub shared_in : List Declaration → List Tree → List Tree → List Entry
shared_in m all ts = abbreviations m (filter (is_shared m all) ts)

-- the entries of the declarations from a number on
abbrev pub listed_from : List Declaration → List Tree → ℕ → List Entry
listed_from m all first = entries (take first m) all [] (drop first m)

abbrev pub declaration_at : List Declaration → ℕ → Declaration
declaration_at m i = unwrap_or (slice_get m i) (symbol [] SortType)

-- what an entry stands for, over these declarations and trees
abbrev pub entry_in : List Declaration → List Tree → Listed → Entry
entry_in m trees (listed.Kept i) = kept (declaration_at m i)
entry_in m trees (listed.Abbreviated body ty) = abbreviated (tree_at trees body.0) (tree_at trees ty.0)

abbrev pub entries_in : List Declaration → List Tree → List Listed → List Entry
entries_in m trees es = map (entry_in m trees) es

-- the numbers of an entry are below these
abbrev pub IsListed : ℕ → ℕ → ℕ → Listed → Type 0
IsListed count bodies types (listed.Kept i) = i < count
IsListed count bodies types (listed.Abbreviated body ty) = (body.0 < bodies) × (ty.0 < types)

abbrev pub AreListed : ℕ → ℕ → ℕ → List Listed → Type 0
AreListed count bodies types [] = Unit {0}
AreListed count bodies types (e ∷ es) = IsListed count bodies types e × AreListed count bodies types es

-- what is asked is asked over the module, and the entries so far are by numbers of it, the bodies' below n
pub record IsListing (source : Module) (n : ℕ) (listing : Listing) : Type 0 where
  pub asking : IsAsking source (get nat_eq listing.answers) listing.waiting
  pub within : n ≤ length source.table
  pub known : AreListed (length source.decls) n (length source.table) listing.entries.items

-- with an abbreviation of the tree that has the number, where there is this type for it
abbrev pub AddsOne : List Tree → List Listed → List Listed → LpId → Option Tree → Type 0
AddsOne trees before after id None = after ≡ before
AddsOne trees before after id (Some a) = (ty : LpId) × (ty.0 < length trees) × (tree_at trees ty.0 ≡ a) × (after ≡ before ++ listed.Abbreviated id ty ∷ [])

-- these entries were added
abbrev pub ListsMore : Module → Module → List Listed → List Listed → List Entry → Type 0
ListsMore old new before after es = entries_in (declarations_of old) new.table after ≡ entries_in (declarations_of old) old.table before ++ es

-- entries of a module over its own trees
abbrev pub entry_of : Module → Listed → Entry
entry_of m e = entry_in (declarations_of m) m.table e

abbrev pub entries_from : Module → List Listed → List Entry
entries_from m es = entries_in (declarations_of m) m.table es

-- What was listed, as the table of the module grew
module _ (old new : Module) where
  -- the abbreviation of a tree, if it can be abbreviated
  abbrev pub AddsAbbreviation : Listing → Listing → LpId → Type 0
  AddsAbbreviation before after id = AddsOne new.table before.entries.items after.entries.items id (abbreviation (declarations_of old) (tree_at old.table id.0))

  -- these, where the counts are those of the places among all of some trees
  abbrev pub ListsCounted : List ℕ → Listing → Listing → (List Declaration → List Tree → List Entry) → Type 0
  ListsCounted counts before after what =
      (all : List Tree) → Agrees old.table counts (counted all) → ListsMore old new before.entries.items after.entries.items (what (declarations_of old) all)

  -- a declaration, after the abbreviations of what is shared and was not met before
  abbrev pub ListsDeclaration : ℕ → List ℕ → Meeting → Listing → Listing → Type 0
  ListsDeclaration number counts meeting before after =
      (all met : List Tree) (d : Declaration) → Agrees old.table counts (counted all) → Alike (met_in old.table meeting) met → IsClosed met
      → slice_get (declarations_of old) number ≡ Some d
      → ListsMore old new before.entries.items after.entries.items (shared_in (declarations_of old) all (firsts met (parts_in d)) ++ kept d ∷ [])

  -- the trees of a declaration were met
  abbrev pub MeetsDeclaration : ℕ → Meeting → Meeting → Type 0
  MeetsDeclaration number before after =
      (met : List Tree) (d : Declaration) → Alike (met_in old.table before) met → IsClosed met → slice_get (declarations_of old) number ≡ Some d
      → Alike (met_in new.table after) (met ++ parts_in d)
