-- Declarations over trees that were made anew.
use Rattle.std.specs.Prelude.{◌≡◌, ℕ, suc, ◌++◌, List, Option, Some, option_map, codes}
use Rattle.lp_spec.specs.declared.form.Form.TheVariants.{Def}
use Rattle.lp_spec.specs.Trees.{Tree}
use Rattle.lp_spec.specs.Modules.{signature, Declaration}
use Rattle.lp_spec.specs.ModuleOrder.{AreDeclared, MayFollow}
use Rattle.lp_spec.specs.Numerals.{numeral}
use Rattle.lp_term.specs.declared.LpId.{LpId}
use Rattle.lp_term.specs.Tables.{tree_at}
use Rattle.holide_sig.specs.declared.decls.Decl.{Decl}
use Rattle.holide_sig.specs.declared.module.Module.{Module}
use Rattle.holide_sig.specs.Modules.{declaration_in, declarations_of, IsBodyKnown, IsKnown}
use Rattle.share_spec.specs.MovedTrees.{moved, moved_declaration}
use Rattle.share_spec.specs.Folded.{Entry, kept, abbreviated}
use Rattle.share.specs.Moving.{AreMade}

-- the body that is made has a number, and is the moved one
abbrev pub IsMadeBody : (ℕ → ℕ) → List Tree → List Tree → Option LpId → Option LpId → Type 0
IsMadeBody place source target body made = IsBodyKnown target made
    × (option_map (λ id. tree_at target id.0) made ≡ option_map (moved place) (option_map (λ id. tree_at source id.0) body))

-- over these trees the declaration is that one
abbrev pub IsMadeOf : List Tree → Declaration → Decl → Type 0
IsMadeOf target declaration d = IsKnown target d × (declaration_in target d ≡ declaration)

-- the abbreviation of a tree of the source, with its type, once their symbols have other numbers
abbrev pub abbreviation_of : (ℕ → ℕ) → List Tree → LpId → LpId → ℕ → Declaration
abbreviation_of place source body ty number = record
    { name = codes "X" ++ numeral number; form = Def; ty = moved place (tree_at source ty.0); body = Some (moved place (tree_at source body.0)) }

-- the declaration that an entry is, where so many abbreviations come before it
abbrev pub declaration_of : (ℕ → ℕ) → ℕ → Entry → Declaration
declaration_of place k (kept d) = moved_declaration place d
declaration_of place k (abbreviated t a) = record { name = codes "X" ++ numeral k; form = Def; ty = moved place a; body = Some (moved place t) }

-- how many abbreviations there are after an entry
abbrev pub number_after : ℕ → Entry → ℕ
number_after k (kept d) = k
number_after k (abbreviated t a) = suc k

-- over any trees of which these are what was made, the declaration is that one
abbrev pub IsMadeFrom : List Tree → List LpId → ((ℕ → ℕ) → Declaration) → Decl → Type 0
IsMadeFrom source made what d = (place : ℕ → ℕ) (target : List Tree) → AreMade place source target made → IsMadeOf target (what place) d

abbrev pub IsMadeAnywhere : List LpId → ((ℕ → ℕ) → List Tree → Declaration) → Decl → Type 0
IsMadeAnywhere made what d = (place : ℕ → ℕ) (source target : List Tree) → AreMade place source target made → IsMadeOf target (what place source) d

-- What is declared in a module over what was made of another's trees
module _ (source old : Module) where
  -- it may be declared next, or one after another
  abbrev pub MayBeMade : List LpId → ((ℕ → ℕ) → Declaration) → Type 0
  MayBeMade made what = (place : ℕ → ℕ) × AreMade place source.table old.table made × MayFollow (signature ++ declarations_of old) (what place)

  abbrev pub MayAllBeMade : List LpId → ((ℕ → ℕ) → List Declaration) → Type 0
  MayAllBeMade made what = (place : ℕ → ℕ) × AreMade place source.table old.table made × AreDeclared (signature ++ declarations_of old) (what place)

  -- these were declared
  abbrev pub AddsMade : Module → List LpId → ((ℕ → ℕ) → List Declaration) → Type 0
  AddsMade new made what = (place : ℕ → ℕ) → AreMade place source.table old.table made → declarations_of new ≡ declarations_of old ++ what place
