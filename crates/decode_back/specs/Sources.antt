-- What the trees of a source tell, and what is decoded of it.
use Rattle.std.specs.Prelude.{◌≡◌, ℕ, ◌≤◌, List, length, Option}
use Rattle.hol_spec.specs.ClosedForm.{ClosedType, ClosedTerm}
use Rattle.hol_spec.specs.Terms as term
use Rattle.lp_spec.specs.Trees.{Tree, size}
use Rattle.lp_spec.specs.Modules.{applied, Declaration}
use Rattle.lp_term.specs.declared.LpId.{LpId}
use Rattle.lp_term.specs.Tables.{tree_at, trees_at}
use Rattle.holide_sig.specs.Modules.{declarations_of, IsHeld}
use Rattle.hol_term.specs.declared.TermId.{TermId}
use Rattle.hol_term.specs.Tables.{Trees, AreKnown, Holds}
use Rattle.translate_spec.specs.TypeEnc.{Place}
use Rattle.decode_spec.specs.Decode.{term_from, type_of_tree}
use Rattle.decode_back.specs.declared.sources.Source.{Source}
use Rattle.decode_back.specs.Walks.{at_place, greatest_number}
use Rattle.decode_back.specs.TermWalks.{AreVariables, IsHeadFound, IsTermFound}

-- the declarations of a source
abbrev pub declared : Source → List Declaration
declared s = declarations_of s.base.now

-- its place
abbrev pub place_of : Source → Place
place_of s = at_place s.place

-- the tree of a number, and the trees of some
abbrev pub tree_of : Source → LpId → Tree
tree_of s id = tree_at s.base.now.table id.0

abbrev pub trees_of : Source → List LpId → List Tree
trees_of s ids = trees_at s.base.now.table ids

-- a tree is a head, applied to these
abbrev pub IsSpine : Source → LpId → List LpId → LpId → Type 0
IsSpine s head args tree = applied (tree_of s head) (trees_of s args) ≡ tree_of s tree

-- the size of a head applied to these
abbrev pub spine_size : Source → LpId → List LpId → ℕ
spine_size s head args = size (applied (tree_of s head) (trees_of s args))

-- the term that a tree stands for at its place
abbrev pub told : Source → Tree → Option ClosedTerm
told s A = term_from (declared s) A (place_of s)

-- the type that a tree stands for there
abbrev pub told_type : Source → Tree → Option ClosedType
told_type s A = type_of_tree (declared s) (place_of s) A

-- the module of a source is held, and the type variables at its place have names
pub record IsReadable (s : Source) : Type 0 where
  pub held : IsHeld s.base.now
  pub few : s.place.type_variables ≤ greatest_number

-- so it is with a source, whose numbers are those of terms in the table: of as many free variables as there are at its place, and of the
-- variable of the innermost binder
pub record IsSource (table : Trees) (s : Source) : Type 0 where
  pub readable : IsReadable s
  pub variables : AreKnown table s.variables.now
  pub all : length s.variables.now ≡ s.place.free_variables
  pub innermost : Holds table s.innermost.0 (term.bound 0)

-- where the free variables of a source have types, the term is found that is told, and what is left and its size are what there was
abbrev pub IsDecoded : Source → ℕ → Option ClosedTerm → Trees → ℕ → Trees → ℕ → Option TermId → Type 0
IsDecoded s level told table there now left found =
    (types : List ClosedType) → AreVariables table s.variables.now types → IsTermFound level types there left told now found

-- the same of a head with its arguments, of which it takes some and leaves the rest
abbrev pub IsHeadDecoded : Source → ℕ → Tree → List LpId → List LpId → ℕ → ℕ → Trees → Option TermId → Type 0
IsHeadDecoded s level H args rest there left now found =
    (types : List ClosedType) → IsHeadFound level types there left (declared s) (place_of s) H (trees_of s args) (trees_of s rest) now found
