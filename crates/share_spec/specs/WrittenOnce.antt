-- What of a module's text is written out: each part of its trees that no short name stands for. That a tree which is shared is written out
-- at most once: in its abbreviation.
use Rattle.std.specs.Prelude.{◌≡◌, ℕ, ◌≤◌, true, List, [], ◌∷◌, ◌++◌, length, drop, if◌then◌else◌, Option, Some, None}
use Rattle.std.specs.List.{flat_map}
use Rattle.std.specs.Option.{is_some, option_map_or}
use Rattle.lp_spec.specs.Trees.{Tree, App, Lam, Pi}
use Rattle.lp_spec.specs.Modules.{Declaration}
use Rattle.lp_spec.specs.Lemmas.{lemmas}
use Rattle.lp_spec.specs.ModuleOrder.{IsModule}
use Rattle.lp_spec.specs.ShortNames.{short, short_body}
use Rattle.share_spec.specs.MovedTrees.{moved}
use Rattle.share_spec.specs.Folded.{parts_in, places, is_shared, entries_of, place_in, folded}

-- nothing of a tree for which a name is short is written out
abbrev pub unless_short : Option ℕ → List Tree → List Tree
unless_short (Some s) ts = []
unless_short None ts = ts

-- the parts of a tree that are written out, where it stands after these declarations
abbrev pub written_out : List Declaration → Tree → List Tree
written_out m (App f x) = unless_short (short m (App f x)) (written_out m f ++ written_out m x ++ App f x ∷ [])
written_out m (Lam a b) = unless_short (short m (Lam a b)) (written_out m a ++ written_out m b ++ Lam a b ∷ [])
written_out m (Pi a b) = unless_short (short m (Pi a b)) (written_out m a ++ written_out m b ++ Pi a b ∷ [])
written_out m t = unless_short (short m t) (t ∷ [])

-- those of a declaration's type, unless the declaration is an abbreviation, and of its body
abbrev pub written_in : List Declaration → Declaration → List Tree
written_in before d = (if is_some (short_body d) then [] else written_out before d.ty) ++ option_map_or (written_out before) d.body []

-- those of declarations, each after those before it
abbrev pub all_written : List Declaration → List Declaration → List Tree
all_written before [] = []
all_written before (d ∷ ds) = written_in before d ++ all_written (before ++ d ∷ []) ds

-- a tree can be abbreviated in the module of the lemmas and these declarations, and occurs at two places of them
abbrev pub IsSharedIn : List Declaration → Tree → Type 0
IsSharedIn rest t = is_shared (lemmas ++ rest) (flat_map parts_in rest) t ≡ true

-- The law of folded modules: no tree that is shared is written out more than once after the lemmas, the types of abbreviations aside.
abbrev pub WrittenOnce : Type 0
WrittenOnce = (rest : List Declaration) (t : Tree) → IsModule (lemmas ++ rest) → IsSharedIn rest t → let m =
    lemmas ++ rest in places (moved (place_in (entries_of m)) t) (all_written lemmas (drop (length lemmas) (folded m))) ≤ 1
