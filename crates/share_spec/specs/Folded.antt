-- A module with an abbreviation for each tree that can be abbreviated and occurs at two places: a definition with a short name, directly
-- before the first declaration in which the tree occurs.
use Rattle.std.specs.Prelude.{ℕ, zero, suc, ◌&&◌, nat_le, Bool, List, [], ◌∷◌, ◌++◌, length, map, take, drop, if◌then◌else◌, Some, codes}
use Rattle.std.specs.List.{list_any, flat_map, filter}
use Rattle.std.specs.Option.{is_some, unwrap_or, option_map_or}
use Rattle.lp_spec.specs.declared.form.Form.TheVariants.{Def}
use Rattle.lp_spec.specs.Trees.{Tree, App, Lam, Pi, tree_eq}
use Rattle.lp_spec.specs.Modules.{Declaration, types}
use Rattle.lp_spec.specs.Lemmas.{lemmas}
use Rattle.lp_spec.specs.Numerals.{numeral}
use Rattle.share_spec.specs.Abbreviations.{abbreviation}
use Rattle.share_spec.specs.MovedTrees.{moved, moved_declaration}

-- the parts of a tree, from left to right, each before those that it is a part of, with repeats
abbrev pub parts : Tree → List Tree
parts (App f x) = parts f ++ parts x ++ App f x ∷ []
parts (Lam a b) = parts a ++ parts b ++ Lam a b ∷ []
parts (Pi a b) = parts a ++ parts b ++ Pi a b ∷ []
parts t = t ∷ []

-- the parts of a declaration's type and of its body
abbrev pub parts_in : Declaration → List Tree
parts_in d = parts d.ty ++ option_map_or parts d.body []

-- at how many places of these parts a tree stands
abbrev pub places : Tree → List Tree → ℕ
places t [] = 0
places t (u ∷ us) = if tree_eq t u then suc (places t us) else places t us

-- it can be abbreviated, over these declarations, and stands at two places or more
abbrev pub is_shared : List Declaration → List Tree → Tree → Bool
is_shared before all t = is_some (abbreviation before t) && nat_le 2 (places t all)

abbrev pub is_in : Tree → List Tree → Bool
is_in t us = list_any (tree_eq t) us

-- the trees that were not met before, each once, in order
abbrev pub firsts : List Tree → List Tree → List Tree
firsts met [] = []
firsts met (t ∷ ts) = if is_in t met then firsts met ts else t ∷ firsts (met ++ t ∷ []) ts

-- what stands in a folded module, with the symbols' numbers before it is folded: a declaration, or an abbreviation of a tree, with its type
pub data Entry : Type 0 where
  kept : Declaration → Entry
  abbreviated : Tree → Tree → Entry

abbrev pub abbreviations : List Declaration → List Tree → List Entry
abbreviations before ts = map (λ t. abbreviated t (unwrap_or (abbreviation before t) types)) ts

-- declarations after these, each after the abbreviations of what is shared and first occurs in it
abbrev pub entries : List Declaration → List Tree → List Tree → List Declaration → List Entry
entries before all met [] = []
entries before all met (d ∷ ds) = abbreviations before (filter (is_shared before all) (firsts met (parts_in d))) ++ kept d ∷ entries (before ++ d ∷ []) all
    (met ++ parts_in d) ds

-- the lemmas, of which nothing is abbreviated, and the declarations after them
abbrev pub entries_of : List Declaration → List Entry
entries_of m = let first = take (length lemmas) m in let rest = drop (length lemmas) m in map kept first ++ entries first (flat_map parts_in rest) [] rest

-- the place of the i-th declaration among these entries
abbrev pub place_in : List Entry → ℕ → ℕ
place_in [] i = i
place_in (kept d ∷ es) zero = zero
place_in (kept d ∷ es) (suc i) = suc (place_in es i)
place_in (abbreviated t a ∷ es) i = suc (place_in es i)

-- the declarations that entries are, where k abbreviations come before them
abbrev pub declarations : (ℕ → ℕ) → ℕ → List Entry → List Declaration
declarations place k [] = []
declarations place k (kept d ∷ es) = moved_declaration place d ∷ declarations place k es
declarations place k (abbreviated t a ∷ es) =
    record { name = codes "X" ++ numeral k; form = Def; ty = moved place a; body = Some (moved place t) } ∷ declarations place (suc k) es

abbrev pub folded : List Declaration → List Declaration
folded m = let es = entries_of m in declarations (place_in es) 0 es
