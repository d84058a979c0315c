-- A walk on its way that meets trees, each once and after its parts.
use Rattle.std.specs.Prelude.{◌≡◌, ℕ, ◌+◌, ◌*◌, ◌<◌, ◌≤◌, Bool, false, List, [], ◌∷◌, ◌++◌, length, get_or}
use Rattle.std.specs.Option.{option_map_or}
use Rattle.lp_spec.specs.Trees.{Tree, App, Lam, Pi, size}
use Rattle.lp_spec.specs.Modules.{Declaration}
use Rattle.lp_term.specs.declared.LpId.{LpId}
use Rattle.lp_term.specs.Tables.{tree_at, trees_at, Holds, IsDistinct}
use Rattle.share_spec.specs.Folded.{is_in}
use Rattle.share_laws.specs.FirstsByNodes.{visit}
use Rattle.share.specs.declared.order.Meeting.{Meeting}
use Rattle.share.specs.declared.order.Turn.{Turn}
use Rattle.share.specs.declared.order.Turn.TheVariants as turn

-- what was met, once the parts of a tree and then itself are met
abbrev pub entered : List Tree → Tree → List Tree
entered done (App f x) = visit (visit done f) x ++ App f x ∷ []
entered done (Lam a b) = visit (visit done a) b ++ Lam a b ∷ []
entered done (Pi a b) = visit (visit done a) b ++ Pi a b ∷ []
entered done t = done ++ t ∷ []

-- what was met, once these turns are taken
abbrev pub unwound : List Tree → List Turn → List Tree → List Tree
unwound trees [] done = done
unwound trees (turn.Enter id ∷ turns) done = unwound trees turns (visit done (tree_at trees id.0))
unwound trees (turn.Leave id ∷ turns) done = unwound trees turns (done ++ tree_at trees id.0 ∷ [])

-- more than how many turns there will be
abbrev pub work : List Tree → List Turn → ℕ
work trees [] = 0
work trees (turn.Enter id ∷ turns) = 3 * size (tree_at trees id.0) + work trees turns
work trees (turn.Leave id ∷ turns) = 1 + work trees turns

abbrev pub tree_of : Turn → LpId
tree_of (turn.Enter id) = id
tree_of (turn.Leave id) = id

-- the turns are of numbers below n
abbrev pub AreTurnsBelow : ℕ → List Turn → Type 0
AreTurnsBelow n [] = Unit {0}
AreTurnsBelow n (t ∷ turns) = ((tree_of t).0 < n) × AreTurnsBelow n turns

-- the numbers are below n
abbrev pub AreIdsBelow : ℕ → List LpId → Type 0
AreIdsBelow n [] = Unit {0}
AreIdsBelow n (id ∷ ids) = (id.0 < n) × AreIdsBelow n ids

-- the trees of these numbers were met, and their numbers have set flags
pub record IsMeeting (trees : List Tree) (met : List Bool) (order : List LpId) : Type 0 where
  pub distinct : IsDistinct trees
  pub within : length met ≤ length trees
  pub known : AreIdsBelow (length met) order
  pub flags : (i : ℕ) (t : Tree) → Holds trees i t → i < length met → get_or met i false ≡ is_in t (trees_at trees order)

-- what was met, once the trees of a declaration are met
abbrev pub visited_in : List Tree → Declaration → List Tree
visited_in done d = option_map_or (visit (visit done d.ty)) d.body (visit done d.ty)

-- the trees that were met, in order
abbrev pub met_in : List Tree → Meeting → List Tree
met_in trees meeting = trees_at trees meeting.order.items

-- the same, once these turns are taken
abbrev pub met_after : List Tree → List Turn → Meeting → List Tree
met_after trees turns meeting = unwound trees turns (met_in trees meeting)
