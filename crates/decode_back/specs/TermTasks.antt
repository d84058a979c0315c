-- The walk that decodes a term: what it is still to do, and the terms that it has made and not yet taken up.
use Rattle.std.specs.Prelude.{◌≡◌, ℕ, ◌+◌, ◌-◌, ◌*◌, ◌<◌, ◌≤◌, Bool, true, false, List, [], ◌∷◌, length, map, Option, Some}
use Rattle.hol_spec.specs.ClosedForm.{ClosedType, ClosedTerm, app, lam}
use Rattle.hol_spec.specs.Limits.{greatest_depth, term_size, type_size}
use Rattle.hol_type.specs.declared.table.TypeId.{TypeId}
use Rattle.hol_type.specs.Tables as type
use Rattle.hol_term.specs.declared.TermId.{TermId}
use Rattle.hol_term.specs.Tables.{Trees, terms_at, AreKnown}
use Rattle.lp_spec.specs.Modules.{Declaration}
use Rattle.lp_spec.specs.Trees.{Tree, size}
use Rattle.lp_term.specs.declared.LpId.{LpId}
use Rattle.lp_term.specs.Tables.{tree_at}
use Rattle.translate_spec.specs.TypeEnc.{place}
use Rattle.translate_spec.specs.TypeEnc as enc
use Rattle.decode_spec.specs.Opened.{open_type, open_term}
use Rattle.decode_spec.specs.Decode.{term_from}
use Rattle.decode_back.specs.declared.places.Place.{Place}
use Rattle.decode_back.specs.declared.terms.Task.{Task}
use Rattle.decode_back.specs.declared.terms.Task.TheVariants.{Visit, Apply, Abstract}
use Rattle.decode_back.specs.declared.terms.Walk.{Walk}
use Rattle.decode_back.specs.declared.sources.Source.{Source}
use Rattle.decode_back.specs.Sources.{declared}
use Rattle.decode_back.specs.Walks.{parameter_name}
use Rattle.decode_back.specs.TermWalks.{AreVariables, NoTermWithin, NoLamWithin}

-- a place under so many binders of a term's own
abbrev pub under : Place → ℕ → enc.Place
under p binders = place p.type_variables p.free_variables p.hypotheses binders

-- visits of some trees, the first of them next, each with the application to what it comes to, and then these tasks
abbrev pub visits : ℕ → ℕ → List LpId → List Task → List Task
visits binders level [] tasks = tasks
visits binders level (id ∷ ids) tasks = Visit id binders level ∷ Apply ∷ visits binders level ids tasks

-- what a walk is to decode: what a tree stands for, of at most this size and this depth
pub record Wanted : Type 0 where
  pub told : Option ClosedTerm
  pub size : ℕ
  pub depth : ℕ

-- what is wanted passes the limits
abbrev pub IsOver : List ClosedType → Wanted → Type 0
IsOver types wanted = NoTermWithin types wanted.size wanted.depth wanted.told

-- with these terms made last and so much left, the tasks come to the wanted term, and the sizes of what they make to its size; where what a
-- task is to make passes the limits, what is wanted does
abbrev pub TermEnds : List Declaration → List Tree → (ℕ → enc.Place) → List ClosedType → Wanted → Trees → List Task → List ClosedTerm → ℕ → Type 0
TermEnds d trees at types wanted table [] made there =
    (c : ClosedTerm) × (wanted.told ≡ Some c) × (made ≡ c ∷ []) × (there + term_size (open_term parameter_name types c) ≡ wanted.size)
TermEnds d trees at types wanted table (Visit tree binders level ∷ rest) made there =
    (NoTermWithin types there level (term_from d (tree_at trees tree.0) (at binders)) → IsOver types wanted)
    × ((c : ClosedTerm) (left : ℕ) → term_from d (tree_at trees tree.0) (at binders) ≡ Some c → left + term_size (open_term parameter_name types c) ≡ there
    → TermEnds d trees at types wanted table rest (c ∷ made) left)
TermEnds d trees at types wanted table (Apply ∷ rest) (x ∷ f ∷ made) there =
    (there ≡ 0 → IsOver types wanted) × ((left : ℕ) → left + 1 ≡ there → TermEnds d trees at types wanted table rest (app f x ∷ made) left)
TermEnds d trees at types wanted table (Apply ∷ rest) (x ∷ []) there = ⊥
TermEnds d trees at types wanted table (Apply ∷ rest) [] there = ⊥
TermEnds d trees at types wanted table (Abstract ty ∷ rest) (b ∷ made) there =
    (t : ClosedType) × type.Holds table.types ty.0 (open_type parameter_name t)
    × (NoLamWithin (open_type parameter_name t) (open_term parameter_name types b) there → IsOver types wanted)
    × ((left : ℕ) → left + (1 + type_size (open_type parameter_name t)) ≡ there → TermEnds d trees at types wanted table rest (lam t b ∷ made) left)
TermEnds d trees at types wanted table (Abstract ty ∷ rest) [] there = ⊥

-- with what was made last and so much left, the tasks come to the wanted term
abbrev pub IsTermWalk : List Declaration → List Tree → (ℕ → enc.Place) → List ClosedType → Wanted → Trees → ℕ → List Task → List TermId → Type 0
IsTermWalk d trees at types wanted table left tasks made =
    (terms : List ClosedTerm) × (terms_at table made ≡ map (open_term parameter_name types) terms) × TermEnds d trees at types wanted table tasks terms left

-- the walk goes on, or what is wanted passes the limits
abbrev pub IsTermTurn : List Declaration → List Tree → (ℕ → enc.Place) → List ClosedType → Wanted → Trees → ℕ → List Task → List TermId → Bool → Type 0
IsTermTurn d trees at types wanted table left tasks made true = IsTermWalk d trees at types wanted table left tasks made
IsTermTurn d trees at types wanted table left tasks made false = IsOver types wanted

-- so many terms made, each task has the trees and the terms that it takes
abbrev pub AreTermTasks : List Tree → Trees → List Task → ℕ → Type 0
AreTermTasks trees table [] made = Unit {0}
AreTermTasks trees table (Visit tree binders level ∷ rest) made =
    (tree.0 < length trees) × (binders + level ≤ greatest_depth) × AreTermTasks trees table rest (made + 1)
AreTermTasks trees table (Apply ∷ rest) made = (fewer : ℕ) × (fewer + 1 ≡ made) × (1 ≤ fewer) × AreTermTasks trees table rest fewer
AreTermTasks trees table (Abstract ty ∷ rest) made = (ty.0 < length table.types) × (1 ≤ made) × AreTermTasks trees table rest made

-- what was made is of the table, and the tasks have what they take
abbrev pub IsTermShape : List Tree → Trees → List Task → List TermId → Type 0
IsTermShape trees table tasks made = AreKnown table made × AreTermTasks trees table tasks (length made)

-- how many turns the tasks take at most
abbrev pub term_work : List Tree → List Task → ℕ
term_work trees [] = 0
term_work trees (Visit tree binders level ∷ rest) = 2 * size (tree_at trees tree.0) + term_work trees rest
term_work trees (Apply ∷ rest) = 1 + term_work trees rest
term_work trees (Abstract ty ∷ rest) = 1 + term_work trees rest

-- a walk with one task more
abbrev pub with_task : Task → Walk → Walk
with_task task w = record w { tasks = task ∷ w.tasks }

-- a walk with the visit of a tree, under the binders of a source's place
abbrev pub visiting : Source → LpId → ℕ → Walk → Walk
visiting s tree level w = with_task (Visit tree s.place.binders level) w

-- at a source's place, the tasks to apply the term made last to the terms of these trees, before these tasks
abbrev pub applying : Source → ℕ → List LpId → List Task → List Task
applying s level args tasks = visits s.place.binders (level - 1) args tasks

-- the tasks to decode a body there, to abstract over it by a variable of a type, and to apply that
abbrev pub abstracting : Source → ℕ → LpId → TypeId → List LpId → List Task → List Task
abstracting s level body ty args tasks = Visit body (s.place.binders + 1) (level - 1) ∷ Abstract ty ∷ applying s level args tasks

-- what a walk over a source made is of the table, and its tasks have what they take
abbrev pub IsShaped : Source → Trees → Walk → Type 0
IsShaped s table w = IsTermShape s.base.now.table table w.tasks w.made

-- how many turns it takes at most
abbrev pub work : Source → Walk → ℕ
work s w = term_work s.base.now.table w.tasks

-- what a walk over a source comes to, it comes to after a turn, or that passes the limits
abbrev pub IsTurned : Source → Trees → Walk → Trees → Walk → Bool → Type 0
IsTurned s table w now v goes_on =
    (types : List ClosedType) (wanted : Wanted) → AreVariables table s.variables.now types
    → IsTermWalk (declared s) s.base.now.table (under s.place) types wanted table w.budget w.tasks w.made
    → IsTermTurn (declared s) s.base.now.table (under s.place) types wanted now v.budget v.tasks v.made goes_on

-- what a walk with a task comes to, it comes to once the task is done, or that passes the limits
abbrev pub IsDone : Task → Trees → ℕ → List TermId → Trees → ℕ → List TermId → Bool → Type 0
IsDone task table there made now left after goes_on =
    (d : List Declaration) (trees : List Tree) (at : ℕ → enc.Place) (types : List ClosedType) (wanted : Wanted) (tasks : List Task)
    → IsTermWalk d trees at types wanted table there (task ∷ tasks) made → IsTermTurn d trees at types wanted now left tasks after goes_on
