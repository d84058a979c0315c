-- Places of sequents, in a list for each conclusion in the order of their hypotheses, of which each stands once.
use Rattle.std.specs.Prelude.{◌≡◌, ◌<◌, ◌≤◌, ◌⊎◌, ℕ, List, [], length, get_or, slice_get, Option, None, Some, Vec}
use Rattle.std.specs.Map.{lookup}
use Rattle.hol_term.specs.declared.TermId.{TermId}
use Rattle.sequent.specs.Sequents.{same_id}
use Rattle.compose.specs.declared.pool.Said.{Said}
use Rattle.compose.specs.Orders.{AreSame, IsBefore}

-- the hypotheses of the sequent at a place, none where there is no sequent
abbrev pub hyps_in : Option Said → List TermId
hyps_in None = []
hyps_in (Some s) = s.sequent.hyps

abbrev pub set_at : List Said → ℕ → List TermId
set_at held place = hyps_in (slice_get held place)

-- the place that a list has there
abbrev pub place_at : List ℕ → ℕ → ℕ
place_at list i = get_or list i 0

abbrev pub IsAmong : List ℕ → ℕ → Type 0
IsAmong list place = (i : ℕ) × (i < length list) × (place_at list i ≡ place)

-- each place of a list has a sequent
abbrev pub AreWithin : List Said → List ℕ → Type 0
AreWithin held list = (i : ℕ) → i < length list → place_at list i < length held

-- the sets of a list of places come one before another
abbrev pub AreOrdered : List Said → List ℕ → Type 0
AreOrdered held list = (i j : ℕ) → i < j → j < length list → IsBefore (set_at held (place_at list i)) (set_at held (place_at list j))

-- a set is that of a place of a list
pub record IsFound (held : List Said) (list : List ℕ) (set : List TermId) (i : ℕ) : Type 0 where
  pub within : i < length list
  pub same : AreSame (set_at held (place_at list i)) set

-- a set comes behind those of a list below one number, and before those from another on
pub record IsBetween (held : List Said) (list : List ℕ) (set : List TermId) (low high : ℕ) : Type 0 where
  pub order : low ≤ high
  pub within : high ≤ length list
  pub below : (i : ℕ) → i < low → IsBefore (set_at held (place_at list i)) set
  pub above : (i : ℕ) → high ≤ i → i < length list → IsBefore set (set_at held (place_at list i))

-- a list after a further place, which is added unless an earlier one has the same set
pub record IsNoted (held : List Said) (place : ℕ) (old new : List ℕ) : Type 0 where
  pub ordered : AreOrdered held new
  pub only : (i : ℕ) → i < length new → IsAmong old (place_at new i) ⊎ (place_at new i ≡ place)
  pub kept : (q : ℕ) → IsAmong old q → IsAmong new q
  pub stands : (q : ℕ) × IsAmong new q × (q ≤ place) × AreSame (set_at held q) (set_at held place)

-- a list after a place was struck off
pub record IsStruck (held : List Said) (place : ℕ) (old new : List ℕ) : Type 0 where
  pub ordered : AreOrdered held new
  pub only : (i : ℕ) → i < length new → IsAmong old (place_at new i) × (place_at new i ≡ place → ⊥)
  pub kept : (q : ℕ) → IsAmong old q → (q ≡ place → ⊥) → IsAmong new q

-- a list has places of sequents of this conclusion alone, in the order of their hypotheses, and for each of them the first that is the same
pub record IsListed (held : List Said) (id : TermId) (list : List ℕ) : Type 0 where
  pub within : (i : ℕ) → i < length list → (s : Said) × (slice_get held (place_at list i) ≡ Some s) × (s.sequent.concl ≡ id)
  pub ordered : AreOrdered held list
  pub first : (p : ℕ) (s : Said) → slice_get held p ≡ Some s → s.sequent.concl ≡ id
      → (q : ℕ) × IsAmong list q × (q ≤ p) × AreSame (set_at held q) s.sequent.hyps

-- the list of a conclusion
abbrev pub items_of : {Z : Type 0} → Option (Vec ℕ Z) → List ℕ
items_of None = []
items_of (Some list) = list.items

abbrev pub list_of : {Z : Type 0} → List (TermId × Vec ℕ Z) → TermId → List ℕ
list_of lists id = items_of (lookup (same_id id) lists)

-- each conclusion has its list
abbrev pub AreListed : {Z : Type 0} → List Said → List (TermId × Vec ℕ Z) → Type 0
AreListed held lists = (id : TermId) → IsListed held id (list_of lists id)
