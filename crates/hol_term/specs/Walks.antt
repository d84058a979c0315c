-- What a walk makes of the parts of a tree.
use Rattle.std.specs.Prelude.{◌≡◌, ◌⊎◌, ℕ, ◌+◌, ◌-◌, ◌<◌, ◌≤◌, ◌^◌, List, [], ◌∷◌, length, reverse, slice_get, Some}
use Rattle.hol_spec.specs.Types.{HolType, variable}
use Rattle.hol_spec.specs.Terms.{Term, free, bound, constant, app, lam, Variable}
use Rattle.hol_spec.specs.TermBinding.{lift_at, put_all_at, close_at, loose}
use Rattle.hol_term.specs.declared.TermId.{TermId}
use Rattle.hol_term.specs.declared.memo.Change.{Change}
use Rattle.hol_term.specs.declared.memo.Change.TheVariants.{Raise, Replace, Close}
use Rattle.hol_term.specs.declared.memo.Place.{Place}
use Rattle.hol_term.specs.declared.walk.Replacement.{Replacement}
use Rattle.hol_term.specs.declared.walk.Replacement.TheVariants.{Renamed, Argument}
use Rattle.hol_term.specs.declared.walk.Task.{Task}
use Rattle.hol_term.specs.declared.walk.Task.TheVariants.{Visit, Apply, Abstract, Note}
use Rattle.hol_term.specs.Tables.{Trees, term_at, terms_at, AreKnown, Holds, Keeps}
use Rattle.hol_type.specs.Tables as type
use Rattle.tree_map.specs.Noted.{IsNoted}
use Rattle.hol_term.specs.Masks.{IsWithout}

-- the free variable that is the one argument
abbrev pub variable_of : List Term → Variable
variable_of (free n t ∷ ts) = (n, t)
variable_of _ = ([], variable [])

-- what a change with these arguments makes of a tree under d binders
abbrev pub changed : List Term → Change → ℕ → Term → Term
changed args (Raise k) d t = lift_at d k t
changed args Replace d t = put_all_at d args t
changed args Close d t = close_at d (variable_of args) t

-- the tree that is wanted at a place
abbrev pub wanted : List Term → Trees → Place → Term
wanted args trees place = changed args place.change place.depth (term_at trees place.id.0)

-- what closes a term has a free variable as its one argument
abbrev pub CanClose : List Term → Change → Type 0
CanClose args change = change ≡ Close → (v : Variable) × (args ≡ free v.0 v.1 ∷ [])

-- the place's tree is of the table, and the binders round its parts can be counted
abbrev pub IsPlace : Trees → Place → Type 0
IsPlace trees place = (place.id.0 < length trees.terms) × (place.depth + place.id.0 < 2 ^ 64)

-- the change leaves the place's tree alone: it lifts by nothing, or no number of the tree passes the binders and the variable that is closed over isn't free in it
abbrev pub IsLeftAlone : List Term → Trees → Place → Type 0
IsLeftAlone args trees place =
    (place.change ≡ Raise 0)
    ⊎ ((place.change ≡ Close → IsWithout (variable_of args) (term_at trees place.id.0)) × (loose (term_at trees place.id.0) ≤ place.depth))

-- what stands for the number n of a place, whatever the arguments
abbrev pub IsReplaced : List TermId → Place → ℕ → Replacement → Type 0
IsReplaced ids place n (Renamed m) = (m < 2 ^ 128 - 1)
    × ((args : List Term) → length args ≡ length ids → changed args place.change place.depth (bound n) ≡ bound m)
IsReplaced ids place n (Argument id) = (place.change ≡ Replace) × (place.depth ≤ n) × (slice_get (reverse ids) (n - place.depth) ≡ Some id)
    × ((i : ℕ) × (slice_get ids i ≡ Some id))

-- there is one at least
abbrev pub NotEmpty : {A : Type 0} → List A → Type 0
NotEmpty [] = ⊥
NotEmpty (x ∷ xs) = Unit {0}

-- the numbers hold these terms
abbrev pub AreHeld : Trees → List TermId → List Term → Type 0
AreHeld trees [] [] = Unit {0}
AreHeld trees (id ∷ ids) (t ∷ ts) = Holds trees id.0 t × AreHeld trees ids ts
AreHeld trees [] (t ∷ ts) = ⊥
AreHeld trees (id ∷ ids) [] = ⊥

-- What is wanted is told by the trees that the table had at the beginning.
module _ (from : Trees) (ids : List TermId) where
  -- each tree of the memo is the one that is wanted at its place
  abbrev pub IsMemo : Trees → List (Place × TermId) → Type 0
  IsMemo trees memo = (place : Place) (id : TermId) → IsNoted memo place id → Holds trees id.0 (wanted (terms_at from ids) from place)

  -- a place that can be made
  abbrev pub IsTask : Place → Type 0
  IsTask place = IsPlace from place × CanClose (terms_at from ids) place.change

  -- with these terms made last, the tasks come to the root's: a task takes up what it is made of, and puts what is wanted at its place
  abbrev pub Ends : Trees → Term → List Task → List Term → Type 0
  Ends trees root [] made = made ≡ root ∷ []
  Ends trees root (Visit p ∷ rest) made = IsTask p × Ends trees root rest (wanted (terms_at from ids) from p ∷ made)
  Ends trees root (Apply p ∷ rest) (x ∷ f ∷ made) = (app f x ≡ wanted (terms_at from ids) from p) × Ends trees root rest (app f x ∷ made)
  Ends trees root (Apply p ∷ rest) (x ∷ []) = ⊥
  Ends trees root (Apply p ∷ rest) [] = ⊥
  Ends trees root (Abstract p ty ∷ rest) (b ∷ made) =
      (t : HolType) × type.Holds trees.types ty.0 t × (lam t b ≡ wanted (terms_at from ids) from p) × Ends trees root rest (lam t b ∷ made)
  Ends trees root (Abstract p ty ∷ rest) [] = ⊥
  Ends trees root (Note p ∷ rest) (t ∷ made) = (t ≡ wanted (terms_at from ids) from p) × Ends trees root rest (t ∷ made)
  Ends trees root (Note p ∷ rest) [] = ⊥

-- a walk that is to make the root's term
pub record IsWalk (from : Trees) (root : Term) (trees : Trees) (ids : List TermId) (tasks : List Task) (made : List TermId)
    (memo : List (Place × TermId)) : Type 0 where
  pub keeps : Keeps from trees
  pub known : AreKnown from ids
  pub terms : List Term
  pub held : AreHeld trees made terms
  pub ends : Ends from ids trees root tasks terms
  pub noted : IsMemo from ids trees memo

-- how many turns it takes at most to make a tree, where each bound number takes so many more
abbrev pub turns : ℕ → Term → ℕ
turns more (free n t) = 1
turns more (bound k) = 2 + more
turns more (constant n t) = 1
turns more (app f x) = 2 + turns more f + turns more x
turns more (lam t b) = 2 + turns more b

-- an argument may be lifted wherever a bound number stands
abbrev pub turns_of_all : List Term → ℕ
turns_of_all [] = 0
turns_of_all (t ∷ ts) = turns 0 t + turns_of_all ts

abbrev pub lifting : List Term → Change → ℕ
lifting args (Raise k) = 0
lifting args Replace = turns_of_all args
lifting args Close = 0

abbrev pub work_at : Trees → List TermId → Place → ℕ
work_at from ids p = turns (lifting (terms_at from ids) p.change) (term_at from p.id.0)

-- how many turns the tasks take at most
abbrev pub work : Trees → List TermId → List Task → ℕ
work from ids [] = 0
work from ids (Visit p ∷ rest) = work_at from ids p + work from ids rest
work from ids (Apply p ∷ rest) = 1 + work from ids rest
work from ids (Abstract p ty ∷ rest) = 1 + work from ids rest
work from ids (Note p ∷ rest) = 1 + work from ids rest
