-- Numbers of contexts.
use Rattle.std.specs.Prelude.{◌≡◌, ℕ, suc, List, [], ◌∷◌, Some, slice_get}
use Rattle.lp_term.specs.declared.LpId.{LpId}
use Rattle.lp_kernel.specs.declared.contexts.Scope.{Scope}
use Rattle.lp_kernel.specs.declared.state.State.{State}

-- the number is one more than the place of the context with this type innermost, and with that number outside
pub record IsInner (scopes : List Scope) (key outer : ℕ) (entry : LpId) : Type 0 where
  pub place : ℕ
  pub is : key ≡ suc place
  pub at : slice_get scopes place ≡ Some (record { outer = outer; entry = entry })

-- the number of a context
abbrev pub IsKey : List Scope → ℕ → List LpId → Type 0
IsKey scopes key [] = key ≡ 0
IsKey scopes key (entry ∷ c) = (outer : ℕ) × IsInner scopes key outer entry × IsKey scopes outer c

-- all contexts that have numbers keep them
pub record AreMore (old new : List Scope) : Type 0 where
  pub each : (place : ℕ) (s : Scope) → slice_get old place ≡ Some s → slice_get new place ≡ Some s

-- the number of the context of what is pending
abbrev pub IsKeyed : List Scope → State → Type 0
IsKeyed scopes s = IsKey scopes s.key s.context

-- what is pending is in the same context
pub record IsSamePlace (s t : State) : Type 0 where
  pub context : t.context ≡ s.context
  pub key : t.key ≡ s.key
