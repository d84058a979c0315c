-- What was noted, after another note.
use Rattle.std.proofs.Common.{◌≡◌, ℕ, zero, suc, ap, List, ◌∷◌, Option, Some, None, inl, inr, ◌⊎◌}
use Rattle.std.specs.Prelude.{slice_get}
use Rattle.hol_type.specs.declared.table.TypeId.{TypeId}
use Rattle.hol_type.specs.Walks.{IsNoted}

key_of : Option (TypeId × TypeId) → TypeId → TypeId
key_of None p = p
key_of (Some e) p = e.0

value_of : Option (TypeId × TypeId) → TypeId → TypeId
value_of None r = r
value_of (Some e) r = e.1

pub entry_is : (e : TypeId × TypeId) (p r : TypeId) → Some e ≡ Some (p, r) → (e.0 ≡ p) × (e.1 ≡ r)
unfolding key_of value_of
entry_is e p r h = (ap (λ o. key_of o p) h, ap (λ o. value_of o r) h)

-- what is noted on a list with one entry more is noted behind it, or the entry
pub IsNoted-cons : (e : TypeId × TypeId) (es : List (TypeId × TypeId)) (p r : TypeId) → IsNoted (e ∷ es) p r → ((e.0 ≡ p) × (e.1 ≡ r)) ⊎ IsNoted es p r
IsNoted-cons e es p r h = go h.0 h.1
  where
    go : (i : ℕ) → slice_get (e ∷ es) i ≡ Some (p, r) → ((e.0 ≡ p) × (e.1 ≡ r)) ⊎ IsNoted es p r
    go zero q = inl (entry_is e p r q)
    go (suc i) q = inr (i, q)

pub IsNoted-behind : (e : TypeId × TypeId) (es : List (TypeId × TypeId)) (p r : TypeId) → IsNoted es p r → IsNoted (e ∷ es) p r
IsNoted-behind e es p r h = (suc h.0, h.1)
