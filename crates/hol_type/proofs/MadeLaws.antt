-- Numbers that are gathered one after another.
use Rattle.std.proofs.Common.{◌≡◌, sym, subst, List, [], ◌∷◌, ◌++◌, append_assoc, refl, Option, Some, None}
use Rattle.std.specs.Prelude.{IfSome, IfNone, IsSome}
use Rattle.std.proofs.lemmas.Option.{same_Some}
use Rattle.std.proofs.lemmas.List.{append-nil}
use Rattle.hol_type.specs.declared.table.TypeId.{TypeId}
use Rattle.hol_type.specs.Walks.{IsNoted, AreDone, AreMade}

-- the items are what was made of the types before the rest
pub record IsGathering (made : List (TypeId × TypeId)) (ids rest items : List TypeId) : Type 0 where
  pub done : AreDone made rest
  pub on : (rs : List TypeId) → AreMade made rest rs → AreMade made ids (items ++ rs)

pub gathering_begins : (made : List (TypeId × TypeId)) (ids : List TypeId) → AreDone made ids → IsGathering made ids ids []
gathering_begins made ids h = record { done = h; on = λ rs m. m }

pub gathering_goes_on : (made : List (TypeId × TypeId)) (ids rest items : List TypeId) (id r : TypeId) → IsNoted made id r
    → IsGathering made ids (id ∷ rest) items → IsGathering made ids rest (items ++ r ∷ [])
gathering_goes_on made ids rest items id r n g = record
    { done = g.done.1; on = λ rs m. subst (AreMade made ids) (sym (append_assoc items (r ∷ []) rs)) (g.on (r ∷ rs) (n, m)) }

pub gathering_ends : (made : List (TypeId × TypeId)) (ids items : List TypeId) → IsGathering made ids [] items → AreMade made ids items
gathering_ends made ids items g = subst (AreMade made ids) (append-nil items) (g.on [] tt)

pub is_some : {X : Type 0} {Q : Type 0} (o : Option X) → IfNone o Q → (Q → ⊥) → IsSome o
is_some None q f = absurd (f q)
is_some (Some x) q f = refl

pub if_some : {X : Type 0} (P : X → Type 0) (o : Option X) (x : X) → o ≡ Some x → IfSome o P → P x
if_some P None x e h = absurd (cc)
if_some P (Some y) x e h = subst P (same_Some _ _ e) h
