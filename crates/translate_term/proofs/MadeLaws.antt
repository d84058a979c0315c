-- Numbers that are gathered one after another.
use Rattle.std.proofs.Common.{◌≡◌, ap, sym, subst, List, [], ◌∷◌, ◌++◌, append_assoc, refl, Option, Some, None}
use Rattle.std.specs.Prelude.{IfSome, IfNone, IsSome}
use Rattle.hol_type.specs.declared.table.TypeId.{TypeId}
use Rattle.lp_term.specs.declared.LpId.{LpId}
use Rattle.translate_term.specs.Tasks.{IsNoted, IsDone, AreAll}
use Rattle.translate_term.specs.Walks.{AreNoted}
use Rattle.std.proofs.lemmas.Option.{same_Some}

-- the items are what was made of the types before the rest
pub record IsGathering (made : List (TypeId × LpId)) (ids rest : List TypeId) (items : List LpId) : Type 0 where
  pub done : AreAll (IsDone made) rest
  pub on : (rs : List LpId) → AreNoted made rest rs → AreNoted made ids (items ++ rs)

pub gathering_begins : (made : List (TypeId × LpId)) (ids : List TypeId) → AreAll (IsDone made) ids → IsGathering made ids ids []
gathering_begins made ids h = record { done = h; on = λ rs m. m }

pub gathering_goes_on : (made : List (TypeId × LpId)) (ids rest : List TypeId) (items : List LpId) (id : TypeId) (r : LpId) → IsNoted made id r
    → IsGathering made ids (id ∷ rest) items → IsGathering made ids rest (items ++ r ∷ [])
gathering_goes_on made ids rest items id r n g = record
    { done = g.done.1; on = λ rs m. subst (AreNoted made ids) (sym (append_assoc items (r ∷ []) rs)) (g.on (r ∷ rs) (n, m)) }

append_nil : (l : List LpId) → l ++ [] ≡ l
append_nil [] = refl
append_nil (x ∷ l) = ap (λ r. x ∷ r) (append_nil l)

pub gathering_ends : (made : List (TypeId × LpId)) (ids : List TypeId) (items : List LpId) → IsGathering made ids [] items → AreNoted made ids items
gathering_ends made ids items g = subst (AreNoted made ids) (append_nil items) (g.on [] tt)

pub is_some-unless : {X : Type 0} {Q : Type 0} (o : Option X) → IfNone o Q → (Q → ⊥) → IsSome o
is_some-unless None q f = absurd (f q)
is_some-unless (Some x) q f = refl

pub if_some : {X : Type 0} (P : X → Type 0) (o : Option X) (x : X) → o ≡ Some x → IfSome o P → P x
if_some P None x e h = absurd (cc)
if_some P (Some y) x e h = subst P (same_Some _ _ e) h
