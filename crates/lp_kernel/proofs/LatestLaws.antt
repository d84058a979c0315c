-- What is kept of trees and numbers, once more is kept.
use Rattle.std.proofs.Common.{◌≡◌, ℕ, ◌<◌, sym, ap, ◌∙◌, List, [], ◌∷◌, ◌++◌, length, Some, inl, inr, ◌⊎◌, ⊎_elim}
use Rattle.std.specs.Prelude.{slice_get, slice_set}
use Rattle.std.proofs.lemmas.Bool.Decides.{eqb_tells}
use Rattle.std.proofs.lemmas.Option.{same_Some}
use Rattle.lp_binding_laws.specs.LookUps.{slice_get-one_more}
use Rattle.lp_kernel.specs.declared.latest.Finding.{Finding}
use Rattle.lp_kernel.proofs.NotedLaws.{slice_get-set, slice_get-set_other}

-- what is kept was kept before, or is this
abbrev pub IsOnly : List Finding → List Finding → Finding → Type 0
IsOnly old new f = (p : ℕ) (g : Finding) → slice_get new p ≡ Some g → slice_get old p ≡ Some g ⊎ (g ≡ f)

-- where one more is put last
pub only-append : (old now new : List Finding) (f : Finding) → IsOnly old now f → new ≡ now ++ f ∷ [] → IsOnly old new f
only-append old now new f a e p g h = ⊎_elim (λ was. a p g was) (λ last. inr (sym last.1))
    (slice_get-one_more now f g p (ap (λ xs. slice_get xs p) (sym e) ∙ h))

-- where one is put in place of another
pub only-set : (old now : List Finding) (place : ℕ) (f : Finding) → IsOnly old now f → place < length now → IsOnly old (slice_set now place f) f
only-set old now place f a room p g h = ⊎_elim
    (λ e. inr (sym (same_Some f g (sym (slice_get-set now place f room) ∙ ap (slice_get (slice_set now place f)) (sym e.1) ∙ h))))
    (λ e. a p g (sym (slice_get-set_other now place p f e.1) ∙ h))
    (eqb_tells p place)
