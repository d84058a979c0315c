-- The state of the machine where its store grows.
use Rattle.std.proofs.Common.{◌≡◌, ℤ, refl, ap, ◌∙◌, List, ◌∷◌, Result, Ok}
use Rattle.hol_spec.specs.declared.Version.{Version}
use Rattle.common.specs.declared.faults.Fault.{Fault}
use Rattle.hol_rules.specs.declared.made.Substitution.{Substitution}
use Rattle.article_spec.specs.declared.commands.Word.{Word}
use Rattle.article_spec.specs.State.{version_at}
use Rattle.article_spec.specs.State as state
use Rattle.article_spec.specs.Changes.{with_stack}
use Rattle.stack_machine.specs.declared.object.Object.{Object}
use Rattle.stack_machine.specs.declared.machine.Progress.{Progress}
use Rattle.stack_machine.specs.Stored.{Stored, objects_view, AreKnown, Grows}
use Rattle.stack_machine.specs.Shown.{place_view, shown, AreEntriesKnown, article_state}
use Rattle.stack_machine.specs.Obeying.{IsObeyed, Obeys, ObeysIn}
use Rattle.stack_machine.specs.Putting.{AreRemembered}
use Rattle.stack_machine.specs.declared.remembered.Lists.{Lists}
use Rattle.stack_machine.proofs.Passing.{OnOk-map, IfErr-map, OnErr-map2}
use Rattle.stack_machine.proofs.Obeyed.{Obeys-In}
use Rattle.stack_machine.proofs.PutAgain.{remembered-Grow}
use Rattle.stack_machine.proofs.Placed.{objects_view-Grows}
use Rattle.stack_machine.proofs.Dictionaries.{dictionary-Grows, entries-Grow}

-- the state apart from the stack stays
pub article-Grows : {a b : Stored} → Grows a b → (es : List (ℤ × Object)) (p : Progress) → AreEntriesKnown a es → article_state a es p ≡ article_state b es p
article-Grows h es p k = rw (dictionary-Grows h es k) refl

-- the whole state stays
pub shown-Grows : {a b : Stored} → Grows a b → (xs : List Object) (es : List (ℤ × Object)) (p : Progress) → AreKnown a xs → AreEntriesKnown a es → b.run ≡ a.run
    → shown b xs (article_state b es p) ≡ shown a xs (article_state a es p)
shown-Grows h xs es p k l e = rw (objects_view-Grows h xs k, dictionary-Grows h es l, e) refl

-- an object is put on, where the store grows
pub placed-shown : {a b : Stored} → Grows a b → (xs new : List Object) (v : state.Object) (es : List (ℤ × Object)) (p : Progress) → AreEntriesKnown a es
    → objects_view b new ≡ v ∷ objects_view a xs → b.run ≡ a.run
    → with_stack (shown a xs (article_state a es p)) (v ∷ objects_view a xs) ≡ shown b new (article_state b es p)
placed-shown h xs new v es p k e f = rw (dictionary-Grows h es k, e, f) refl

-- what is known of the machine's parts stays known
pub parts-known : {a b : Stored} {K L : Type 0} → Grows a b → (es : List (ℤ × Object)) (ps : List (Lists × Substitution)) → K → L × AreEntriesKnown a es
    × AreRemembered a ps → K × AreEntriesKnown b es × AreRemembered b ps
parts-known h es ps l k = (l, entries-Grow h es k.1, remembered-Grow h ps k.2)

-- a word that is obeyed over what is kept and the stack is obeyed in the machine's state
module _ {word : Word} {a b : Stored} {xs ys : List Object} {r : Result (Unit {0}) Fault} (es : List (ℤ × Object)) (p : Progress) {R : Type 0}
    (k : AreKnown a xs × AreEntriesKnown a es × R) where
  pub ObeysIn-shown : {version : Version} → version_at (place_view p) ≡ version → ObeysIn version word a xs b ys r
      → IsObeyed word (shown a xs (article_state a es p)) (shown b ys (article_state b es p)) r
  ObeysIn-shown v h = record {
    taken = OnOk-map r _ _ h.taken (λ f. f (article_state a es p) v ∙ ap (λ s. Ok (shown b ys s)) (article-Grows h.grows es p k.1));
    refused = IfErr-map r _ _ h.refused (λ fault f. f (article_state a es p) v);
    unchanged = OnErr-map2 r _ _ _ h.same h.run (λ e f. ap (λ us. shown b us (article_state b es p)) e ∙ shown-Grows h.grows xs es p k.0 k.1 f);
  }

  pub Obeys-shown : Obeys word a xs b ys r → IsObeyed word (shown a xs (article_state a es p)) (shown b ys (article_state b es p)) r
  Obeys-shown h = ObeysIn-shown refl (Obeys-In (version_at (place_view p)) r h)
