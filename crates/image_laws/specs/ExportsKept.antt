-- Each export is kept: among the items of the module, one says its sequent.
use Rattle.std.proofs.Common.{◌≡◌, ℕ, suc, ◌+◌, ◌<◌, arith, true, List, [], ◌∷◌, ◌++◌, length, Some, inl, inr, refl, sym, ap, subst, ◌∙◌}
use Rattle.std.specs.List.{AllByRecursion}
use Rattle.std.proofs.lemmas.List.{append-nil, length-append}
use Rattle.hol_spec.specs.Proofs.{Made, steps_of, sequent_at, IsProof, Accepted}
use Rattle.hol_spec.specs.Over.{IsOver}
use Rattle.article_spec.specs.Run.{accepted, Run}
use Rattle.article_spec.specs.SoundRuns.{IsDerived}
use Rattle.article_laws.specs.SoundSteps.{runs_are_sound}
use Rattle.translate_laws.specs.BodyTyping.{IsIn-map}
use Rattle.hol_spec.specs.Lists.{IsIn}
use Rattle.translate_spec.specs.Items.{Item, says}
use Rattle.translate_spec.specs.Reach.{number_key, gives, kept, image_items, keep_of}
use Rattle.translate_laws.specs.KeptModules.{IsIn-kept}
use Rattle.translate_laws.specs.WantedItems.{NumberedFrom, AreMadeInOrder, keep-wanted}
use Rattle.translate_spec.specs.MadeItems.{Naming, premise_at, items_of, roots_of}
use Rattle.translate_laws.specs.AcceptedItems.{made-in_order}
use Rattle.translate_laws.specs.SaidItems.{says-gives_of, says-renumbered}
use Rattle.image_laws.specs.AcceptedRuns.{step-said}

pub numbered-from : (before xs : List Item) → AreMadeInOrder before xs → NumberedFrom (length before) xs
numbered-from before [] h = tt
numbered-from before (x ∷ xs) h = (
  h.0,
  subst (λ k. NumberedFrom k xs) (length-append before (x ∷ []) ∙ (let z : length before + 1 ≡ suc (length before) = omega arith in z))
      (numbered-from (before ++ x ∷ []) xs h.3),
)

-- the items of the module of what these steps reach
abbrev pub kept_items : Naming → List Made → List ℕ → List Item
kept_items named made exports = image_items (keep_of (roots_of named made exports) (items_of named made)) (items_of named made)

abbrev pub IsDeclared : Naming → List Made → List ℕ → ℕ → Type 0
IsDeclared named made exports k = (x : Item) × IsIn (kept_items named made exports) x × (says x.content ≡ Some (sequent_at made k))

pub export-declared : (named : Naming) (made : List Made) → IsProof made → IsOver made → (exports : List ℕ) (k : ℕ) → IsIn exports k
    → k < length (steps_of made) → IsDeclared named made exports k
export-declared named made proof over exports k i l =
    let ps = items_of named made in
    let roots = roots_of named made exports in
    let s = step-said named made proof over k l in
    let root : IsIn roots (gives s.0) =
    subst (IsIn roots) (ap number_key (sym s.2) ∙ sym (says-gives_of s.0.symbol s.0.content (sequent_at made k) s.3))
    (IsIn-map (λ k. number_key (premise_at ps k).0) exports k i) in
    let keeps : keep_of roots ps s.0.symbol ≡ true =
    subst (λ l. keep_of roots l s.0.symbol ≡ true) (append-nil ps)
    (keep-wanted roots 0 ps [] s.0 (numbered-from [] ps (made-in_order named made proof over)) s.1 root) in
    (_, IsIn-map _ (kept (keep_of roots ps) ps) s.0 (IsIn-kept (keep_of roots ps) ps s.0 s.1 keeps), says-renumbered _ s.0.content ∙ s.3)

-- what holds of each element holds where more is known of it
both-All : {A : Type 0} (P Q : A → Type 0) (xs : List A) → AllByRecursion P xs → ((x : A) → IsIn xs x → P x → Q x) → AllByRecursion Q xs
both-All P Q [] h f = tt
both-All P Q (x ∷ xs) h f = (f x (inl refl) h.0, both-All P Q xs h.1 (λ y k p. f y (inr k) p))

abbrev pub ExportsAreDeclared : Type 0
ExportsAreDeclared =
    (named : Naming) (articles : List (List ℕ)) (a : Accepted) → Run articles (accepted a) → AllByRecursion (IsDeclared named a.made a.exports) a.exports

pub exports_are_declared : ExportsAreDeclared
exports_are_declared named articles a run =
    let sound = runs_are_sound articles a run in
    both-All (IsDerived a) (IsDeclared named a.made a.exports) a.exports sound.exports
    (λ k i h. export-declared named a.made sound.proof sound.over a.exports k i h.step)
