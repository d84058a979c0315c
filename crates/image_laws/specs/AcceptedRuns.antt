-- The module of every accepted run is shaped, well typed and priced; each export is what an item says.
use Rattle.std.proofs.Common.{◌≡◌, ℕ, zero, suc, ◌<◌, List, [], ◌∷◌, length, Some, slice_get, refl, ap, ◌∙◌, arith}
use Rattle.std.specs.Prelude.{slice_index_or}
use Rattle.std.specs.List.{AllByRecursion}
use Rattle.std.proofs.lemmas.List.{length-map}
use Rattle.hol_spec.specs.Terms.{bound}
use Rattle.hol_spec.specs.Sequents.{Sequent}
use Rattle.lp_spec.specs.Modules.{Declaration}
use Rattle.lp_spec.specs.Typing.{WellTyped}
use Rattle.lp_check_laws.specs.ShapedPasses.{AreShaped}
use Rattle.hol_spec.specs.Proofs.{Made, Step, steps_of, sequents_of, sequent_at, IsProof, Accepted}
use Rattle.hol_spec.specs.Over.{IsOver}
use Rattle.article_spec.specs.Run.{accepted, Run}
use Rattle.article_laws.specs.SoundSteps.{runs_are_sound}
use Rattle.hol_laws.specs.Members.{All-weaker}
use Rattle.translate_laws.specs.WantedItems.{AreMadeInOrder}
use Rattle.translate_spec.specs.Reach.{reached}
use Rattle.translate_laws.specs.ItemShapes.{reached-shaped, reached-WellTyped}
use Rattle.lp_check_laws.specs.PricedModules.{IsPriced}
use Rattle.translate_laws.specs.PricedModules.{reached-priced}
use Rattle.translate_spec.specs.MadeItems.{Naming, said_by, premise_at, items_of, roots_of}
use Rattle.translate_laws.specs.AcceptedItems.{Says, found, said-in, made-joined}

-- the items of a run, and the module of what its exports reach
abbrev pub module_of_run : Naming → Accepted → List Declaration
module_of_run named a = reached (roots_of named a.made a.exports) (items_of named a.made)

-- the item of a step says the step's sequent
abbrev pub IsSaid : Naming → List Made → ℕ → Type 0
IsSaid named made k = Says (items_of named made) ((premise_at (items_of named made) k).0, sequent_at made k)

pub record IsCarried (named : Naming) (a : Accepted) : Type 0 where
  pub in_order : AreMadeInOrder [] (items_of named a.made)
  pub exports : AllByRecursion (IsSaid named a.made) a.exports
  pub shaped : AreShaped [] (module_of_run named a)
  pub typed : WellTyped (module_of_run named a)
  pub priced : (i : ℕ) (d : Declaration) → slice_get (module_of_run named a) i ≡ Some d → IsPriced (module_of_run named a) i d

abbrev pub RunsAreCarried : Type 0
RunsAreCarried = (named : Naming) (articles : List (List ℕ)) (a : Accepted) → Run articles (accepted a) → IsCarried named a

get-index : {A : Type 0} (xs : List A) (k : ℕ) (d : A) → k < length xs → slice_get xs k ≡ Some (slice_index_or xs k d)
get-index [] k d l = absurd (omega arith)
get-index (x ∷ xs) zero d l = refl
get-index (x ∷ xs) (suc k) d l = get-index xs k d (omega arith)

pub step-said : (named : Naming) (made : List Made) → IsProof made → IsOver made → (k : ℕ) → k < length (steps_of made) → IsSaid named made k
step-said named made proof over k l =
    let ps = items_of named made in
    let j = made-joined named made proof over in
    let none : Sequent = record { hypotheses = []; conclusion = bound 0 } in
    let long : length (sequents_of made) ≡ length (steps_of made) = length-map (steps_of made) (λ (x : Step). x.sequent) in
    let has : slice_get (sequents_of made) k ≡ Some (sequent_at made k) = get-index (sequents_of made) k none (omega (arith, long, l)) in
    let r = found (said_by ps) k (sequent_at made k) (0, none) (ap (λ l. slice_get l k) j.said ∙ has) in
    let s = said-in ps (premise_at ps k) r.1 in
    (s.0, s.1, s.2, s.3 ∙ ap Some r.0)

pub runs_are_carried : RunsAreCarried
runs_are_carried named articles a run =
    let sound = runs_are_sound articles a run in
    let ordered = (made-joined named a.made sound.proof sound.over).order in
    let roots = roots_of named a.made a.exports in
    record {
      in_order = ordered;
      exports = All-weaker _ _ (λ k h. step-said named a.made sound.proof sound.over k h.step) a.exports sound.exports;
      shaped = reached-shaped roots (items_of named a.made) ordered;
      typed = reached-WellTyped roots (items_of named a.made) ordered;
      priced = λ i d e. reached-priced roots (items_of named a.made) ordered i d e;
    }
