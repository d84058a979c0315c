-- Each export of an accepted run is a step that restates a theorem.
use Rattle.std.proofs.Common.{◌≡◌, ℕ, List, [], ◌∷◌, ◌++◌, length, Bool, true, false, Some, slice_get, refl, sym, ap, subst, ◌∙◌}
use Rattle.std.specs.Prelude.{◌||◌, nat_eq}
use Rattle.std.specs.List.{AllByRecursion}
use Rattle.std.specs.Cmp.{unsigned_Decides}
use Rattle.std.proofs.lemmas.Option.{same_Some}
use Rattle.hol_spec.specs.Proofs.{Made, Step, steps_of, Accepted}
use Rattle.hol_spec.specs.declared.StepKind.TheVariants as by_rule
use Rattle.article_spec.specs.State.{Stage, State}
use Rattle.article_spec.specs.Changes.{next_step}
use Rattle.article_spec.specs.Run.{accepted, Run}
use Rattle.article_laws.specs.GrownRuns.{of_names, Grows, moves_of}
use Rattle.article_laws.specs.KeptRuns.{any_item, every_run}
use Rattle.article_laws.specs.SoundStating.{restate_step-made}
use Rattle.lp_binding_laws.specs.LookUps.{slice_get-append}
use Rattle.hol_laws.specs.Members.{All-weaker, All-append, All-each}
use Rattle.hol_laws.specs.PlaceLaws.{slice_get-last}
use Rattle.hol_proof_laws.specs.ProofGrowth.{steps_of-append}
use Rattle.translate_spec.specs.Rows.{has_row}
use Rattle.translate_spec.specs.Image.{is_one_of}
use Rattle.image_laws.specs.ExportOrder.{HaveRows}

-- the step of a number restates a theorem
pub record IsRestated (made : List Made) (i : ℕ) : Type 0 where
  pub step : Step
  pub at : slice_get (steps_of made) i ≡ Some step
  pub restates : step.kind ≡ by_rule.Restate

restated-more : (m n : List Made) (i : ℕ) → IsRestated m i → IsRestated (m ++ n) i
restated-more m n i h = record {
  step = h.step;
  at = ap (λ l. slice_get l i) (steps_of-append m n) ∙ slice_get-append (steps_of m) (steps_of n) i h.step h.at;
  restates = h.restates;
}

new-restated : (m : List Made) (x : Step) → x.kind ≡ by_rule.Restate → IsRestated (m ++ Made.step x ∷ []) (length (steps_of m))
new-restated m x k = record {
  step = x;
  at = ap (λ l. slice_get l (length (steps_of m))) (steps_of-append m (Made.step x ∷ [])) ∙ slice_get-last (steps_of m) x;
  restates = k;
}

-- each export does
abbrev HaveRestated : List Made → List ℕ → Type 0
HaveRestated made exports = AllByRecursion (IsRestated made) exports

have-more : (m n : List Made) (is : List ℕ) → HaveRestated m is → HaveRestated (m ++ n) is
have-more m n is h = All-weaker (IsRestated m) (IsRestated (m ++ n)) (restated-more m n) is h

abbrev restating : Stage → List Made → List ℕ → List ℕ → Type 0
restating place made exports assumptions = HaveRestated made exports

-- and what is made, or exported, leaves it so
grows : Grows (λ n. Unit {0}) restating (λ x. Unit {0})
grows = record {
  made = λ s ys g h. have-more s.made ys s.exports g;
  assumed = λ s is g. g;
  exported = λ s j hs c x g e l.
      let new : List Made = Made.step x ∷ [] in
      let kind = ap (λ (y : Step). y.kind) (restate_step-made s.made j hs c x e).is in
      All-append (IsRestated (s.made ++ new)) s.exports (next_step s ∷ []) (have-more s.made new s.exports g) (new-restated s.made x kind, tt {0});
  step = λ x l. tt {0};
  operator = λ n ts h l. tt {0};
  constant = λ n h. tt {0};
  define_const = λ m n t x h e l. tt {0};
  define_const_list = λ s pairs j g h. All-each _ _ (λ x k. tt {0});
  define_type_op = λ edition names j c f h l. tt {0};
}

-- Each export of an accepted run restates a theorem
pub exports-restated : (articles : List (List ℕ)) (a : Accepted) → Run articles (accepted a) → HaveRestated a.made a.exports
exports-restated articles a r =
    every_run (of_names (λ n. Unit {0}) restating) (moves_of _ _ _ grows) (λ s p g. g) (λ s g. g) (λ m x. any_item x)
    (λ b. HaveRestated b.made b.exports) (λ s h. h.run) (tt {0}) articles a r

one-restated : (a : Accepted) (is : List ℕ) → AllByRecursion (IsRestated a.made) is → (i : ℕ) → is_one_of i is ≡ true → IsRestated a.made i
one-restated a [] h i e = absurd (cc)
one-restated a (j ∷ is) h i e = go (nat_eq i j) (unsigned_Decides i j).0 e (one-restated a is h.1 i)
  where
    go : (b : Bool) → (b ≡ true → i ≡ j) → (b || is_one_of i is) ≡ true → (is_one_of i is ≡ true → IsRestated a.made i) → IsRestated a.made i
    go true f e rest = subst (IsRestated a.made) (sym (f refl)) h.0
    go false f e rest = rest e

-- so each has a proof
pub exports-proved : (articles : List (List ℕ)) (a : Accepted) → Run articles (accepted a) → HaveRows a
exports-proved articles a r i x one at =
    let h = one-restated a a.exports (exports-restated articles a r) i one in
    let is : x ≡ h.step = same_Some _ _ (sym at ∙ h.at) in
    ap (λ (y : Step). has_row y.kind) is ∙ ap has_row h.restates
