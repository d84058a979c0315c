-- Trees that the directed rules find convertible are, whatever is declared.
use Rattle.std.proofs.Common.{◌≡◌, refl, ℕ, Bool, true, false, List, Option, Some, None}
use Rattle.std.specs.Prelude.{if◌then◌else◌}
use Rattle.lp_spec.specs.Trees.{Tree, App, Lam, Pi, tree_eq}
use Rattle.lp_binding_laws.specs.TreeEquality.{tree_eq-true}
use Rattle.lp_spec.specs.Modules.{Declaration}
use Rattle.lp_spec.specs.Conversion.{app_function, app_argument, lam_domain, lam_body, pi_domain, pi_body, Conv}
use Rattle.lp_typing_laws.specs.ConversionLaws.{Conv-trans, Conv-sym, Conv-under, Conv-equal, Steps-Conv}
use Rattle.lp_spec.specs.HeadSteps.{head_step}
use Rattle.lp_check_laws.specs.HeadStepLaws.{head_step-Steps}
use Rattle.lp_spec.specs.Check.{Question, Convert, Found, Say, convert_parts, convert_by, convert, plan, Ends}
use Rattle.lp_check_laws.specs.CheckLaws.{Backed, says, asks, by_questions}

-- a head step is a conversion
pub head_step-Conv : (m : List Declaration) (t u : Tree) → head_step m t ≡ Some u → Conv m t u
head_step-Conv m t u e = Steps-Conv (head_step-Steps m t u e)

-- where the property of a question of conversion says that its trees are convertible
module _ (m : List Declaration) (P : Question → Tree → Type 0) (convertible : (E F u : Tree) → P (Convert E F) u → Conv m E F) where
  convert_parts-Conv : (E F : Tree) {t : Tree} → Backed P (convert_parts E F) t → Conv m E F
  convert_parts-Conv (App f x) (App g y) (asks h (asks k says)) =
      Conv-trans (Conv-under (λ w. App w x) (λ a b. app_function) (convertible _ _ _ h)) (Conv-under (App g) (λ a b. app_argument) (convertible _ _ _ k))
  convert_parts-Conv (Lam a b) (Lam c d) (asks h (asks k says)) =
      Conv-trans (Conv-under (λ w. Lam w b) (λ a b. lam_domain) (convertible _ _ _ h)) (Conv-under (Lam c) (λ a b. lam_body) (convertible _ _ _ k))
  convert_parts-Conv (Pi a b) (Pi c d) (asks h (asks k says)) =
      Conv-trans (Conv-under (λ w. Pi w b) (λ a b. pi_domain) (convertible _ _ _ h)) (Conv-under (Pi c) (λ a b. pi_body) (convertible _ _ _ k))
  convert_parts-Conv _ _ h = elim h [ ]

  convert_by-Conv : (E F : Tree) (e f : Option Tree) {t : Tree} → head_step m E ≡ e → head_step m F ≡ f → Backed P (convert_by E F e f) t → Conv m E F
  convert_by-Conv E F (Some H) f p q (asks h says) = Conv-trans (head_step-Conv m E H p) (convertible _ _ _ h)
  convert_by-Conv E F None (Some H) p q (asks h says) = Conv-trans (convertible _ _ _ h) (Conv-sym (head_step-Conv m F H q))
  convert_by-Conv E F None None p q h = convert_parts-Conv E F h

  -- trees are convertible that a plan for their conversion finds so
  pub convert-Conv : (E F : Tree) {t : Tree} → Backed P (convert m E F) t → Conv m E F
  convert-Conv E F h = go (tree_eq E F) refl h
    where
      go : (b : Bool) {t : Tree} → tree_eq E F ≡ b → Backed P (if b then Say (Found E) else convert_by E F (head_step m E) (head_step m F)) t → Conv m E F
      go true e h = Conv-equal (tree_eq-true E F e)
      go false e h = convert_by-Conv E F _ _ refl refl h

-- what a question of conversion finds says that its trees are convertible; of the others nothing is said
abbrev Converts : List Declaration → Question → Tree → Type 0
Converts m (Convert E F) u = Conv m E F
Converts m _ u = Unit {0}

module _ (m : List Declaration) (r : Bool) where
  each : (q : Question) (t : Tree) → Backed (Converts m) (plan m r q) t → Converts m q t
  each (Convert E F) t h = convert-Conv m (Converts m) (λ E F u c. c) E F h
  each _ t h = tt

  -- trees that are found convertible are
  pub convert-sound : (E F u : Tree) (n : ℕ) → Ends m r (convert m E F) (Found u) n → Conv m E F
  convert-sound E F u n h = by_questions m r (Converts m) each (Convert E F) u n h
