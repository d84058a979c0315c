-- The rules of functions, at their ends.
use Rattle.std.proofs.Common.{◌≡◌, ℕ, ◌<◌, refl, sym, ap, subst, ◌∙◌, arith, List, [], ◌∷◌, length, true, false, not, Option, Some, None, Err}
use Rattle.std.specs.Prelude.{is_some}
use Rattle.std.specs.Option.{option_map}
use Rattle.common.specs.declared.faults.Kind.TheVariants.{TypeMismatch, VarInHyps}
use Rattle.hol_spec.specs.Types.{HolType}
use Rattle.hol_spec.specs.Primitives.{function}
use Rattle.hol_spec.specs.Terms.{Term, Variable as AVariable, app, type_of, HasType, equation, application_type}
use Rattle.hol_laws.specs.TermTyping.{type_of-close}
use Rattle.hol_spec.specs.Rules.{abstraction, is_free_in, joined}
use Rattle.hol_spec.specs.Rules as rule
use Rattle.hol_spec.specs.Proofs.{steps_of, sequent_at, IsProof}
use Rattle.hol_spec.specs.declared.StepKind.TheVariants as by_rule
use Rattle.hol_type.specs.TableLaws as type_law
use Rattle.hol_term.specs.declared.TermId.{TermId}
use Rattle.hol_term.specs.declared.Variable.{Variable}
use Rattle.hol_term.specs.Tables.{term_at, IsTermAt}
use Rattle.hol_term.specs.TableLaws.{term_in-Stays}
use Rattle.hol_rules.specs.declared.made.Parameters.TheVariants as parameters
use Rattle.hol_rules.specs.declared.premises.Sides.{Sides}
use Rattle.hol_rules.specs.Kept.{Kept, Grows}
use Rattle.hol_rules.specs.Views.{variable_view, new_step}
use Rattle.hol_rules.specs.Premises.{AreNumbersOf, IsNumberOf, AreSides}
use Rattle.article_spec.specs.RuleSteps.{abs_thm_step, app_thm_step}
use Rattle.hol_rules.proofs.Concluded.{Grows-trans}
use Rattle.hol_rules.proofs.RuleSteps.{unmet}
use Rattle.hol_rules.proofs.MoreSteps.{abs_thm-makes, app_thm-makes}
use Rattle.hol_rules.proofs.SideLaws.{number_term}
use Rattle.hol_rules.proofs.Ends.{Ends, ends_by, stepped}
use Rattle.std.proofs.Math.Path.{ap₂}

no_type : (o : Option HolType) → is_some o ≡ false → o ≡ None
no_type None e = refl
no_type (Some a) e = absurd (cc)

some_type : (o : Option HolType) → is_some o ≡ true → (a : HolType) × (o ≡ Some a)
some_type None e = absurd (cc)
some_type (Some a) e = (a, refl)

-- a number keeps its tree, and a variable its type
pub number-grown : {a b : Kept} → Grows a b → {id : TermId} {t : Term} → IsNumberOf a.trees id t → IsNumberOf b.trees id t
number-grown g {id = id} n = record { known = omega (arith, g.trees.longer, n.known); is = sym (term_in-Stays g.trees.stays id.0 n.known) ∙ n.is }

pub variable-grown : {a b : Kept} → Grows a b → (v : Variable) → v.ty.0 < length a.trees.types → variable_view b.trees v ≡ variable_view a.trees v
variable-grown g v h = ap (λ t. (v.name, t)) (sym (type_law.tree_at-Stays g.trees.types.stays v.ty.0 h))

abstraction-typed : (v : AVariable) (t : Term) (b : HolType) → HasType t b → HasType (abstraction v t) (function v.1 b)
abstraction-typed v t b h = type_of-close v t ∙ ap (option_map (function v.1)) h

module _ (k : Kept) (i : ℕ) (sides : Sides) (s : AreSides k i sides) (v : Variable) (known : v.ty.0 < length k.trees.types) where
  abbrev V : AVariable
  V = variable_view k.trees v

  -- the two abstractions, made in turn
  module _ (a b : Kept) (g : Grows k a) (h : Grows a b) (left right : TermId) (n : IsNumberOf a.trees left (abstraction V (term_at k.trees sides.left.0)))
      (m : IsNumberOf b.trees right (abstraction (variable_view a.trees v) (term_at a.trees sides.right.0))) where
    pub left_is : IsNumberOf b.trees left (abstraction V s.equation.left)
    left_is = subst (IsNumberOf b.trees left) (ap (abstraction V) s.left.is) (number-grown h n)

    pub right_is : IsNumberOf b.trees right (abstraction V s.equation.right)
    right_is = subst (IsNumberOf b.trees right) (ap₂ abstraction (variable-grown g v known) (number-grown g s.right).is) m

    pub left_typed : HasType (abstraction V s.equation.left) (function V.1 s.equation.ty)
    left_typed = abstraction-typed V s.equation.left s.equation.ty s.left_typed

    pub left_term : IsTermAt b.trees left.0
    left_term = number_term b.trees left (abstraction V s.equation.left) (function V.1 s.equation.ty) left_is left_typed

    pub left_at_typed : HasType (term_at b.trees left.0) (function V.1 s.equation.ty)
    left_at_typed = subst (λ t. HasType t (function V.1 s.equation.ty)) (sym left_is.is) left_typed

    module _ (p : IsProof k.made) (l : i < length (steps_of k.made)) where
      pub abs_thm-ends : false ≡ is_free_in V (sequent_at k.made i).hypotheses → (mid : Kept) → Grows b mid → (concl : TermId)
          → ((ty : HolType) → HasType (term_at b.trees left.0) ty → IsNumberOf mid.trees concl (equation ty (term_at b.trees left.0) (term_at b.trees right.0)))
          → (hyps : List TermId) → AreNumbersOf mid.trees hyps (sequent_at mid.made i).hypotheses → (given : Variable) → given ≡ v
          → Ends k (abs_thm_step k.made V i) mid
          (new_step mid.trees by_rule.AbsThm (i ∷ []) (parameters.Variable given) (record { hyps = hyps; concl = concl }))
      abs_thm-ends fresh mid o concl c hyps hs given same =
          let all = Grows-trans (Grows-trans g h) o in
          let ty = function V.1 s.equation.ty in
          let typed : HasType (term_at b.trees left.0) ty = subst (λ t. HasType t ty) (sym left_is.is) left_typed in
          let made : IsNumberOf mid.trees concl (equation ty (abstraction V s.equation.left) (abstraction V s.equation.right)) =
          subst (IsNumberOf mid.trees concl) (ap₂ (equation ty) left_is.is right_is.is) (c ty typed) in
          let hs : AreNumbersOf mid.trees hyps (sequent_at k.made i).hypotheses =
          subst (λ made. AreNumbersOf mid.trees hyps (sequent_at made i).hypotheses) all.made hs in
          let var : variable_view mid.trees given ≡ V = ap (variable_view mid.trees) same ∙ variable-grown all v known in
          ends_by all (abs_thm-makes k.made p i l s.equation s.parts V (sym fresh)) _
          (stepped mid.trees by_rule.AbsThm (i ∷ []) (parameters.Variable given) _ (ap rule.Parameters.variable var) hyps _ hs concl _ made)

  pub abs_thm-free : true ≡ is_free_in V (sequent_at k.made i).hypotheses → abs_thm_step k.made V i ≡ Err VarInHyps
  abs_thm-free e = rw s.parts (unmet (not (is_free_in V (sequent_at k.made i).hypotheses)) VarInHyps _ (ap not (sym e)))

module _ (k : Kept) (i j : ℕ) (fs xs : Sides) (s : AreSides k i fs) (r : AreSides k j xs) where
  -- the type of the left application
  module _ (a : Kept) (g : Grows k a) (left : TermId) (n : IsNumberOf a.trees left (app (term_at k.trees fs.left.0) (term_at k.trees xs.left.0))) where
    pub first_is : IsNumberOf a.trees left (app s.equation.left r.equation.left)
    first_is = subst (IsNumberOf a.trees left) (ap₂ app s.left.is r.left.is) n

    pub first_type : type_of (term_at a.trees left.0) ≡ application_type (Some s.equation.ty) (Some r.equation.ty)
    first_type = ap type_of first_is.is ∙ ap₂ application_type s.left_typed r.left_typed

    pub app_thm-mismatch : is_some (type_of (term_at a.trees left.0)) ≡ false → app_thm_step k.made i j ≡ Err TypeMismatch
    app_thm-mismatch e = let none = no_type (application_type (Some s.equation.ty) (Some r.equation.ty)) (sym (ap is_some first_type) ∙ e) in rw
        (s.parts, r.parts, none) refl

    pub first_term : is_some (type_of (term_at a.trees left.0)) ≡ true → (b : Kept) → Grows a b → IsTermAt b.trees left.0
    first_term e b h =
        let own : IsNumberOf a.trees left (term_at a.trees left.0) = record { known = first_is.known; is = refl } in
        subst (λ t. is_some (type_of t) ≡ true) (sym (number-grown h own).is) e

    pub first_at_typed : is_some (type_of (term_at a.trees left.0)) ≡ true → (b : Kept) → Grows a b → (ty : HolType) × HasType (term_at b.trees left.0) ty
    first_at_typed e b h = some_type (type_of (term_at b.trees left.0)) (first_term e b h)

    module _ (b : Kept) (h : Grows a b) (right : TermId) (m : IsNumberOf b.trees right (app (term_at a.trees fs.right.0) (term_at a.trees xs.right.0))) where
      pub second_is : IsNumberOf b.trees right (app s.equation.right r.equation.right)
      second_is = subst (IsNumberOf b.trees right) (ap₂ app (number-grown g s.right).is (number-grown g r.right).is) m

      pub app_thm-ends : (p : IsProof k.made) → i < length (steps_of k.made) → j < length (steps_of k.made) → is_some (type_of (term_at a.trees left.0)) ≡ true
          → (mid : Kept) → Grows b mid
          → (concl : TermId)
          → ((ty : HolType) → HasType (term_at b.trees left.0) ty
          → IsNumberOf mid.trees concl (equation ty (term_at b.trees left.0) (term_at b.trees right.0)))
          → (hyps : List TermId) → AreNumbersOf mid.trees hyps (joined (sequent_at mid.made i).hypotheses (sequent_at mid.made j).hypotheses)
          → Ends k (app_thm_step k.made i j) mid (new_step mid.trees by_rule.AppThm (i ∷ j ∷ []) parameters.Nothing (record { hyps = hyps; concl = concl }))
      app_thm-ends p l q e mid o concl c hyps hs =
          let all = Grows-trans (Grows-trans g h) o in
          let ty = some_type (application_type (Some s.equation.ty) (Some r.equation.ty)) (sym (ap is_some first_type) ∙ e) in
          let left_is : IsNumberOf b.trees left (app s.equation.left r.equation.left) = number-grown h first_is in
          let typed : HasType (term_at b.trees left.0) ty.0 = ap type_of left_is.is ∙ ap₂ application_type s.left_typed r.left_typed ∙ ty.1 in
          let made : IsNumberOf mid.trees concl (equation ty.0 (app s.equation.left r.equation.left) (app s.equation.right r.equation.right)) =
          subst (IsNumberOf mid.trees concl) (ap₂ (equation ty.0) left_is.is second_is.is) (c ty.0 typed) in
          let hs : AreNumbersOf mid.trees hyps (joined (sequent_at k.made i).hypotheses (sequent_at k.made j).hypotheses) =
          subst (λ made. AreNumbersOf mid.trees hyps (joined (sequent_at made i).hypotheses (sequent_at made j).hypotheses)) all.made hs in
          ends_by all (app_thm-makes k.made p i l s.equation s.parts j q r.equation r.parts ty.0 ty.1) _
          (stepped mid.trees by_rule.AppThm (i ∷ j ∷ []) parameters.Nothing _ refl hyps _ hs concl _ made)
