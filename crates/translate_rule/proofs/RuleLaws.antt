-- The proofs by the rules, by what the sequents of a step and its premises say.
use Rattle.std.proofs.Common.{◌≡◌, ℕ, refl, sym, ap, ◌∙◌, List, [], ◌∷◌, unwrap_or}
use Rattle.hol_spec.specs.Types.{HolType}
use Rattle.hol_spec.specs.Primitives.{bool, function}
use Rattle.hol_spec.specs.Terms.{Term, equation, app, lam}
use Rattle.hol_spec.specs.TermBinding.{put}
use Rattle.hol_spec.specs.Sequents.{Sequent}
use Rattle.hol_spec.specs.Rules.{Rule, Parameters}
use Rattle.hol_spec.specs.Rules as rule
use Rattle.hol_spec.specs.declared.StepKind.TheVariants as kinds
use Rattle.lp_spec.specs.Trees.{Tree}
use Rattle.translate_spec.specs.Scopes.{SymbolMap, Scope}
use Rattle.translate_spec.specs.ProofTrees.{refl_tree, app_thm_tree}
use Rattle.translate_spec.specs.Rows.{proof_tree, equated_type, left_side, right_side, argument_type, result_type}

-- a conclusion is an equation
pub record IsEquation (s : Sequent) : Type 0 where
  pub ty : HolType
  pub left : Term
  pub right : Term
  pub is : s.conclusion ≡ equation ty left right

-- the conclusions that rules make equations of, or ask to be
pub refl-equation : {ss : List Sequent} {g : Parameters} {s : Sequent} → Rule kinds.Refl ss g s → IsEquation s
refl-equation (rule.refl {t = t} {a = a} h e) = record { ty = a; left = t; right = t; is = ap (λ (s : Sequent). s.conclusion) e }

pub beta-equation : {ss : List Sequent} {g : Parameters} {s : Sequent} → Rule kinds.BetaConv ss g s → IsEquation s
beta-equation (rule.beta_conv {a = a} {b = b} {t = t} {u = u} h e) =
    record { ty = b; left = app (lam a t) u; right = put u t; is = ap (λ (s : Sequent). s.conclusion) e }

pub define-equation : {ss : List Sequent} {g : Parameters} {s : Sequent} → Rule kinds.DefineConst ss g s → IsEquation s
define-equation (rule.define_const {n = n} {t = t} {a = a} h e) =
    record { ty = a; left = Term.constant n a; right = t; is = ap (λ (s : Sequent). s.conclusion) e }

pub eq_mp-equation : {one two : Sequent} {g : Parameters} {s : Sequent} → Rule kinds.EqMp (one ∷ two ∷ []) g s → IsEquation one
eq_mp-equation (rule.eq_mp {p = p} {q = q} e f i) = record { ty = bool; left = p; right = q; is = e }

pub abs_thm-equation : {one : Sequent} {g : Parameters} {s : Sequent} → Rule kinds.AbsThm (one ∷ []) g s → IsEquation one
abs_thm-equation (rule.abs_thm {b = b} {t = t} {u = u} e f i) = record { ty = b; left = t; right = u; is = e }

pub sym-equation : {one : Sequent} {g : Parameters} {s : Sequent} → Rule kinds.Sym (one ∷ []) g s → IsEquation one
sym-equation (rule.sym {a = a} {x = x} {y = y} e i) = record { ty = a; left = x; right = y; is = e }

pub trans-first : {one two : Sequent} {g : Parameters} {s : Sequent} → Rule kinds.Trans (one ∷ two ∷ []) g s → IsEquation one
trans-first (rule.trans {a = a} {x = x} {y = y} e f i) = record { ty = a; left = x; right = y; is = e }

pub trans-second : {one two : Sequent} {g : Parameters} {s : Sequent} → Rule kinds.Trans (one ∷ two ∷ []) g s → IsEquation two
trans-second (rule.trans {a = a} {y = y} {z = z} e f i) = record { ty = a; left = y; right = z; is = f }

pub app_thm-own : {one two : Sequent} {g : Parameters} {s : Sequent} → Rule kinds.AppThm (one ∷ two ∷ []) g s → IsEquation s
app_thm-own (rule.app_thm {b = b} {f = f} {g = g} {x = x} {y = y} e i l) =
    record { ty = b; left = app f x; right = app g y; is = ap (λ (s : Sequent). s.conclusion) l }

pub app_thm-first : {one two : Sequent} {g : Parameters} {s : Sequent} → Rule kinds.AppThm (one ∷ two ∷ []) g s → IsEquation one
app_thm-first (rule.app_thm {a = a} {b = b} {f = f} {g = g} e i l) = record { ty = function a b; left = f; right = g; is = e }

pub app_thm-second : {one two : Sequent} {g : Parameters} {s : Sequent} → Rule kinds.AppThm (one ∷ two ∷ []) g s → IsEquation two
app_thm-second (rule.app_thm {a = a} {x = x} {y = y} e i l) = record { ty = a; left = x; right = y; is = i }

-- the proofs that aren't read off the premises alone
module _ (symbols : SymbolMap) (scope : Scope) where
  abbrev own : Sequent → Tree
  own s = refl_tree symbols scope (equated_type s.conclusion) (right_side s.conclusion)

  pub refl-tree : {ss : List Sequent} {g : Parameters} {s : Sequent} (js : List ℕ) → Rule kinds.Refl ss g s → own s
      ≡ proof_tree symbols scope kinds.Refl js ss g
  refl-tree js (rule.refl {t = t} {a = a} h e) =
      ap (λ (s : Sequent). own s) e ∙ ap (λ b. refl_tree symbols scope b t) (sym (ap (λ o. unwrap_or o bool) h))

  pub beta-tree : {ss : List Sequent} {g : Parameters} {s : Sequent} (js : List ℕ) → Rule kinds.BetaConv ss g s → own s
      ≡ proof_tree symbols scope kinds.BetaConv js ss g
  beta-tree js (rule.beta_conv {a = a} {b = b} {t = t} {u = u} h e) =
      ap (λ (s : Sequent). own s) e ∙ ap (λ c. refl_tree symbols scope c (put u t)) (sym (ap (λ o. unwrap_or o bool) h))

  pub define-tree : {ss : List Sequent} {g : Parameters} {s : Sequent} (js : List ℕ) → Rule kinds.DefineConst ss g s → own s
      ≡ proof_tree symbols scope kinds.DefineConst js ss g
  define-tree js (rule.define_const {n = n} {t = t} {a = a} h e) =
      ap (λ (s : Sequent). own s) e ∙ ap (λ b. refl_tree symbols scope b t) (sym (ap (λ o. unwrap_or o bool) h.typed))

  pub assume-tree : {ss : List Sequent} {g : Parameters} {s : Sequent} (js : List ℕ) → Rule kinds.Assume ss g s → scope.proofs s.conclusion
      ≡ proof_tree symbols scope kinds.Assume js ss g
  assume-tree js (rule.assume {p = p} h e) = ap (λ (s : Sequent). scope.proofs s.conclusion) e

  pub app_thm-tree : {one two : Sequent} {g : Parameters} {s : Sequent} (j k : ℕ) → Rule kinds.AppThm (one ∷ two ∷ []) g s
      → app_thm_tree symbols scope (equated_type two.conclusion) (equated_type s.conclusion) (left_side one.conclusion) (right_side one.conclusion)
      (left_side two.conclusion) (right_side two.conclusion) (j, one) (k, two) ≡ proof_tree symbols scope kinds.AppThm (j ∷ k ∷ []) (one ∷ two ∷ []) g
  app_thm-tree j k (rule.app_thm {a = a} {b = b} {f = f} {g = g} {x = x} {y = y} {one = one} {two = two} e i l) =
      let argument : equated_type two.conclusion ≡ argument_type (equated_type one.conclusion) =
      ap equated_type i ∙ sym (ap (λ c. argument_type (equated_type c)) e) in
      let result = ap (λ (s : Sequent). equated_type s.conclusion) l ∙ sym (ap (λ c. result_type (equated_type c)) e) in
      λ w. app_thm_tree symbols scope (argument w) (result w) (left_side one.conclusion) (right_side one.conclusion) (left_side two.conclusion)
      (right_side two.conclusion) (j, one) (k, two)
