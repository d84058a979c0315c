-- A head step is a chain of steps.
use Rattle.std.proofs.Common.{◌≡◌, ℕ, zero, suc, refl, subst, List, [], ◌∷◌, ◌++◌, Option, Some, None}
use Rattle.lp_spec.specs.Trees.{Tree, SortType, SortKind, Var, Sym, App, Lam, Pi, put_all}
use Rattle.lp_binding_laws.specs.Arguments.{put-put_all}
use Rattle.lp_spec.specs.Modules.{Declaration, applied}
use Rattle.lp_spec.specs.Conversion.{symbol_definition, Step, beta, delta, rule, app_function, Steps, done, next}
use Rattle.lp_spec.specs.HeadSteps.{given, unfolded, symbol_step, spine_step, head_step}
use Rattle.lp_check_laws.specs.Sizes.{put_all-nil}
use Rattle.std.proofs.lemmas.Option.{same_Some}

-- a step of the function is one of the function at arguments
Step-applied : {m : List Declaration} {t u : Tree} (args : List Tree) → Step m t u → Step m (applied t args) (applied u args)
Step-applied [] h = h
Step-applied (x ∷ xs) h = Step-applied xs (app_function h)

Steps-equal : {m : List Declaration} {t u : Tree} → t ≡ u → Steps m t u
Steps-equal {m = m} {t = t} e = subst (Steps m t) e done

module _ (m : List Declaration) where
  -- a body at arguments goes by beta to what it is given them
  given-Steps : (before : List Tree) (t : Tree) (args : List Tree) (u : Tree) → given before t args ≡ Some u → Steps m (applied (put_all before t) args) u
  given-Steps before (Lam (Sym zero) b) (x ∷ args) u e = next (Step-applied args (beta (put-put_all x before b))) (given-Steps (before ++ x ∷ []) b args u e)
  given-Steps before (Lam (Sym zero) b) [] u e = absurd (cc)
  given-Steps before t args u e = Steps-equal (same_Some _ _ e)

  unfolded-Steps : (s : ℕ) (body : Option Tree) (args : List Tree) (u : Tree) → symbol_definition m s ≡ body → unfolded body args ≡ Some u
      → Steps m (applied (Sym s) args) u
  unfolded-Steps s None args u d e = absurd (cc)
  unfolded-Steps s (Some t) args u d e =
      next (Step-applied args (delta d))
      (subst (λ w. Steps m (applied w args) u) (put_all-nil t) (given-Steps [] t args u e))

  symbol_step-Steps : (s : ℕ) (args : List Tree) (u : Tree) → symbol_step m s args ≡ Some u → Steps m (applied (Sym s) args) u
  symbol_step-Steps (suc (suc (suc (suc zero)))) (App (App (Sym (suc (suc (suc zero)))) a) b ∷ []) u e = next (rule refl) (Steps-equal (same_Some _ _ e))
  symbol_step-Steps s args u e = unfolded-Steps s (symbol_definition m s) args u refl e

  spine_step-Steps : (t : Tree) (args : List Tree) (u : Tree) → spine_step m t args ≡ Some u → Steps m (applied t args) u
  spine_step-Steps (App f x) args u e = spine_step-Steps f (x ∷ args) u e
  spine_step-Steps (Lam a b) (x ∷ args) u e = next (Step-applied args (beta refl)) (Steps-equal (same_Some _ _ e))
  spine_step-Steps (Lam a b) [] u e = absurd (cc)
  spine_step-Steps (Sym s) args u e = symbol_step-Steps s args u e
  spine_step-Steps (Pi a b) args u e = absurd (cc)
  spine_step-Steps (Var n) args u e = absurd (cc)
  spine_step-Steps SortType args u e = absurd (cc)
  spine_step-Steps SortKind args u e = absurd (cc)

  -- a head step is a chain of steps
  pub head_step-Steps : (t u : Tree) → head_step m t ≡ Some u → Steps m t u
  head_step-Steps t u e = spine_step-Steps t [] u e
