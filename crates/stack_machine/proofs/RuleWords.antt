-- What each word of inference does once its operands are off the stack.
use Rattle.std.proofs.Common.{◌≡◌, ℕ, refl, List, Ok}
use Rattle.hol_spec.specs.Terms.{Term, Variable}
use Rattle.hol_spec.specs.Substitution.{TypePairs}
use Rattle.hol_spec.specs.TermSubstitution.{TermPairs}
use Rattle.article_spec.specs.declared.commands.Word.TheVariants as word
use Rattle.article_spec.specs.State.{State}
use Rattle.article_spec.specs.State as state
use Rattle.article_spec.specs.Operands.{pop, as_substitution, as_term, as_terms, as_theorem, as_variable}
use Rattle.article_spec.specs.Changes.{with_stack, by_step}
use Rattle.article_spec.specs.RuleSteps.{refl_step, assume_step, eq_mp_step, abs_thm_step, app_thm_step, deduct_antisym_step, beta_conv_step, sym_step, trans_step, prove_hyp_step, subst_step}
use Rattle.article_spec.specs.Step.{obey}
use Rattle.stack_machine.specs.Inferring.{assuming, exporting}
use Rattle.stack_machine.proofs.Obeyed.{next}

module _ (s : State) (t : Term) (rest : List state.Object) (e : pop as_term s.stack ≡ Ok (t, rest)) where
  pub obey-Refl : obey s word.Refl ≡ by_step (refl_step t) (with_stack s rest)
  obey-Refl = next _ _ _ _ e refl

  pub obey-Assume : obey s word.Assume ≡ by_step (assume_step t) (with_stack s rest)
  obey-Assume = next _ _ _ _ e refl

  pub obey-BetaConv : obey s word.BetaConv ≡ by_step (beta_conv_step t) (with_stack s rest)
  obey-BetaConv = next _ _ _ _ e refl

pub obey-Sym : (s : State) (i : ℕ) (rest : List state.Object) → pop as_theorem s.stack ≡ Ok (i, rest) → obey s word.Sym
    ≡ by_step (sym_step s.made i) (with_stack s rest)
obey-Sym s i rest e = next _ _ _ _ e refl

pub obey-AbsThm : (s : State) (i : ℕ) (v : Variable) (below rest : List state.Object) → pop as_theorem s.stack ≡ Ok (i, below) → pop as_variable below
    ≡ Ok (v, rest)
    → obey s word.AbsThm ≡ by_step (abs_thm_step s.made v i) (with_stack s rest)
obey-AbsThm s i v below rest e f = next _ _ _ _ e (next _ _ _ _ f refl)

pub obey-Subst : (s : State) (i : ℕ) (types : TypePairs) (terms : TermPairs) (below rest : List state.Object) → pop as_theorem s.stack ≡ Ok (i, below)
    → pop as_substitution below ≡ Ok ((types, terms), rest)
    → obey s word.Subst ≡ by_step (subst_step s.made types terms i) (with_stack s rest)
obey-Subst s i types terms below rest e f = next _ _ _ _ e (next _ _ _ _ f refl)

-- the premise on top is the second
module _ (s : State) (i j : ℕ) (below rest : List state.Object) (e : pop as_theorem s.stack ≡ Ok (j, below)) (f : pop as_theorem below ≡ Ok (i, rest)) where
  pub obey-EqMp : obey s word.EqMp ≡ by_step (eq_mp_step s.made i j) (with_stack s rest)
  obey-EqMp = next _ _ _ _ e (next _ _ _ _ f refl)

  pub obey-AppThm : obey s word.AppThm ≡ by_step (app_thm_step s.made i j) (with_stack s rest)
  obey-AppThm = next _ _ _ _ e (next _ _ _ _ f refl)

  pub obey-DeductAntisym : obey s word.DeductAntisym ≡ by_step (deduct_antisym_step s.made i j) (with_stack s rest)
  obey-DeductAntisym = next _ _ _ _ e (next _ _ _ _ f refl)

  pub obey-Trans : obey s word.Trans ≡ by_step (trans_step s.made i j) (with_stack s rest)
  obey-Trans = next _ _ _ _ e (next _ _ _ _ f refl)

  pub obey-ProveHyp : obey s word.ProveHyp ≡ by_step (prove_hyp_step s.made i j) (with_stack s rest)
  obey-ProveHyp = next _ _ _ _ e (next _ _ _ _ f refl)

-- what is stated
module _ (s : State) (c : Term) (hs : List Term) (below rest : List state.Object) (e : pop as_term s.stack ≡ Ok (c, below))
    (f : pop as_terms below ≡ Ok (hs, rest)) where
  pub obey-Axiom : obey s word.Axiom ≡ assuming hs c (with_stack s rest)
  obey-Axiom = next _ _ _ _ e (next _ _ _ _ f refl)

  pub obey-Thm : (i : ℕ) (last : List state.Object) → pop as_theorem rest ≡ Ok (i, last) → obey s word.Thm ≡ exporting i hs c (with_stack s last)
  obey-Thm i last g = next _ _ _ _ e (next _ _ _ _ f (next _ _ _ _ g refl))
