-- The words that infer: each pops theorems and what else its rule is given, and concludes the step of its rule.
-- Source: the OpenTheory article file format, version 6, "Commands".
use Rattle.std.specs.Prelude.{Result}
use Rattle.common.specs.declared.faults.Kind.{Kind}
use Rattle.article_spec.specs.State.{State}
use Rattle.article_spec.specs.Results.{◌>>=◌}
use Rattle.article_spec.specs.Operands.{as_variable, as_term, as_theorem, as_substitution, pop}
use Rattle.article_spec.specs.RuleSteps.{refl_step, assume_step, eq_mp_step, abs_thm_step, app_thm_step, deduct_antisym_step, beta_conv_step, sym_step, trans_step, prove_hyp_step, subst_step}
use Rattle.article_spec.specs.Changes.{with_stack, by_step}

abbrev pub refl_word : State → Result State Kind
refl_word s = do
  (t, rest) ← pop as_term s.stack
  by_step (refl_step t) (with_stack s rest)

abbrev pub assume : State → Result State Kind
assume s = do
  (p, rest) ← pop as_term s.stack
  by_step (assume_step p) (with_stack s rest)

abbrev pub eq_mp : State → Result State Kind
eq_mp s = do
  (j, below) ← pop as_theorem s.stack
  (i, rest) ← pop as_theorem below
  by_step (eq_mp_step s.made i j) (with_stack s rest)

abbrev pub abs_thm : State → Result State Kind
abs_thm s = do
  (i, below) ← pop as_theorem s.stack
  (v, rest) ← pop as_variable below
  by_step (abs_thm_step s.made v i) (with_stack s rest)

abbrev pub app_thm : State → Result State Kind
app_thm s = do
  (j, below) ← pop as_theorem s.stack
  (i, rest) ← pop as_theorem below
  by_step (app_thm_step s.made i j) (with_stack s rest)

abbrev pub deduct_antisym : State → Result State Kind
deduct_antisym s = do
  (j, below) ← pop as_theorem s.stack
  (i, rest) ← pop as_theorem below
  by_step (deduct_antisym_step s.made i j) (with_stack s rest)

abbrev pub beta_conv : State → Result State Kind
beta_conv s = do
  (t, rest) ← pop as_term s.stack
  by_step (beta_conv_step t) (with_stack s rest)

abbrev pub sym_word : State → Result State Kind
sym_word s = do
  (i, rest) ← pop as_theorem s.stack
  by_step (sym_step s.made i) (with_stack s rest)

abbrev pub trans_word : State → Result State Kind
trans_word s = do
  (j, below) ← pop as_theorem s.stack
  (i, rest) ← pop as_theorem below
  by_step (trans_step s.made i j) (with_stack s rest)

-- The theorem on top has the hypothesis; the one below proves it.
abbrev pub prove_hyp : State → Result State Kind
prove_hyp s = do
  (j, below) ← pop as_theorem s.stack
  (i, rest) ← pop as_theorem below
  by_step (prove_hyp_step s.made i j) (with_stack s rest)

abbrev pub subst_word : State → Result State Kind
subst_word s = do
  (i, below) ← pop as_theorem s.stack
  ((types, terms), rest) ← pop as_substitution below
  by_step (subst_step s.made types terms i) (with_stack s rest)
