-- The step that a word of a rule concludes, said once: it is its rule's, of operands that stood on the stack.
use Rattle.std.specs.Prelude.{◌≡◌, ℕ, List, Ok}
use Rattle.std.specs.List.{AllByRecursion}
use Rattle.hol_spec.specs.Terms.{Term, Variable}
use Rattle.hol_spec.specs.Substitution.{TypePairs}
use Rattle.hol_spec.specs.TermSubstitution.{TermPairs}
use Rattle.hol_spec.specs.Proofs.{Made, Step}
use Rattle.article_spec.specs.RuleSteps.{refl_step, assume_step, eq_mp_step, abs_thm_step, app_thm_step, deduct_antisym_step, beta_conv_step, sym_step, trans_step, prove_hyp_step, subst_step}
use Rattle.article_laws.specs.OperandParts.{IsTypePair, IsTermPair}
use Rattle.article_laws.specs.Parts.{Parts}

pub data Inferred (p : Parts) (made : List Made) (x : Step) : Type 0 where
  by_refl : (t : Term) → p.term t → refl_step t ≡ Ok x → Inferred p made x
  by_assume : (t : Term) → p.term t → assume_step t ≡ Ok x → Inferred p made x
  by_eq_mp : (j i : ℕ) → p.step j → p.step i → eq_mp_step made i j ≡ Ok x → Inferred p made x
  by_abs_thm : (i : ℕ) (v : Variable) → p.step i → p.variable v → abs_thm_step made v i ≡ Ok x → Inferred p made x
  by_app_thm : (j i : ℕ) → p.step j → p.step i → app_thm_step made i j ≡ Ok x → Inferred p made x
  by_deduct_antisym : (j i : ℕ) → p.step j → p.step i → deduct_antisym_step made i j ≡ Ok x → Inferred p made x
  by_beta_conv : (t : Term) → p.term t → beta_conv_step t ≡ Ok x → Inferred p made x
  by_sym : (i : ℕ) → p.step i → sym_step made i ≡ Ok x → Inferred p made x
  by_trans : (j i : ℕ) → p.step j → p.step i → trans_step made i j ≡ Ok x → Inferred p made x
  by_prove_hyp : (j i : ℕ) → p.step j → p.step i → prove_hyp_step made i j ≡ Ok x → Inferred p made x
  by_subst : (i : ℕ) (q : TypePairs × TermPairs) → p.step i → AllByRecursion (IsTypePair p) q.0 × AllByRecursion (IsTermPair p) q.1
      → subst_step made q.0 q.1 i ≡ Ok x → Inferred p made x
