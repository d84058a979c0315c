use Rattle.hol_rules.proofs.Concluded.{stopped, Grows-refl}
use Rattle.hol_rules.proofs.proof.Proof.abs_thm.Goals as goal

pub abs_thm_where-requires-clause-free : goal.abs_thm_where-requires-clause-free
abs_thm_where-requires-clause-free c = rw c.is_free_in_hyps.ensures.unchanged c.in_ok-free.ensures.free

pub abs_thm_where-requires-clause-variable : goal.abs_thm_where-requires-clause-variable
abs_thm_where-requires-clause-variable c = rw c.is_free_in_hyps.ensures.unchanged c.requires.variable

pub abs_thm_where-requires-clause-one : goal.abs_thm_where-requires-clause-one
abs_thm_where-requires-clause-one c = rw c.is_free_in_hyps.ensures.unchanged c.requires.one

pub returns : goal.returns
returns c = rw c.is_free_in_hyps.ensures.unchanged at c.abs_thm_where.ensures

pub returns-in_err-free : goal.returns-in_err-free
returns-in_err-free c = stopped (rw c.is_free_in_hyps.ensures.unchanged (Grows-refl c.args.self.now)) _ c.from_residual.result c.from_residual.ensures.1
