use Rattle.hol_rules.proofs.Concluded.{Grows-refl, fails-both, refused}
use Rattle.hol_rules.proofs.proof.Proof.subst.Goals as goal

pub subst_prepared-step-requires-clause-types : goal.subst_prepared-step-requires-clause-types
subst_prepared-step-requires-clause-types c = rw c.in_ok-put.ensures.types c.requires.type_pairs

pub subst_prepared-step-requires-clause-terms : goal.subst_prepared-step-requires-clause-terms
subst_prepared-step-requires-clause-terms c = rw c.in_ok-put.ensures.terms c.requires.term_pairs

pub subst_prepared-step-requires-clause-fits : goal.subst_prepared-step-requires-clause-fits
subst_prepared-step-requires-clause-fits c = rw c.in_ok-put.ensures.terms c.in_ok-put.ensures.fits

pub returns : goal.returns
returns c = rw (c.in_ok-put.ensures.types, c.in_ok-put.ensures.terms) at c.subst_prepared-step.ensures

pub returns-in_err-put : goal.returns-in_err-put
returns-in_err-put c = refused (Grows-refl c.args.self.now) _ c.from_residual.result c.in_err-put.field-0.0 c.from_residual.ensures.1
    (fails-both _ _ _ c.in_err-put.ensures.refused)
