-- The parameters that a step's sequent gives.
use Rattle.std.proofs.Common.{◌≡◌, ℕ, Result, Ok, Err}
use Rattle.std.specs.Prelude.{IfOk}
use Rattle.hol_spec.specs.Proofs.{sequent_at}
use Rattle.hol_spec.specs.Sequents.{type_variables_of, free_variables_of}
use Rattle.hol_term.specs.Subterms.{HaveTypes, variables_of}
use Rattle.hol_rules.specs.Kept.{Kept}
use Rattle.sequent.specs.declared.params.Params.{Params}
use Rattle.translate_proof.specs.Parameters.{AreParams}

-- what is answered are the parameters of a step, where it is what they have to be
pub params-AreParams : {E : Type 0} (k : Kept) (id : ℕ) (r : Result Params E) → IfOk r (λ p. p.type_vars ≡ type_variables_of (sequent_at k.made id))
    → IfOk r (λ p. variables_of k.trees p.free_vars ≡ free_variables_of (sequent_at k.made id)) → IfOk r (λ p. HaveTypes k.trees p.free_vars)
    → IfOk r (AreParams k id)
params-AreParams k id (Ok p) a b h = record { type_vars = a; free_vars = b; known = h }
params-AreParams k id (Err x) a b h = tt
