-- The parameters of a step's sequent.
use Rattle.std.specs.Prelude.{◌≡◌, ℕ}
use Rattle.hol_spec.specs.Proofs.{sequent_at}
use Rattle.hol_spec.specs.Sequents.{type_variables_of, free_variables_of}
use Rattle.hol_term.specs.Subterms.{HaveTypes, variables_of}
use Rattle.hol_rules.specs.Kept.{Kept}
use Rattle.sequent.specs.declared.params.Params.{Params}

-- these are the type variables and the free variables of a step's sequent, in order, and the types of the latter are of the table
pub record AreParams (k : Kept) (id : ℕ) (params : Params) : Type 0 where
  pub type_vars : params.type_vars ≡ type_variables_of (sequent_at k.made id)
  pub free_vars : variables_of k.trees params.free_vars ≡ free_variables_of (sequent_at k.made id)
  pub known : HaveTypes k.trees params.free_vars
