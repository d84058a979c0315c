-- Variables that a walk has listed, and of which some are left to be looked at.
use Rattle.std.proofs.Common.{◌≡◌, sym, ap, ◌∙◌, List, [], ◌∷◌, true, false, ◌||◌}
use Rattle.hol_spec.specs.Lists.{is_in, distinct}
use Rattle.hol_spec.specs.Terms.{Term, Variable as AVariable, variable_eq, free_places}
use Rattle.hol_term.specs.declared.Variable.{Variable}
use Rattle.hol_term.specs.Subterms.{HaveTypes, variables_of}
use Rattle.hol_term.specs.Tables.{Trees}
use Rattle.hol_variables.specs.Variables.{variable_view}
use Rattle.hol_variables.proofs.Found.{is_in-distinct}

pub record AreLooked (trees : Trees) (v : AVariable) (all rest : List Variable) : Type 0 where
  pub types : HaveTypes trees rest
  pub looked : is_in variable_eq v (variables_of trees rest) ≡ is_in variable_eq v (variables_of trees all)

module _ (trees : Trees) (v : AVariable) (all rest : List Variable) (own : Variable) (h : AreLooked trees v all (own ∷ rest)) where
  pub looked_on : variable_eq v (variable_view trees own) ≡ false → AreLooked trees v all rest
  looked_on e = record { types = h.types.1; looked = sym (ap (λ b. b || is_in variable_eq v (variables_of trees rest)) e) ∙ h.looked }

  pub looked_found : (t : Term) → variables_of trees all ≡ distinct variable_eq (free_places t) → variable_eq v (variable_view trees own) ≡ true → true
      ≡ is_in variable_eq v (free_places t)
  looked_found t a e = sym (ap (λ b. b || is_in variable_eq v (variables_of trees rest)) e) ∙ h.looked ∙ ap (is_in variable_eq v) a ∙ is_in-distinct v
      (free_places t)

pub looked_none : (trees : Trees) (v : AVariable) (all : List Variable) (t : Term) → AreLooked trees v all [] → variables_of trees all
    ≡ distinct variable_eq (free_places t) → false ≡ is_in variable_eq v (free_places t)
looked_none trees v all t h a = h.looked ∙ ap (is_in variable_eq v) a ∙ is_in-distinct v (free_places t)
