use Rattle.std.specs.Prelude.{drop}
use Rattle.hol_spec.specs.Terms.{Variable, variable_eq}
use Rattle.hol_type.specs.Tables as type
use Rattle.hol_term.specs.Subterms.{HaveTypes, variables_of}
use Rattle.hol_term.specs.Tables.{Trees}
use Rattle.lp_spec.specs.Trees.{Tree}
use Rattle.lp_term.specs.Tables.{Keeps}
use Rattle.translate_proof.specs.Environments.{TellTerms}
use Rattle.translate_proof.proofs.PlaceLaws.{Places}
use Rattle.translate_proof.proofs.scope.place_terms.Given as goal

abbrev pub invariant-loop-variable : goal.invariant-loop-variable
invariant-loop-variable l = record {
  keeps : Keeps l.fn.table l.table;
  places : (trees : Trees) (other : Variable → Tree) → type.IsDistinct trees.types → HaveTypes trees l.variables
      → Places variable_eq (λ ts es scope. TellTerms trees.types ts es other scope) l.fn.table l.table l.fn.terms l.terms
      (variables_of trees l.variables)
      (variables_of trees (drop l.variable-index l.variables)) l.depth l.place;
}
