use Rattle.std.specs.Prelude.{◌<◌, ◌≤◌, length}
use Rattle.std.specs.List.{AllByRecursion}
use Rattle.hol_spec.specs.Terms.{Variable}
use Rattle.hol_term.specs.Subterms.{HaveTypes, variables_of}
use Rattle.lp_spec.specs.Modules.{products, term_symbol}
use Rattle.lp_term.specs.Tables.{tree_at}
use Rattle.translate_spec.specs.Scopes.{type_tree}
use Rattle.translate_term.specs.Told.{TellsType}
use Rattle.translate_term.specs.Walks.{Grows}
use Rattle.translate_proof.specs.Environments.{Given, Represents}
use Rattle.translate_rule.specs.Domains.{lifted_domains}
use Rattle.translate_rule.proofs.StatementLaws.{IsFolded}
use Rattle.translate_rule.proofs.statement.over_terms.Given as goal

abbrev pub invariant-loop-rest : goal.invariant-loop-rest
invariant-loop-rest l = record {
  grows : Grows l.fn.target l.target;
  known : l.product.0 < length l.target.table;
  variables : HaveTypes l.proof.trees l.rest;
  folded : (given : Given) → Represents given l.fn.target l.proof.trees l.env
      → AllByRecursion (λ (v : Variable). TellsType given.declarations given.symbols v.1) (variables_of l.proof.trees l.variables)
      → IsFolded (λ (v : Variable). TellsType given.declarations given.symbols v.1) term_symbol
      (λ (v : Variable). type_tree given.symbols given.scope.types v.1) (variables_of l.proof.trees l.rest) (tree_at l.target.table l.product.0)
      (products (lifted_domains term_symbol (λ (v : Variable). type_tree given.symbols given.scope.types v.1) 0 (variables_of l.proof.trees l.variables))
      (tree_at l.fn.target.table l.fn.inside.0));
  shorter : length l.rest ≤ length l.variables;
}

abbrev pub decreases-loop-rest : goal.decreases-loop-rest
decreases-loop-rest l = length l.rest
