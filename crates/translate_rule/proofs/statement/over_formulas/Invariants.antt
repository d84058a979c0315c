use Rattle.std.specs.Prelude.{◌<◌, ◌≤◌, length}
use Rattle.std.specs.List.{AllByRecursion}
use Rattle.hol_term.specs.Tables.{terms_at, AreKnown}
use Rattle.lp_spec.specs.Modules.{products, proof_symbol}
use Rattle.lp_term.specs.Tables.{tree_at}
use Rattle.translate_spec.specs.Scopes.{term_tree}
use Rattle.translate_term.specs.Walks.{Grows}
use Rattle.translate_proof.specs.Environments.{Given, IsTold, Represents}
use Rattle.translate_rule.specs.Domains.{lifted_domains}
use Rattle.translate_rule.proofs.StatementLaws.{IsFolded}
use Rattle.translate_rule.proofs.statement.over_formulas.Given as goal

abbrev pub invariant-loop-rest : goal.invariant-loop-rest
invariant-loop-rest l = record {
  grows : Grows l.fn.target l.target;
  known : l.product.0 < length l.target.table;
  hyps : AreKnown l.proof.trees l.rest;
  folded : (given : Given) → Represents given l.fn.target l.proof.trees l.env → AllByRecursion (IsTold given) (terms_at l.proof.trees l.hyps)
      → IsFolded (IsTold given) proof_symbol (term_tree given.symbols given.scope) (terms_at l.proof.trees l.rest) (tree_at l.target.table l.product.0)
      (products (lifted_domains proof_symbol (term_tree given.symbols given.scope) 0 (terms_at l.proof.trees l.hyps))
      (tree_at l.fn.target.table l.fn.inside.0));
  shorter : length l.rest ≤ length l.hyps;
}

abbrev pub decreases-loop-rest : goal.decreases-loop-rest
decreases-loop-rest l = length l.rest
