use Rattle.std.proofs.Common.{◌≡◌, ◌<◌, ◌-◌, length}
use Rattle.std.specs.Prelude.{replicate}
use Rattle.lp_spec.specs.Trees.{tree_eq}
use Rattle.lp_spec.specs.Modules.{products, types}
use Rattle.lp_term.specs.Tables.{tree_at}
use Rattle.decode_back.proofs.symbols.is_operator_type.Given as goal

abbrev pub invariant-loop : goal.invariant-loop
invariant-loop l = record {
  known : l.rest.0 < length l.table;
  goes : tree_eq (tree_at l.table l.fn.id.0) (products (replicate l.arity types) types)
      ≡ tree_eq (tree_at l.table l.rest.0) (products (replicate (l.arity - l.counter) types) types);
}
