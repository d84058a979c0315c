use Rattle.std.proofs.Common.{◌≡◌, ◌<◌, List, length}
use Rattle.lp_spec.specs.Modules.{products}
use Rattle.lp_spec.specs.Trees.{Tree}
use Rattle.lp_term.specs.Tables.{AreKnown, Holds}
use Rattle.translate_proof.proofs.DomainLaws.{AreRead}
use Rattle.translate_proof.proofs.trees.domains.Given as goal

abbrev pub invariant-loop-place : goal.invariant-loop-place
invariant-loop-place l = record {
  known : AreKnown l.table l.domains.items;
  rest : l.rest.0 < length l.table;
  read : (domains : List Tree) (inside : Tree) → Holds l.table l.fn.ty.0 (products domains inside) → length domains ≡ l.count
      → AreRead l.table domains inside l._place l.domains.items l.rest;
}
