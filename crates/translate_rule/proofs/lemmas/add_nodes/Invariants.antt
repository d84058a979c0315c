use Rattle.std.specs.Prelude.{drop}
use Rattle.translate_rule.proofs.LemmaLaws.{AreAdded}
use Rattle.translate_rule.proofs.lemmas.add_nodes.Given as goal

abbrev pub invariant-loop-node : goal.invariant-loop-node
invariant-loop-node l = AreAdded l.fn.table l.table l.ids.items l.nodes (drop l.node-index l.nodes)
