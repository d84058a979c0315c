use Rattle.std.proofs.Common.{subst, sym, length, get_or}
use Rattle.std.proofs.lemmas.List.{drop_all}
use Rattle.lp_term.specs.declared.LpNode.TheVariants.{SortType}
use Rattle.lp_term.specs.Tables.{AreKnown, PartsBelow}
use Rattle.translate_rule.proofs.LemmaLaws.{drop-next, next-parts, numbered-tree, added-more, added-all, added-none}
use Rattle.translate_rule.proofs.lemmas.add_nodes.Goals as goal

pub numbered-requires : goal.numbered-requires
numbered-requires c =
    subst (λ ids. PartsBelow (length ids) (get_or c.args.nodes.now c.loop-node.node-index SortType)) (sym c.deref.ensures.value)
    (next-parts _ _ c.loop-node.ids.items c.args.nodes.now _ _ _ (drop-next c.args.nodes.now c.loop-node.node-index SortType c.loop-node-test.true)
    c.loop-node.invariant)

pub node-requires : goal.node-requires
node-requires c = c.numbered.ensures.known c.loop-node.table (subst (AreKnown c.loop-node.table) (sym c.deref.ensures.value) c.loop-node.invariant.known)

pub loop-node-init : goal.loop-node-init
loop-node-init c = added-none c.args.table.now c.args.nodes.now _ c.new-ids.ensures.items c.requires

pub loop-node-preserved : goal.loop-node-preserved
loop-node-preserved c =
    rw c.in_ok-push.ensures.items
    (added-more _ _ _ c.loop-node.ids.items c.args.nodes.now _ _ _ c.numbered.result c.in_ok-id.id
    (drop-next c.args.nodes.now c.loop-node.node-index SortType c.loop-node-test.true) c.loop-node.invariant
    (numbered-tree c.loop-node.table c.deref.result.now c.loop-node.ids.items _ _ c.deref.ensures.value c.loop-node.invariant.known
    (c.numbered.ensures.made c.loop-node.table)) c.in_ok-id.ensures.keeps c.in_ok-id.ensures.known c.in_ok-id.ensures.made)

pub returns-clause-made : goal.returns-clause-made
returns-clause-made c = added-all _ _ _ c.args.nodes.now _ (drop_all c.loop-node.node-index c.args.nodes.now c.loop-node-test.false) c.loop-node.invariant
