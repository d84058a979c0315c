use Rattle.std.proofs.lemmas.Result.{IfOk-weaker}
use Rattle.translate_spec.specs.Scopes.{type_tree}
use Rattle.translate_term.specs.Closed.{types_under}
use Rattle.translate_term.proofs.ClosedTurns.{type_begins}
use Rattle.translate_term.proofs.closed.tree_of_type.Goals as goal

pub type_made-tree-requires : goal.type_made-tree-requires
type_made-tree-requires c =
    let q = c.requires in (
      q.0,
      type_tree q.0.symbols (types_under q.0 c.args.depth) q.1,
      rw (c.new.ensures.empty, c.new-2.ensures.empty, c.deref.ensures.value)
          (type_begins q.0 c.args.target.now q.1 c.args.ty.now.nodes.items c.args.depth q.2),
    )

pub returns-clause-made : goal.returns-clause-made
returns-clause-made c =
    IfOk-weaker c.type_made-tree.result _ _
    (λ r h given t s.
    h given (type_tree given.symbols (types_under given c.args.depth) t)
    (rw (c.new.ensures.empty, c.new-2.ensures.empty, c.deref.ensures.value) (type_begins given c.args.target.now t c.args.ty.now.nodes.items c.args.depth s)))
    c.type_made-tree.ensures.made
