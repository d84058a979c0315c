use Rattle.std.proofs.lemmas.Result.{IfOk-weaker}
use Rattle.translate_spec.specs.Scopes.{term_tree}
use Rattle.translate_term.specs.Closed.{scope_under}
use Rattle.translate_term.proofs.ClosedTurns.{term_begins}
use Rattle.translate_term.proofs.closed.tree_of_term.Goals as goal

pub term_made-tree-requires : goal.term_made-tree-requires
term_made-tree-requires c =
    let q = c.requires in (
      q.0,
      term_tree q.0.symbols (scope_under q.0 c.args.depth) q.1,
      rw (c.new.ensures.empty, c.new-2.ensures.empty, c.deref.ensures.value)
          (term_begins q.0 c.args.target.now c.args.type_vars q.1 c.args.term.now.nodes.items c.args.depth q.2),
    )

pub returns-clause-made : goal.returns-clause-made
returns-clause-made c =
    IfOk-weaker c.term_made-tree.result _ _
    (λ r h given t s.
    h given (term_tree given.symbols (scope_under given c.args.depth) t)
    (rw (c.new.ensures.empty, c.new-2.ensures.empty, c.deref.ensures.value)
    (term_begins given c.args.target.now c.args.type_vars t c.args.term.now.nodes.items c.args.depth s)))
    c.term_made-tree.ensures.made
