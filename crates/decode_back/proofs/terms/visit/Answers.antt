use Rattle.std.proofs.Common.{ap, ◌∙◌, ◌≡◌}
use Rattle.lp_spec.specs.Modules.{applied}
use Rattle.lp_term.specs.Tables.{tree_at, trees_at}
use Rattle.holide_sig.specs.Modules.{declarations_of}
use Rattle.decode_spec.specs.Decode.{term_from}
use Rattle.decode_back.specs.Walks.{at_place}
use Rattle.decode_back.proofs.TypeWalk.{IfOk-weaker}
use Rattle.decode_back.proofs.HeadLemmas.{level-none}
use Rattle.decode_back.proofs.terms.visit.Goals as goal

pub returns-then-level-eq0-clause-turned : goal.returns-then-level-eq0-clause-turned
returns-then-level-eq0-clause-turned c types wanted vs w =
    w.2.0 (level-none types c.args.walk.now.budget c.args.level
    (term_from (declarations_of c.args.source.base.now) (tree_at c.args.source.base.now.table c.args.tree.0) (at_place c.args.source.place))
    c.if-level-eq0.true)

pub returns-clause-turned : goal.returns-clause-turned
returns-clause-turned c =
    let spine : applied (tree_at c.args.source.base.now.table c.in_ok-head.head.0) (trees_at c.args.source.base.now.table c.spine.new.args)
    ≡ tree_at c.args.source.base.now.table c.args.tree.0 =
    c.in_ok-head.ensures.spine ∙ ap (λ ids. applied (tree_at c.args.source.base.now.table c.args.tree.0) (trees_at c.args.source.base.now.table ids))
    c.new-args.ensures.empty in
    IfOk-weaker _ _ c.visit_head.result c.visit_head.ensures.turned (λ goes_on h types wanted vs w. h c.args.tree spine types wanted vs w)
