use Rattle.lp_kernel.proofs.NotedLaws.{cut-lower, cut-kept}
use Rattle.lp_kernel.proofs.memo.Memo.cut.Goals as goal

pub returns-clause-lower : goal.returns-clause-lower
returns-clause-lower c = λ t r h. rw (← c.self.view_is)
    (cut-lower c.self.inside.types.items c.truncate.new.self.items c.forget.new.types.items c.args.len c.truncate.ensures.items c.forget.ensures t r h)

pub returns-clause-kept : goal.returns-clause-kept
returns-clause-kept c = λ t r a b h. cut-kept c.self.inside.types.items c.truncate.new.self.items c.forget.new.types.items c.args.len c.truncate.ensures.items
    c.forget.ensures t r a b (rw c.self.view_is h)
