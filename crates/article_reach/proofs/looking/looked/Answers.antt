use Rattle.std.proofs.Common.{subst, ◌∙◌}
use Rattle.std.proofs.lemmas.Result.{IfOk-weaker}
use Rattle.article_reach.specs.Least.{IsLeast}
use Rattle.article_reach.proofs.Stepped.{looked-first}
use Rattle.article_reach.proofs.looking.looked.Goals as goal

pub look_all-requires : goal.look_all-requires
look_all-requires c =
    let first = c.in_ok-walk.walk in
    looked-first c.args.proof.now c.args.exports.now first c.want_steps.new.self c.args.told.now.items c.in_ok-walk.ensures.marks c.in_ok-walk.ensures.tasks
    (c.want_steps.ensures.tasks ∙ c.in_ok-walk.ensures.tasks)
    c.want_steps.ensures.walks c.requires.count c.requires.unset

pub returns : goal.returns
returns c =
    IfOk-weaker c.least_free.result (IsLeast c.deref.result.now) _
    (λ number least. (c.look_all.new.self, c.in_ok-look_all.ensures, subst (λ ns. IsLeast ns number) c.deref.ensures.value least)) c.least_free.ensures
