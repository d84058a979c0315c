use Rattle.std.proofs.Common.{[], subst}
use Rattle.std.proofs.lemmas.List.{append-nil}
use Rattle.std.proofs.lemmas.Result.{on_ok_weaker}
use Rattle.hol_rules.specs.Kept.{step_count}
use Rattle.hol_rules.specs.Views.{step_at}
use Rattle.article_reach.specs.Found.{step_found}
use Rattle.article_reach.specs.Looked.{WalksOn}
use Rattle.article_reach.specs.Walks.{IsWalk, Wants}
use Rattle.article_reach.proofs.Wanted.{trans-WalksOn}
use Rattle.article_reach.proofs.walk.Walk.visit.Goals as goal

pub returns-clause-walks : goal.returns-clause-walks
returns-clause-walks c = on_ok_weaker c.run.result
    (λ run.
    let p = c.args.proof.now in
    let w = c.want_step.new.self in
    let v = c.run.new.self in
    let found = step_found (step_at p.made c.args.step) in
    let first = c.in_ok-want_step.ensures in
    let r = subst (λ trees. IsWalk trees (step_count p) w → IsWalk trees (step_count p) v × Wants trees [] w v) c.terms.ensures (run (step_count p)) first.walk
    in
    subst (λ fs. WalksOn p fs c.args.self.now v) (append-nil found) (trans-WalksOn p found [] c.args.self.now w v first (record { walk = r.0; wants = r.1 })))
    c.run.ensures.walks
