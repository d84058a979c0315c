use Rattle.std.proofs.Common.{[], refl, sym, subst}
use Rattle.std.specs.List.{AllByRecursion}
use Rattle.std.proofs.lemmas.List.{append-nil}
use Rattle.article_reach.specs.declared.walk.Walk.{Walk}
use Rattle.article_reach.specs.Found.{steps_found}
use Rattle.article_reach.specs.Looked.{WalksOn}
use Rattle.article_reach.proofs.Wanted.{gains-WalksOn, marks-steps}
use Rattle.article_reach.proofs.walk.Walk.want_steps.Goals as goal
use Rattle.std.specs.Prelude.{◌<◌}

pub mark_steps-requires : goal.mark_steps-requires
mark_steps-requires c = subst (λ n. AllByRecursion (λ i. i < n) c.args.ids.now) (sym c.requires.walk.steps) c.requires.ids

pub returns-clause-walks : goal.returns-clause-walks
returns-clause-walks c =
    let p = c.args.proof.now in
    let w = c.args.self.now in
    let v : Walk = record w { steps = c.mark_steps.new.flags } in
    let found = steps_found c.args.ids.now in
    subst (λ fs. WalksOn p fs w v) (append-nil found)
    (gains-WalksOn p w v found [] c.requires.walk (marks-steps p.trees _ w v c.args.ids.now c.mark_steps.ensures.count c.mark_steps.ensures.each refl refl refl)
    (tt {0}) refl refl refl)
