use Rattle.std.proofs.Common.{◌∷◌, length, sym, subst}
use Rattle.decode_back.specs.TermTasks.{AreTermTasks}
use Rattle.decode_back.proofs.TypeWalk.{IfOk-both}
use Rattle.decode_back.proofs.TermTurns.{shaped-apply, tasks-Keeps}
use Rattle.decode_back.proofs.SourceLemmas.{IsSource-at}
use Rattle.decode_back.proofs.terms.turn.Goals as goal

pub returns-in-Apply-clause-shaped : goal.returns-in-Apply-clause-shaped
returns-in-Apply-clause-shaped c =
    let taken = subst (λ t. AreTermTasks c.args.source.base.now.table c.args.table.now (t ∷ c.args.walk.now.tasks) (length c.args.walk.now.made))
    c.in-Apply.is c.requires.shaped.1 in
    IfOk-both _ _ _ c.apply.result c.apply.ensures.known c.apply.ensures.fewer (λ goes_on known fewer e.
    shaped-apply c.args.source.base.now.table c.args.table.now c.apply.new.table c.apply.ensures.keeps c.args.walk.now.tasks c.args.walk.now.made
    c.apply.new.made taken (known e) (fewer e))

pub returns-in-Abstract-clause-shaped : goal.returns-in-Abstract-clause-shaped
returns-in-Abstract-clause-shaped c =
    let taken = subst (λ t. AreTermTasks c.args.source.base.now.table c.args.table.now (t ∷ c.args.walk.now.tasks) (length c.args.walk.now.made))
    c.in-Abstract.is c.requires.shaped.1 in
    IfOk-both _ _ _ c.abstract_over.result c.abstract_over.ensures.known c.abstract_over.ensures.many (λ goes_on known many e. (
      known e,
      subst (AreTermTasks c.args.source.base.now.table c.abstract_over.new.table c.args.walk.now.tasks) (sym (many e))
          (tasks-Keeps c.args.source.base.now.table c.args.table.now c.abstract_over.new.table c.abstract_over.ensures.keeps c.args.walk.now.tasks
          (length c.args.walk.now.made) taken.2),
    ))

pub visit-requires-clause-source : goal.visit-requires-clause-source
visit-requires-clause-source c = IsSource-at c.args.table.now c.args.source c.args.source.place.hypotheses c.in-Visit.binders c.requires.source
