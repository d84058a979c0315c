use Rattle.std.proofs.Common.{ap, arith, refl, sym, subst, ◌≡◌, ◌-◌, ◌∷◌, [], ◌∙◌}
use Rattle.hol_spec.specs.ClosedForm.{ClosedTypes}
use Rattle.lp_spec.specs.Trees.{Sym, Var}
use Rattle.lp_term.specs.Tables.{tree_at}
use Rattle.holide_sig.specs.Modules.{declarations_of}
use Rattle.decode_spec.specs.Decode.{type_from}
use Rattle.decode_back.specs.Walks.{at_place, IsTypeFound}
use Rattle.decode_back.specs.TypeTasks.{IsTypeWalk}
use Rattle.decode_back.proofs.TypeWalk.{IfOk-weaker, at-Holds, no-arguments}
use Rattle.decode_back.proofs.TypeTurns.{done-less, walk-shallow, walk-enough, walk-argument, walk-arguments, walk-found}
use Rattle.decode_back.proofs.types.turn.Goals as goal

pub returns-then-task-eq0-clause-turned : goal.returns-then-task-eq0-clause-turned
returns-then-task-eq0-clause-turned c limit root w =
    walk-shallow (declarations_of c.args.source.now) (at_place c.args.place) c.args.source.now.table limit root c.args.table.now c.args.task
    c.args.walk.now.tasks c.args.walk.now.made w c.if-task-eq0.true

pub returns-then-task-eq0-clause-less : goal.returns-then-task-eq0-clause-less
returns-then-task-eq0-clause-less c = done-less c.args.source.now.table c.args.task c.args.walk.now.tasks

pub gathered-requires : goal.gathered-requires
gathered-requires c =
    let w = c.requires.walk in
    walk-enough (declarations_of c.args.source.now) (at_place c.args.place) c.args.source.now.table w.0 w.1 c.args.table.now c.args.task c.args.walk.now.tasks
    c.args.walk.now.made w.2

pub operator-requires-clause-args : goal.operator-requires-clause-args
operator-requires-clause-args c =
    let w = c.requires.walk in
    walk-arguments (declarations_of c.args.source.now) (at_place c.args.place) c.args.source.now.table w.0 w.1 c.args.table.now c.args.task
    c.args.walk.now.tasks c.args.walk.now.made w.2 c.in_ok-args-in-Sym.args.items c.gathered.new.made c.in_ok-args-in-Sym.ensures.parts
    c.in_ok-args-in-Sym.ensures.count

pub returns-in_ok-push-in-App-2-clause-turned : goal.returns-in_ok-push-in-App-2-clause-turned
returns-in_ok-push-in-App-2-clause-turned c limit root w =
    subst (λ l. IsTypeWalk (declarations_of c.args.source.now) (at_place c.args.place) c.args.source.now.table limit root c.args.table.now l
    c.args.walk.now.made)
    (ap (λ l. record { head = c.in-App.argument; arguments = 0; level = c.args.task.level - 1 } ∷ l) (sym c.in_ok-push-in-App.ensures.pushed)
    ∙ sym c.in_ok-push-in-App-2.ensures.pushed)
    (walk-argument (declarations_of c.args.source.now) (at_place c.args.place) c.args.source.now.table limit root c.args.table.now c.args.task
    c.args.walk.now.tasks c.args.walk.now.made w c.in-App.function c.in-App.argument
    (at-Holds c.args.source.now.table c.args.task.head.0 _ c.in-App.ensures.is) c.in-App.ensures.lower (omega (arith, c.if-task-eq0.false)))

pub returns-in_ok-found-in-Sym-clause-turned : goal.returns-in_ok-found-in-Sym-clause-turned
returns-in_ok-found-in-Sym-clause-turned c =
    let is : tree_at c.args.source.now.table c.args.task.head.0 ≡ Sym c.in-Sym.symbol =
    at-Holds c.args.source.now.table c.args.task.head.0 _ c.in-Sym.ensures.is in
    IfOk-weaker _ _ c.keep.result c.keep.ensures (λ goes_on kept limit root w.
    walk-found (declarations_of c.args.source.now) (at_place c.args.place) c.args.source.now.table limit root c.args.table.now c.args.task c.args.walk.now.tasks
    c.args.walk.now.made w c.in_ok-args-in-Sym.args.items c.gathered.new.made
    c.in_ok-args-in-Sym.ensures.parts c.in_ok-args-in-Sym.ensures.count c.operator.new.table c.keep.new.made c.in_ok-found-in-Sym.found goes_on
    c.operator.ensures.keeps
    (λ acc count h. subst
    (λ A. IsTypeFound c.args.task.level (type_from (declarations_of c.args.source.now) (at_place c.args.place) A acc) c.operator.new.table
    c.in_ok-found-in-Sym.found) (sym is) (c.in_ok-found-in-Sym.ensures.decoded (at_place c.args.place) acc h))
    c.in_ok-found-in-Sym.ensures.known kept)

pub returns-in_ok-found-in-Var-clause-turned : goal.returns-in_ok-found-in-Var-clause-turned
returns-in_ok-found-in-Var-clause-turned c =
    let is : tree_at c.args.source.now.table c.args.task.head.0 ≡ Var c.in-Var.variable =
    at-Holds c.args.source.now.table c.args.task.head.0 _ c.in-Var.ensures.is in
    let alone : 0 ≡ c.args.task.arguments = omega (arith, c.if-task-gt0.false) in
    IfOk-weaker _ _ c.keep-in-Var.result c.keep-in-Var.ensures (λ goes_on kept limit root w.
    walk-found (declarations_of c.args.source.now) (at_place c.args.place) c.args.source.now.table limit root c.args.table.now c.args.task c.args.walk.now.tasks
    c.args.walk.now.made w [] c.args.walk.now.made
    refl alone c.parameter.new.table c.keep-in-Var.new.made c.in_ok-found-in-Var.found goes_on c.parameter.ensures.keeps
    (λ acc count h. let none : acc ≡ ClosedTypes.none = no-arguments acc (count ∙ sym alone) in
    subst (λ A. IsTypeFound c.args.task.level (type_from (declarations_of c.args.source.now) (at_place c.args.place) A acc) c.parameter.new.table
    c.in_ok-found-in-Var.found) (sym is)
    (subst (λ us. IsTypeFound c.args.task.level (type_from (declarations_of c.args.source.now) (at_place c.args.place) (Var c.in-Var.variable) us)
    c.parameter.new.table c.in_ok-found-in-Var.found) (sym none) (c.in_ok-found-in-Var.ensures.decoded (declarations_of c.args.source.now))))
    c.in_ok-found-in-Var.ensures.known kept)
