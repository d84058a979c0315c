use Rattle.std.proofs.Common.{ap, sym, subst, ◌∷◌, [], ◌∙◌}
use Rattle.hol_term.specs.TableLaws.{Keeps-refl, Keeps-trans}
use Rattle.lp_term.specs.Tables.{tree_at}
use Rattle.holide_sig.specs.Modules.{declarations_of}
use Rattle.decode_spec.specs.Decode.{type_of_tree}
use Rattle.decode_back.specs.Walks.{at_place}
use Rattle.decode_back.specs.TypeTasks.{IsTypeTurn, IsTypeWalk}
use Rattle.decode_back.proofs.TypeTurns.{walk-start, walk-ends}
use Rattle.decode_back.proofs.types.decode_type.Goals as goal

pub loop-task-init : goal.loop-task-init
loop-task-init c = record {
  keeps = Keeps-refl c.args.table.now;
  walk =
      let told = type_of_tree (declarations_of c.args.source.now) (at_place c.args.place) (tree_at c.args.source.now.table c.args.id.0) in
      subst (λ l. IsTypeWalk (declarations_of c.args.source.now) (at_place c.args.place) c.args.source.now.table c.args.level told c.args.table.now
      c.push.new.self l) (sym c.new-made.ensures.empty)
      (subst (λ l. IsTypeWalk (declarations_of c.args.source.now) (at_place c.args.place) c.args.source.now.table c.args.level told c.args.table.now l [])
      (ap (λ l. record { head = c.args.id; arguments = 0; level = c.args.level } ∷ l) (sym c.new-tasks.ensures.empty) ∙ sym c.in_ok-push.ensures.pushed)
      (walk-start (declarations_of c.args.source.now) (at_place c.args.place) c.args.source.now.table c.args.level c.args.table.now c.args.id c.requires.known
      c.requires.level));
}

pub turn-requires-clause-walk : goal.turn-requires-clause-walk
turn-requires-clause-walk c =
    let told = type_of_tree (declarations_of c.args.source.now) (at_place c.args.place) (tree_at c.args.source.now.table c.args.id.0) in (
      c.args.level,
      told,
      subst (λ l. IsTypeWalk (declarations_of c.args.source.now) (at_place c.args.place) c.args.source.now.table c.args.level told c.loop-task.table l
          c.loop-task.walk.made) c.in-Some.ensures.popped c.loop-task.invariant.walk,
    )

pub returns-then-not-branch-clause-decoded : goal.returns-then-not-branch-clause-decoded
returns-then-not-branch-clause-decoded c =
    let told = type_of_tree (declarations_of c.args.source.now) (at_place c.args.place) (tree_at c.args.source.now.table c.args.id.0) in
    subst (IsTypeTurn (declarations_of c.args.source.now) (at_place c.args.place) c.args.source.now.table c.args.level told c.turn.new.table
    c.turn.new.walk.tasks c.turn.new.walk.made) c.if-not-branch.true
    (c.in_ok-turn.ensures.turned c.args.level told
    (subst (λ l. IsTypeWalk (declarations_of c.args.source.now) (at_place c.args.place) c.args.source.now.table c.args.level told c.loop-task.table l
    c.loop-task.walk.made) c.in-Some.ensures.popped c.loop-task.invariant.walk))

pub loop-task-preserved : goal.loop-task-preserved
loop-task-preserved c = record {
  keeps = Keeps-trans c.loop-task.invariant.keeps c.turn.ensures.keeps;
  walk =
      let told = type_of_tree (declarations_of c.args.source.now) (at_place c.args.place) (tree_at c.args.source.now.table c.args.id.0) in
      subst (IsTypeTurn (declarations_of c.args.source.now) (at_place c.args.place) c.args.source.now.table c.args.level told c.turn.new.table
      c.turn.new.walk.tasks c.turn.new.walk.made) c.if-not-branch.false
      (c.in_ok-turn.ensures.turned c.args.level told
      (subst (λ l. IsTypeWalk (declarations_of c.args.source.now) (at_place c.args.place) c.args.source.now.table c.args.level told c.loop-task.table l
      c.loop-task.walk.made) c.in-Some.ensures.popped c.loop-task.invariant.walk));
}

pub returns-clause-decoded : goal.returns-clause-decoded
returns-clause-decoded c =
    let told = type_of_tree (declarations_of c.args.source.now) (at_place c.args.place) (tree_at c.args.source.now.table c.args.id.0) in
    walk-ends (declarations_of c.args.source.now) (at_place c.args.place) c.args.source.now.table c.args.level told c.loop-task.table c.loop-task.walk.made
    c.pop-2.new.self c.pop-2.result
    (subst (λ l. IsTypeWalk (declarations_of c.args.source.now) (at_place c.args.place) c.args.source.now.table c.args.level told c.loop-task.table l
    c.loop-task.walk.made) c.in_default.ensures.popped c.loop-task.invariant.walk)
    c.pop-2.ensures.popped
