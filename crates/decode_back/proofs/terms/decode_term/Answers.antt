use Rattle.std.proofs.Common.{◌≡◌, ◌∷◌, [], ap, arith, sym, subst, ◌∙◌}
use Rattle.hol_term.specs.TableLaws.{Keeps-refl, Keeps-trans}
use Rattle.lp_term.specs.Tables.{tree_at}
use Rattle.holide_sig.specs.Modules.{declarations_of}
use Rattle.decode_spec.specs.Decode.{term_from}
use Rattle.decode_back.specs.declared.terms.Task.TheVariants as the_task
use Rattle.decode_back.specs.Walks.{at_place}
use Rattle.decode_back.specs.TermTasks.{under, Wanted, IsTermShape, IsTermTurn, IsTermWalk}
use Rattle.decode_back.proofs.SourceLemmas.{IsSource-Keeps}
use Rattle.decode_back.proofs.TermLemmas.{AreVariables-Keeps}
use Rattle.decode_back.proofs.TermTurns.{term-start, term-ends}
use Rattle.decode_back.proofs.terms.decode_term.Goals as goal

pub loop-task-init : goal.loop-task-init
loop-task-init c =
    let first : the_task.Visit c.args.id c.args.source.place.binders c.args.level ∷ [] ≡ c.push.new.self =
    ap (λ l. the_task.Visit c.args.id c.args.source.place.binders c.args.level ∷ l) (sym c.new-tasks.ensures.empty) ∙ sym c.in_ok-push.ensures.pushed in
    record {
      keeps = Keeps-refl c.args.table.now;
      budget = omega arith;
      shaped = subst (IsTermShape c.args.source.base.now.table c.args.table.now c.push.new.self) (sym c.new-made.ensures.empty)
          (subst (λ l. IsTermShape c.args.source.base.now.table c.args.table.now l []) first (tt {0}, (c.requires.known, c.requires.level, tt {0})));
      walk = λ types vs.
          let wanted : Wanted = record {
            told = term_from (declarations_of c.args.source.base.now) (tree_at c.args.source.base.now.table c.args.id.0) (at_place c.args.source.place);
            size = c.args.budget.now;
            depth = c.args.level;
          } in
          subst (IsTermWalk (declarations_of c.args.source.base.now) c.args.source.base.now.table (under c.args.source.place) types wanted c.args.table.now
          c.args.budget.now c.push.new.self) (sym c.new-made.ensures.empty)
          (subst (λ l. IsTermWalk (declarations_of c.args.source.base.now) c.args.source.base.now.table (under c.args.source.place) types wanted
          c.args.table.now c.args.budget.now l []) first
          (term-start (declarations_of c.args.source.base.now) c.args.source.base.now.table (under c.args.source.place) types c.args.table.now c.args.id
          c.args.source.place.binders c.args.level c.args.budget.now));
    }

pub turn-requires-clause-source : goal.turn-requires-clause-source
turn-requires-clause-source c = IsSource-Keeps c.args.source c.loop-task.invariant.keeps c.requires.source

pub returns-then-not-branch-clause-decoded : goal.returns-then-not-branch-clause-decoded
returns-then-not-branch-clause-decoded c types vs =
    let wanted : Wanted = record {
      told = term_from (declarations_of c.args.source.base.now) (tree_at c.args.source.base.now.table c.args.id.0) (at_place c.args.source.place);
      size = c.args.budget.now;
      depth = c.args.level;
    } in
    subst (IsTermTurn (declarations_of c.args.source.base.now) c.args.source.base.now.table (under c.args.source.place) types wanted c.turn.new.table
    c.turn.new.walk.budget c.turn.new.walk.tasks c.turn.new.walk.made) c.if-not-branch.true
    (c.in_ok-turn.ensures.turned types wanted (AreVariables-Keeps c.args.source.variables.now types c.loop-task.invariant.keeps c.requires.source.variables vs)
    (subst (λ l. IsTermWalk (declarations_of c.args.source.base.now) c.args.source.base.now.table (under c.args.source.place) types wanted c.loop-task.table
    c.loop-task.walk.budget l c.loop-task.walk.made) c.in-Some.ensures.popped (c.loop-task.invariant.walk types vs)))

pub loop-task-preserved : goal.loop-task-preserved
loop-task-preserved c = record {
  keeps = Keeps-trans c.loop-task.invariant.keeps c.turn.ensures.keeps;
  budget = omega (arith, c.loop-task.invariant.budget, c.turn.ensures.budget);
  shaped = c.in_ok-turn.ensures.shaped c.if-not-branch.false;
  walk = λ types vs.
      let wanted : Wanted = record {
        told = term_from (declarations_of c.args.source.base.now) (tree_at c.args.source.base.now.table c.args.id.0) (at_place c.args.source.place);
        size = c.args.budget.now;
        depth = c.args.level;
      } in
      subst (IsTermTurn (declarations_of c.args.source.base.now) c.args.source.base.now.table (under c.args.source.place) types wanted c.turn.new.table
      c.turn.new.walk.budget c.turn.new.walk.tasks c.turn.new.walk.made) c.if-not-branch.false
      (c.in_ok-turn.ensures.turned types wanted
      (AreVariables-Keeps c.args.source.variables.now types c.loop-task.invariant.keeps c.requires.source.variables vs)
      (subst (λ l. IsTermWalk (declarations_of c.args.source.base.now) c.args.source.base.now.table (under c.args.source.place) types wanted
      c.loop-task.table c.loop-task.walk.budget l c.loop-task.walk.made) c.in-Some.ensures.popped (c.loop-task.invariant.walk types vs)));
}

pub returns-clause-decoded : goal.returns-clause-decoded
returns-clause-decoded c types vs =
    let wanted : Wanted = record {
      told = term_from (declarations_of c.args.source.base.now) (tree_at c.args.source.base.now.table c.args.id.0) (at_place c.args.source.place);
      size = c.args.budget.now;
      depth = c.args.level;
    } in
    term-ends (declarations_of c.args.source.base.now) c.args.source.base.now.table (under c.args.source.place) types wanted c.loop-task.table
    c.loop-task.walk.budget c.loop-task.walk.made c.pop-2.new.self c.pop-2.result
    (subst (λ l. IsTermWalk (declarations_of c.args.source.base.now) c.args.source.base.now.table (under c.args.source.place) types wanted c.loop-task.table
    c.loop-task.walk.budget l c.loop-task.walk.made) c.in_default.ensures.popped (c.loop-task.invariant.walk types vs)) c.loop-task.invariant.shaped.0
    c.pop-2.ensures.popped
