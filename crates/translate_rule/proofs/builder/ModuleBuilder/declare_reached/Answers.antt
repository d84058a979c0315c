use Rattle.std.proofs.lemmas.Result.{on_ok_weaker}
use Rattle.translate_rule.proofs.TurnLaws.{flag-kept, declared-gone}
use Rattle.translate_rule.proofs.builder.ModuleBuilder.declare_reached.Goals as goal

pub declare-requires : goal.declare-requires
declare-requires c =
    let q = c.requires.next in record {
      kept = c.requires.kept;
      sound = c.requires.run.sound;
      named = c.requires.run.named;
      next = (
        q.0,
        q.1,
        q.2.declared,
        q.3.kept (flag-kept c.args.run c.args.reached.now c.requires.run c.contains.result _ _ _ c.contains.ensures q.2.item c.if-contains.true),
      );
    }

pub returns-then-contains-clause-declared : goal.returns-then-contains-clause-declared
returns-then-contains-clause-declared c =
    on_ok_weaker c.declare.result
    (λ h items grown counted next. h items grown counted.declared
    (next.kept (flag-kept c.args.run c.args.reached.now c.requires.run c.contains.result _ _ _ c.contains.ensures counted.item c.if-contains.true)))
    c.declare.ensures.declared

pub returns-else-contains-clause-declared : goal.returns-else-contains-clause-declared
returns-else-contains-clause-declared c = λ items grown counted next.
    declared-gone _ items grown _ counted
    (next.gone (flag-kept c.args.run c.args.reached.now c.requires.run c.contains.result _ _ _ c.contains.ensures counted.item c.if-contains.false))
