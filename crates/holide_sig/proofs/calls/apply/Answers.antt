use Rattle.std.proofs.Common.{◌∙◌, ap, arith, Some}
use Rattle.std.proofs.lemmas.List.{drop_more}
use Rattle.lp_term.specs.TableLaws.{tree_at-Holds}
use Rattle.holide_sig.proofs.ApplyLaws.{next-known, apply_step, apply_end, drop-all}
use Rattle.holide_sig.proofs.calls.apply.Goals as goal

pub node-requires : goal.node-requires
node-requires c = (
  c.loop-arg.invariant.1,
  next-known _ _ c.args.args.now c.loop-arg.arg-index _ c.loop-arg.invariant.0 c.requires.args
      (drop_more c.args.args.now c.loop-arg.arg-index _ c.loop-arg-test.true),
)

pub loop-arg-preserved : goal.loop-arg-preserved
loop-arg-preserved c =
    apply_step _ _ _ c.args.args.now c.loop-arg.arg-index c.loop-arg.made c.in_ok-made.made _ _ c.requires.args
    (drop_more c.args.args.now c.loop-arg.arg-index _ c.loop-arg-test.true) c.loop-arg.invariant.0 c.in_ok-made.ensures.keeps
    c.in_ok-made.ensures.made c.loop-arg.invariant.2

pub returns-clause-made : goal.returns-clause-made
returns-clause-made c =
    tree_at-Holds _ _ c.loop-arg.invariant.1
    ∙ ap Some (apply_end _ _ c.args.args.now c.loop-arg.arg-index c.loop-arg.made _ c.loop-arg.invariant.1
    (drop-all c.args.args.now c.loop-arg.arg-index (omega (arith, c.loop-arg-test.false))) c.loop-arg.invariant.2)
