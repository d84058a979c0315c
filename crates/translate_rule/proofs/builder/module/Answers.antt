use Rattle.std.proofs.Common.{sym, subst, arith}
use Rattle.std.specs.Prelude.{[], take}
use Rattle.hol_spec.specs.Proofs.{steps_of, symbols_of}
use Rattle.translate_proof.specs.Keeping.{AreKept}
use Rattle.translate_rule.specs.declared.builder.ModuleBuilder.{ModuleBuilder}
use Rattle.translate_rule.specs.ItemViews.{run_of}
use Rattle.translate_rule.specs.Building.{IsBuilt}
use Rattle.translate_rule.proofs.RunLaws.{next-thing, all-made}
use Rattle.translate_rule.proofs.TurnLaws.{all-declared}
use Rattle.translate_rule.proofs.builder.module.Goals as goal

pub loop-one-init : goal.loop-one-init
loop-one-init c =
    let run = run_of c.args.proof.now c.args.assumptions.now c.args.exports.now in
    subst (λ (b : ModuleBuilder). IsBuilt run [] b × AreKept c.args.proof.now b.kept) (sym c.reserve.ensures)
    (c.in_ok-builder.ensures.begun run, c.in_ok-builder.ensures.kept c.args.proof.now)

pub add-requires-clause-kept : goal.add-requires-clause-kept
add-requires-clause-kept c = c.loop-one.invariant.1

pub add-requires-clause-next : goal.add-requires-clause-next
add-requires-clause-next c =
    let made = c.args.proof.now.made in
    let t = next-thing (symbols_of made) (steps_of made) c.made-one-items.result.now made c.loop-one.one-index c.one-item.result c.made-one-items.ensures
    c.one-item.is c.loop-one-test.true in
    (take c.loop-one.one-index made, _, t.thing, t.whole, t.kind, c.loop-one.invariant.0)

pub loop-one-preserved : goal.loop-one-preserved
loop-one-preserved c =
    let made = c.args.proof.now.made in
    let run = run_of c.args.proof.now c.args.assumptions.now c.args.exports.now in
    let t = next-thing (symbols_of made) (steps_of made) c.made-one-items.result.now made c.loop-one.one-index c.one-item.result c.made-one-items.ensures
    c.one-item.is c.loop-one-test.true in
    (subst (λ l. IsBuilt run l c.add.new.self) (sym t.more) (c.in_ok-add.ensures.added _ _ t.thing t.whole t.kind c.loop-one.invariant.0), c.add.ensures.kept)

pub returns-clause-module : goal.returns-clause-module
returns-clause-module c =
    let made = c.args.proof.now.made in
    all-declared (run_of c.args.proof.now c.args.assumptions.now c.args.exports.now) _ c.loop-one.builder
    (all-made (symbols_of made) (steps_of made) c.made-one-items.result.now made c.loop-one.one-index c.made-one-items.ensures
    (omega (arith, c.loop-one-test.false))) c.loop-one.invariant.0
