use Rattle.std.proofs.Common.{◌≡◌, ◌-◌, suc, arith, sym, subst, ◌∙◌}
use Rattle.std.specs.Prelude.{slice_set}
use Rattle.translate_laws.specs.AcceptedItems.{made-in_order}
use Rattle.translate_reach.specs.declared.items.Need.TheVariants as need
use Rattle.translate_reach.specs.MadeItems.{unnamed, need_keys, need_at, IsLooked}
use Rattle.translate_reach.proofs.Ended.{looked-first, looked-next, looked-IsReach, needs-at, needs-length}
use Rattle.translate_reach.proofs.reached.Goals as goal

pub of-requires : goal.of-requires
of-requires c = record { order = made-in_order unnamed c.args.proof.now.made c.is_proof.ensures c.requires.over }

pub want_steps-requires-clause-order : goal.want_steps-requires-clause-order
want_steps-requires-clause-order c = made-in_order unnamed c.args.proof.now.made c.is_proof.ensures c.requires.over

pub look-requires-clause-order : goal.look-requires-clause-order
look-requires-clause-order c = made-in_order unnamed c.args.proof.now.made c.is_proof.ensures c.requires.over

pub loop-item-init : goal.loop-item-init
loop-item-init c =
    let p = c.args.proof.now in
    let order = made-in_order unnamed p.made c.is_proof.ensures c.requires.over in
    let n = needs-length p c.in_ok-items.items c.in_ok-items.ensures in
    let first = c.in_ok-walk.walk in
    let flags = c.in_ok-flags.flags.items in
    let begun = looked-first p order c.args.exports.now first c.want_steps.new.self flags c.in_ok-walk.ensures.marks c.in_ok-walk.ensures.tasks
    c.want_steps.ensures.walk c.want_steps.ensures.wants
    (c.want_steps.ensures.tasks ∙ c.in_ok-walk.ensures.tasks) (c.in_ok-flags.ensures.count ∙ c.count.ensures ∙ n) c.in_ok-flags.ensures.unset in
    subst (IsLooked p c.args.exports.now c.want_steps.new.self flags) (sym (c.count-item.ensures ∙ n)) begun

pub loop-item-preserved : goal.loop-item-preserved
loop-item-preserved c =
    let p = c.args.proof.now in
    let order = made-in_order unnamed p.made c.is_proof.ensures c.requires.over in
    let items = c.in_ok-items.items in
    let w = c.loop-item.walk in
    let v = c.look.new.self in
    let flags = c.loop-item.flags.items in
    let j = c.loop-item.item in
    let i = j - 1 in
    let e : j ≡ suc i = omega (arith, c.loop-item-test.true) in
    let ends = c.in_ok-flags-2.ensures in
    subst (λ b. IsLooked p c.args.exports.now v (slice_set flags i b) i) (sym ends.is)
    (looked-next p order c.args.exports.now w v flags i j c.loop-item.invariant e (need_keys p (need_at items i))
    (λ x at. needs-at p items c.in_ok-items.ensures i need.Nothing x at) ends.walk ends.tasks ends.wants)

pub returns : goal.returns
returns c =
    let p = c.args.proof.now in
    let order = made-in_order unnamed p.made c.is_proof.ensures c.requires.over in
    let flags = c.loop-item.flags.items in
    let none : c.loop-item.item ≡ 0 = omega (arith, c.loop-item-test.false) in
    looked-IsReach p order c.args.exports.now c.loop-item.walk flags (subst (IsLooked p c.args.exports.now c.loop-item.walk flags) none c.loop-item.invariant)
