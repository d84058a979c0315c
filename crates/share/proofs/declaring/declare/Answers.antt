use Rattle.std.proofs.Common.{arith, subst, sym, ◌∙◌}
use Rattle.holide_sig.specs.Modules.{declarations_of}
use Rattle.share.specs.declared.listing.Listed.TheVariants as listed
use Rattle.share.specs.Moving.{AreMade}
use Rattle.share.proofs.ListingLaws.{at-index, AreListed-at}
use Rattle.share.proofs.DeclaringLaws.{declared-next, declares-next, follows-next}
use Rattle.share.proofs.declaring.declare.Goals as goal

pub declare_one-requires-clause-listed : goal.declare_one-requires-clause-listed
declare_one-requires-clause-listed c = AreListed-at _ _ _ c.args.entries.now c.loop-i.i _ c.requires.listed
    (at-index c.args.entries.now c.loop-i.i _ c.loop-i-test.true)

pub declare_one-requires-clause-follows : goal.declare_one-requires-clause-follows
declare_one-requires-clause-follows c =
    let f = c.requires.follow in
    let i = c.loop-i.invariant in
    let source = c.args.source.now in
    let at = at-index c.args.entries.now c.loop-i.i (listed.Kept 0) c.loop-i-test.true in (
      f.0,
      subst (λ t. AreMade f.0 source.table t c.args.made.now) (sym i.table) f.1,
      follows-next (declarations_of source) source.table f.0 c.loop-i.number c.loop-i.i c.args.entries.now _ at (declarations_of c.loop-i.target)
          (i.follow f.0 f.1 f.2),
    )

pub loop-i-preserved : goal.loop-i-preserved
loop-i-preserved c =
    let i = c.loop-i.invariant in
    let source = c.args.source.now in
    let m = declarations_of source in
    let entries = c.args.entries.now in
    let one = c.in_ok-declare_one.ensures in
    let next = c.next_number-number in
    let at = at-index entries c.loop-i.i (listed.Kept 0) c.loop-i-test.true in
    record {
      table = one.table ∙ i.table;
      held = one.held;
      near = (let x = i.near in let y = next.ensures.near in omega (arith, x, y));
      follow = λ place a d.
          declared-next m source.table place c.loop-i.number c.loop-i.i entries _ at (declarations_of c.loop-i.target)
          (declarations_of c.declare_one.new.target) next.result
          (one.declared place (subst (λ t. AreMade place source.table t c.args.made.now) (sym i.table) a))
          (next.ensures.is m source.table) (i.follow place a d);
      declared = λ place a.
          declares-next m source.table place c.loop-i.number c.loop-i.i entries _ at (declarations_of c.loop-i.target)
          (declarations_of c.declare_one.new.target) _ next.result
          (one.declared place (subst (λ t. AreMade place source.table t c.args.made.now) (sym i.table) a))
          (next.ensures.is m source.table) (i.declared place a);
    }
