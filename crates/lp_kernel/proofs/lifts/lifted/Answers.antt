use Rattle.std.proofs.Common.{arith, ap, ◌∙◌}
use Rattle.lp_spec.specs.Trees.{lift}
use Rattle.lp_term.specs.TableLaws.{tree_at-Stays}
use Rattle.lp_kernel.proofs.LiftedLaws.{AreLifts-Keeps, AreLifts-only}
use Rattle.lp_kernel.proofs.lifts.lifted.Goals as goal

pub returns-clause-lifts : goal.returns-clause-lifts
returns-clause-lifts c =
    AreLifts-only c.raised.new.base.table c.args.lifts.now c.keep.new.self (record { id = c.args.entry; by = c.args.by; found = c.in_ok-made.made })
    c.in_ok-keep.ensures.only
    (record {
      known = omega (arith, c.requires.entry, c.raised.ensures.grows.keeps.longer);
      lifted_known = c.in_ok-made.ensures.known;
      is = c.in_ok-made.ensures.is ∙ ap (lift c.args.by) (tree_at-Stays c.raised.ensures.grows.keeps.stays c.args.entry.0 c.requires.entry);
    })
    (AreLifts-Keeps c.raised.ensures.grows.keeps c.args.lifts.now c.requires.lifts)

pub returns-in-Some-clause-known : goal.returns-in-Some-clause-known
returns-in-Some-clause-known c = (c.requires.lifts.each _ _ c.in-Some.ensures.kept).lifted_known

pub returns-in-Some-clause-is : goal.returns-in-Some-clause-is
returns-in-Some-clause-is c = (c.requires.lifts.each _ _ c.in-Some.ensures.kept).is
