use Rattle.std.proofs.Common.{Some, arith, ap, ◌∙◌}
use Rattle.lp_term.specs.TableLaws.{tree_at-Holds}
use Rattle.lp_kernel.proofs.Asked.{known-entry, lifted-entry}
use Rattle.lp_kernel.proofs.asks.variable.Goals as goal

pub lifted-requires-clause-entry : goal.lifted-requires-clause-entry
lifted-requires-clause-entry c = known-entry _ _ _ c.in-Some.entry c.requires.known c.in-Some.ensures

pub returns-clause-is : goal.returns-clause-is
returns-clause-is c =
    lifted-entry _ _ c.args.context.now c.args.n _ c.in-Some.entry c.in_ok-ty.ty c.lifted.ensures.grows.keeps.stays
    (known-entry _ _ _ c.in-Some.entry c.requires.known c.in-Some.ensures) c.in-Some.ensures
    (tree_at-Holds c.lifted.new.base.table c.in_ok-ty.ty.0 c.in_ok-ty.ensures.known ∙ ap Some c.in_ok-ty.ensures.is)
    (omega (arith, c.in-Some-checked_add.ensures))
