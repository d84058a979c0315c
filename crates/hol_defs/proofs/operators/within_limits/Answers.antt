use Rattle.std.proofs.Common.{arith}
use Rattle.hol_type.specs.Tables.{tree_at}
use Rattle.hol_defs.proofs.OperatorLaws.{limit-large, limit-deep, limit-none}
use Rattle.hol_defs.proofs.operators.within_limits.Goals as goal

pub returns-then-size-gt-GREATEST_SIZE-clause-refusal : goal.returns-then-size-gt-GREATEST_SIZE-clause-refusal
returns-then-size-gt-GREATEST_SIZE-clause-refusal c = λ names e.
    limit-large names (tree_at c.args.types.now c.args.whole.0)
    (omega (arith, e, c.size.ensures, c.saturating_add.ensures, c.saturating_add-size.ensures, c.if-size-gt-GREATEST_SIZE.true))

pub returns-then-depth-gt-GREATEST_DEPTH-clause-refusal : goal.returns-then-depth-gt-GREATEST_DEPTH-clause-refusal
returns-then-depth-gt-GREATEST_DEPTH-clause-refusal c = λ names e.
    limit-deep names (tree_at c.args.types.now c.args.whole.0)
    (omega (arith, e, c.size.ensures, c.saturating_add.ensures, c.saturating_add-size.ensures, c.if-size-gt-GREATEST_SIZE.false))
    (omega (
      arith,
      e,
      c.depth.ensures,
      c.max.ensures,
      c.min.ensures,
      c.saturating_add-own.ensures,
      c.max-2.ensures,
      c.saturating_add-depth.ensures,
      c.if-depth-gt-GREATEST_DEPTH.true,
    ))

pub returns-clause-fits : goal.returns-clause-fits
returns-clause-fits c = λ names e.
    limit-none names (tree_at c.args.types.now c.args.whole.0)
    (omega (arith, e, c.size.ensures, c.saturating_add.ensures, c.saturating_add-size.ensures, c.if-size-gt-GREATEST_SIZE.false))
    (omega (
      arith,
      e,
      c.depth.ensures,
      c.max.ensures,
      c.min.ensures,
      c.saturating_add-own.ensures,
      c.max-2.ensures,
      c.saturating_add-depth.ensures,
      c.if-depth-gt-GREATEST_DEPTH.false,
    ))
