use Rattle.std.proofs.Common.{◌<◌, ◌≤◌, ◌∙◌, length, arith}
use Rattle.hol_rules.proofs.Pushed.{take-pushed}
use Rattle.hol_rules.proofs.Taken.{operator-is_new, operator-isnt_new, noted-no_operator, noted-one_operator}
use Rattle.hol_rules.proofs.terms.use_operator.Goals as goal

pub returns-then-count-clause-noted : goal.returns-then-count-clause-noted
returns-then-count-clause-noted c = λ trees.
    let symbols = c.args.symbols.now in
    let grown : length symbols < length c.use_op.new.self = omega (arith, c.if-count.true, c.count.ensures, c.count-count.ensures) in
    rw (c.push_reserved.ensures.items, c.reserve.ensures.items, c.in_ok-own.ensures.cases)
    (noted-one_operator trees symbols c.args.made.now.items c.args.name.now c.args.arity
    (operator-is_new trees symbols c.use_op.new.self c.args.name.now c.args.arity (c.in-Ok.ensures.takes trees) grown))

pub returns-else-count-clause-noted : goal.returns-else-count-clause-noted
returns-else-count-clause-noted c = λ trees.
    let symbols = c.args.symbols.now in
    let stays : length c.use_op.new.self ≤ length symbols = omega (arith, c.if-count.false, c.count.ensures, c.count-count.ensures) in
    rw (
      c.truncate.ensures.items,
      c.push_reserved.ensures.items,
      c.reserve.ensures.items,
      c.len-place.ensures ∙ c.reserve.ensures.len
          ∙ c.args.made.now.ok.0,
      take-pushed c.args.made.now.items _,
    )
    (noted-no_operator trees symbols c.args.made.now.items c.args.name.now c.args.arity
    (operator-isnt_new trees symbols c.use_op.new.self c.args.name.now c.args.arity (c.in-Ok.ensures.takes trees) stays))

pub returns-in-Err-clause-unnoted : goal.returns-in-Err-clause-unnoted
returns-in-Err-clause-unnoted c = rw (
  c.truncate-in-Err.ensures.items,
  c.push_reserved.ensures.items,
  c.reserve.ensures.items,
  c.len-place.ensures ∙ c.reserve.ensures.len
      ∙ c.args.made.now.ok.0,
) (take-pushed c.args.made.now.items _)
