use Rattle.std.proofs.Common.{◌<◌, ◌≤◌, ◌∙◌, length, arith}
use Rattle.hol_rules.proofs.Pushed.{take-pushed}
use Rattle.hol_rules.proofs.Taken.{constant-is_new, constant-isnt_new, noted-no_constant, noted-one_constant}
use Rattle.hol_rules.proofs.terms.use_constant.Goals as goal

pub returns-then-count-clause-takes : goal.returns-then-count-clause-takes
returns-then-count-clause-takes c = rw c.in-Ok.ensures.table at c.in-Ok.ensures.takes

pub returns-then-count-clause-known : goal.returns-then-count-clause-known
returns-then-count-clause-known c = rw c.in-Ok.ensures.table at c.in-Ok.ensures.known

pub returns-then-count-clause-noted : goal.returns-then-count-clause-noted
returns-then-count-clause-noted c =
    let trees = c.args.terms.now in
    let symbols = c.args.symbols.now in
    let takes = rw c.in-Ok.ensures.table at c.in-Ok.ensures.takes in
    let grown : length symbols < length c.use_const.new.self = omega (arith, c.if-count.true, c.count.ensures, c.count-count.ensures) in
    rw (c.push_reserved.ensures.items, c.reserve.ensures.items, c.in_ok-own.ensures.cases)
    (noted-one_constant trees symbols c.args.made.now.items c.args.name.now
    (constant-is_new trees symbols c.use_const.new.self c.args.name.now takes grown))

pub returns-else-count-clause-takes : goal.returns-else-count-clause-takes
returns-else-count-clause-takes c = rw c.in-Ok.ensures.table at c.in-Ok.ensures.takes

pub returns-else-count-clause-known : goal.returns-else-count-clause-known
returns-else-count-clause-known c = rw c.in-Ok.ensures.table at c.in-Ok.ensures.known

pub returns-else-count-clause-noted : goal.returns-else-count-clause-noted
returns-else-count-clause-noted c =
    let trees = c.args.terms.now in
    let symbols = c.args.symbols.now in
    let takes = rw c.in-Ok.ensures.table at c.in-Ok.ensures.takes in
    let stays : length c.use_const.new.self ≤ length symbols = omega (arith, c.if-count.false, c.count.ensures, c.count-count.ensures) in
    rw (
      c.truncate.ensures.items,
      c.push_reserved.ensures.items,
      c.reserve.ensures.items,
      c.len-place.ensures ∙ c.reserve.ensures.len
          ∙ c.args.made.now.ok.0,
      take-pushed c.args.made.now.items _,
    )
    (noted-no_constant trees symbols c.args.made.now.items c.args.name.now
    (constant-isnt_new trees symbols c.use_const.new.self c.args.name.now takes stays))

pub returns-in-Err-clause-known : goal.returns-in-Err-clause-known
returns-in-Err-clause-known c = rw c.in-Err.ensures.table at c.in-Err.ensures.known

pub returns-in-Err-clause-unnoted : goal.returns-in-Err-clause-unnoted
returns-in-Err-clause-unnoted c = rw (
  c.truncate-in-Err.ensures.items,
  c.push_reserved.ensures.items,
  c.reserve.ensures.items,
  c.len-place.ensures ∙ c.reserve.ensures.len
      ∙ c.args.made.now.ok.0,
) (take-pushed c.args.made.now.items _)
