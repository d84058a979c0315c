use Rattle.std.proofs.Common.{arith}
use Rattle.translate_laws.specs.NumeralLaws.{numeral-decimal, numeral-one}
use Rattle.translate_term.proofs.spelling.push_numeral.Goals as goal

pub returns-then-number-lt10 : goal.returns-then-number-lt10
returns-then-number-lt10 c =
    let small = c.if-number-lt10.true in
    rw (numeral-one c.args.number (omega (arith, small))) c.in_ok-push.ensures.items

pub returns : goal.returns
returns c = rw (numeral-decimal c.args.number (omega (arith, c.ranges.number))) c.push_digits.ensures
