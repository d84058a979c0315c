use Rattle.std.proofs.Common.{◌∙◌, ◌++◌, ap, arith}
use Rattle.std.specs.Prelude.{decimal}
use Rattle.translate_laws.specs.NumeralLaws.{numeral-decimal}
use Rattle.share.proofs.naming.short_name.Goals as goal

pub returns : goal.returns
returns c = rw (numeral-decimal c.args.number (omega (arith, c.ranges.number)))
    (c.new.ensures ∙ c.in_ok-push_digits.ensures ∙ ap (λ l. l ++ decimal c.args.number) c.in_ok-text.ensures.items)
