use Rattle.std.proofs.Common.{ap, arith, codes, ◌∙◌, ◌++◌, sym}
use Rattle.std.proofs.lemmas.Fmt.{decimal_digit}
use Rattle.std.proofs.lemmas.List.{append-nil}
use Rattle.dk_write.proofs.GainedLaws.{writes_same}
use Rattle.dk_write.proofs.tree.write_name.Goals as goal

pub returns-then-number-lt10 : goal.returns-then-number-lt10
returns-then-number-lt10 g c =
    writes_same _ _ (ap (λ l. codes "v" ++ l) (decimal_digit c.args.number (omega (arith, c.if-number-lt10.true)))) c.write.ensures

pub returns : goal.returns
returns g c =
    writes_same _ _ (ap (λ l. codes "v" ++ l) (sym (append-nil _ ∙ (c.as_bytes.ensures.value ∙ c.format.ensures.text)))) c.write_words.ensures
