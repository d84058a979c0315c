use Rattle.std.proofs.Common.{length, refl}
use Rattle.std.proofs.lemmas.Option.{slice_get_read}
use Rattle.hol_type.specs.Numbered.{number_in}
use Rattle.hol_type.proofs.Numbering.{Forgotten-none, Forgotten-more, Forgotten-all}
use Rattle.hol_type.proofs.entries.forget.Goals as goal

pub loop-number-init : goal.loop-number-init
loop-number-init c = Forgotten-none (number_in c.args.numbers.now) c.args.len

pub loop-number-preserved : goal.loop-number-preserved
loop-number-preserved c =
    let e = c.index-entries-number.result in
    let at = slice_get_read c.args.entries.now (length c.args.entries.now) c.loop-number.number e refl c.loop-number-test.true c.index-entries-number.is in
    Forgotten-more c.args.entries.now c.args.numbers.now (number_in c.loop-number.numbers) (number_in c.remove.new.self) c.args.len c.loop-number.number e
    c.requires at c.loop-number.auto.number c.loop-number.invariant
    (rw (← c.index-entries-number.is) at c.remove.ensures.updates.0)

pub returns-clause-stay : goal.returns-clause-stay
returns-clause-stay c = λ s n lt h. c.loop-number.invariant.stays s n lt h

pub returns-clause-go : goal.returns-clause-go
returns-clause-go c = Forgotten-all c.args.entries.now (number_in c.args.numbers.now) (number_in c.loop-number.numbers) c.args.len c.loop-number.number
    c.requires c.loop-number-test.false c.loop-number.invariant
