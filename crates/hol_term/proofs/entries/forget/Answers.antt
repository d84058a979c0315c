use Rattle.std.proofs.Common.{length, refl}
use Rattle.std.proofs.lemmas.Option.{slice_get_read}
use Rattle.hol_term.specs.Indexed.{kept_in}
use Rattle.hol_term.proofs.Indexing.{Forgotten-none, Forgotten-more, Forgotten-all}
use Rattle.hol_term.proofs.entries.forget.Goals as goal

pub loop-number-init : goal.loop-number-init
loop-number-init c = Forgotten-none (kept_in c.args.others.now) c.args.len

pub loop-number-preserved : goal.loop-number-preserved
loop-number-preserved c =
    let e = c.index-entries-number.result in
    let at = slice_get_read c.args.entries.now (length c.args.entries.now) c.loop-number.number e refl c.loop-number-test.true c.index-entries-number.is in
    Forgotten-more c.args.entries.now (kept_in c.args.others.now) (kept_in c.loop-number.others) (kept_in c.forget_node.new.others) c.args.len
    c.loop-number.number e c.requires at c.loop-number.auto.number c.loop-number.invariant
    (rw (← c.index-entries-number.is) at c.forget_node.ensures)

pub returns-clause-stay : goal.returns-clause-stay
returns-clause-stay c = λ s n lt h. c.loop-number.invariant.stays n s lt h

pub returns-clause-go : goal.returns-clause-go
returns-clause-go c = Forgotten-all c.args.entries.now (kept_in c.args.others.now) (kept_in c.loop-number.others) c.args.len c.loop-number.number c.requires
    c.loop-number-test.false c.loop-number.invariant
