use Rattle.std.proofs.Common.{◌∙◌, ◌++◌, ap, sym, arith}
use Rattle.name_table.specs.Spellings.{unpacked}
use Rattle.name_table.proofs.Packing.{digits_left, no_digits_left}
use Rattle.name_table.proofs.spelling.unpacked.Goals as goal

pub loop-left-preserved : goal.loop-left-preserved
loop-left-preserved c =
    let i = c.loop-left.invariant in
    let r = digits_left (unpacked c.args.number) c.loop-left.bytes.items i.0 c.loop-left.left i.1 i.2 i.3 c.loop-left-test.true in
    (r.0, r.1 ∙ ap (λ l. l ++ r.0) (sym c.in_ok-push.ensures.items), r.2, r.3)

pub returns : goal.returns
returns c = let i = c.loop-left.invariant in no_digits_left (unpacked c.args.number) c.loop-left.bytes.items i.0 i.1
    (let m = i.2 in omega (arith, m, c.loop-left-test.false))
