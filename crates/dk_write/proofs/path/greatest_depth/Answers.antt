use Rattle.std.proofs.Common.{arith, ◌+◌, suc, subst, ◌≡◌}
use Rattle.holide_sig.specs.ModuleLaws.{AreDeclsKnown-slice_get}
use Rattle.dk_write.proofs.Told.{FirstTold, one_more, all_told}
use Rattle.dk_write.proofs.path.greatest_depth.Goals as goal

pub deeper-greatest-requires : goal.deeper-greatest-requires
deeper-greatest-requires c = record
    { known = AreDeclsKnown-slice_get c.args.source.now.table c.args.source.now.decls c.loop-i.i c.get.result.now c.requires.held.decls c.get.ensures }

pub loop-i-preserved : goal.loop-i-preserved
loop-i-preserved c =
    let m = c.args.source.now in
    let next : suc c.loop-i.i ≡ c.loop-i.i + 1 = omega arith in
    subst (λ n. FirstTold n c.deeper-greatest.result m.table m.decls) next
    (one_more c.loop-i.i c.loop-i.greatest c.deeper-greatest.result m.table m.decls c.get.result.now c.get.ensures c.deeper-greatest.ensures.own
    c.deeper-greatest.ensures.more c.loop-i.invariant)

pub returns : goal.returns
returns c = all_told c.loop-i.i c.loop-i.greatest c.args.source.now.table c.args.source.now.decls (omega (arith, c.loop-i-test.false)) c.loop-i.invariant
