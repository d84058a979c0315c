use Rattle.std.proofs.Common.{◌<◌, ◌≤◌, length, subst, arith}
use Rattle.std.proofs.Math.ListN.{drop_of_length-le}
use Rattle.std.proofs.lemmas.List.{length-map}
use Rattle.holide_sig.specs.Modules.{declaration_in, declarations_of}
use Rattle.bridge_decode.proofs.Lines.{Continues, continues_last, continues_next, says_more, said-true}
use Rattle.bridge_decode.proofs.exports.exports_said.Goals as goal

pub loop-i-preserved : goal.loop-i-preserved
loop-i-preserved c =
    let ds = declarations_of c.args.source.now in
    let within : c.loop-i.i < length ds = omega
    (arith, c.loop-i-test.true, c.len-i-end.ensures.count, length-map c.args.source.now.decls (declaration_in c.args.source.now.table)) in
    let adds = said-true ds c.loop-i.i _ _ c.in_ok-add_said.field-0 c.if-not-branch.false c.in_ok-add_said.ensures in
    (continues_next ds ds c.loop-i.i _ _ adds within c.loop-i.invariant.0, says_more ds c.loop-i.i _ _ c.loop-i.invariant.1 adds)

pub returns : goal.returns
returns c =
    let ds = declarations_of c.args.source.now in
    let past : length ds ≤ c.loop-i.i = omega
    (arith, c.loop-i-test.false, c.len-i-end.ensures.count, length-map c.args.source.now.decls (declaration_in c.args.source.now.table)) in
    continues_last ds c.loop-i.text.items (subst (λ rest. Continues ds rest c.loop-i.text.items) (drop_of_length-le ds past) c.loop-i.invariant.0)
