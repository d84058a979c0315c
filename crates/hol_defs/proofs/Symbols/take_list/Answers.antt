use Rattle.std.proofs.Common.{◌<◌, length, take, sym, ◌∙◌, arith}
use Rattle.std.proofs.lemmas.Grind.{common_steps}
use Rattle.hol_defs.proofs.ListEnds.{taking_next}
use Rattle.hol_defs.proofs.Symbols.take_list.Goals as goal

pub returns-in-Err-clause-unchanged : goal.returns-in-Err-clause-unchanged
returns-in-Err-clause-unchanged c = c.cut.ensures c.args.self.now (record {
  pairs = take c.loop-index.index c.args.pairs.now;
  terms = take c.loop-index.index c.args.terms.now;
  is = c.in-Err.ensures.unchanged ∙ c.loop-index.invariant.is;
  taken = c.mark-mark.ensures.taken;
  generics = c.mark-mark.ensures.generics;
})

pub loop-index-preserved : goal.loop-index-preserved
loop-index-preserved c =
    let inside : c.loop-index.index < length c.args.terms.now = omega (arith, c.requires.same, c.loop-index-test.true) in
    taking_next c.args.self.now c.loop-index.self c.take_const.new.self c.args.pairs.now c.args.terms.now c.loop-index.index c.index-pairs-index.result _
    c.loop-index-test.true (sym c.index-pairs-index.is) inside (grind (arith, common_steps)) c.loop-index.invariant
    c.in-Ok.ensures.takes
