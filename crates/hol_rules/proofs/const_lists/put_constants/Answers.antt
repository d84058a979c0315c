use Rattle.std.proofs.Common.{arith}
use Rattle.std.specs.Prelude.{take}
use Rattle.std.proofs.lemmas.List.{take_more}
use Rattle.hol_term.specs.TableLaws.{Keeps-trans}
use Rattle.hol_rules.proofs.ListPut.{ArePut-more, ArePut-none, known-at}
use Rattle.hol_rules.proofs.const_lists.put_constants.Goals as goal

pub loop-name-init : goal.loop-name-init
loop-name-init c = rw c.requires.empty (ArePut-none c.args.terms.now)

pub constant_of-requires : goal.constant_of-requires
constant_of-requires c =
    let known = known-at c.args.terms.now c.args.pairs.now c.loop-name.name-index c.loop-name-item.result c.requires.pairs c.loop-name-test.true
    c.loop-name-item.is in
    omega (arith, known, c.loop-name.invariant.keeps.types.longer)

pub returns-in_err-reserve-clause-keeps : goal.returns-in_err-reserve-clause-keeps
returns-in_err-reserve-clause-keeps c = c.loop-name.invariant.keeps

pub returns-in_err-constant-clause-keeps : goal.returns-in_err-constant-clause-keeps
returns-in_err-constant-clause-keeps c = Keeps-trans c.loop-name.invariant.keeps c.constant_of.ensures.keeps

pub returns-in_err-own-clause-keeps : goal.returns-in_err-own-clause-keeps
returns-in_err-own-clause-keeps c = Keeps-trans c.loop-name.invariant.keeps c.constant_of.ensures.keeps

pub loop-name-preserved : goal.loop-name-preserved
loop-name-preserved c =
    let item = c.loop-name-item.result in
    let known = known-at c.args.terms.now c.args.pairs.now c.loop-name.name-index c.loop-name-item.result c.requires.pairs c.loop-name-test.true
    c.loop-name-item.is in
    rw (
      take_more c.args.pairs.now c.loop-name.name-index item c.loop-name-test.true,
      ← c.loop-name-item.is,
      c.push_reserved.ensures.items,
      c.reserve.ensures.items,
    ) (
    ArePut-more (take c.loop-name.name-index c.args.pairs.now) c.loop-name.put.items item.0 item.1 c.in_ok-own.own c.in_ok-constant.constant
    c.loop-name.invariant known c.constant_of.ensures.keeps c.in_ok-constant.ensures.made c.in_ok-own.ensures
    )
