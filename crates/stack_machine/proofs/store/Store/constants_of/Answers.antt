use Rattle.std.proofs.Common.{◌≡◌, ◌-◌, ◌<◌, suc, length, refl, sym, ap, ◌∙◌, drop, map, arith}
use Rattle.std.proofs.Math.Seq.{drop-length}
use Rattle.article_spec.specs.DefiningWords.{constant_objects}
use Rattle.article_spec.specs.State as state
use Rattle.stack_machine.specs.Stored.{list_view}
use Rattle.stack_machine.specs.StoredLaws.{Grows-refl, Grows-trans, IsListKnown-Grows, list_view-Grows}
use Rattle.stack_machine.proofs.ConstantLists.{constants-all, constants-more, slice_get-within}
use Rattle.stack_machine.proofs.store.Store.constants_of.Goals as goal

pub loop-left-init : goal.loop-left-init
loop-left-init c = record {
  within = omega arith;
  known = tt;
  made = sym (ap (λ ps. constant_objects (map (λ p. p.0) ps)) (drop-length c.args.pairs.now));
  grows = Grows-refl _;
  run = refl;
}

pub returns-in_err-list-clause-grows : goal.returns-in_err-list-clause-grows
returns-in_err-list-clause-grows c = Grows-trans c.loop-left.invariant.grows (Grows-trans c.in_ok-id.ensures.grows c.in_err-list.ensures.grows)

pub loop-left-preserved : goal.loop-left-preserved
loop-left-preserved c =
    let inv = c.loop-left.invariant in
    let before = c.loop-left.left - 1 in
    let up : suc before ≡ c.loop-left.left = omega (arith, c.loop-left-test.true) in
    let within : before < length c.args.pairs.now = omega (arith, c.loop-left-test.true, inv.within) in
    let there = slice_get-within c.args.pairs.now before c.index-pairs-left.result within in
    let kept = c.in_ok-id.ensures in
    let rest = sym (list_view-Grows kept.grows c.loop-left.list inv.known) ∙ inv.made
    ∙ ap (λ k. constant_objects (map (λ p. p.0) (drop k c.args.pairs.now))) (sym up) in
    record {
      within = omega (arith, inv.within);
      known = c.in_ok-list.ensures.known;
      made = c.in_ok-list.ensures.made ∙ ap (λ n. state.Objects.more (state.Object.constant n) (list_view c.keep_name.new.self c.loop-left.list)) kept.kept
          ∙ constants-more c.args.pairs.now before _ _ there rest;
      grows = Grows-trans inv.grows (Grows-trans kept.grows c.in_ok-list.ensures.grows);
      run = c.in_ok-list.ensures.run ∙ kept.run ∙ inv.run;
    }

pub returns-in_err-id-clause-grows : goal.returns-in_err-id-clause-grows
returns-in_err-id-clause-grows c = Grows-trans c.loop-left.invariant.grows c.in_err-id.ensures.grows

pub returns-in_err-id-clause-run : goal.returns-in_err-id-clause-run
returns-in_err-id-clause-run c = c.in_err-id.ensures.run ∙ c.loop-left.invariant.run

pub cons-requires-clause-head : goal.cons-requires-clause-head
cons-requires-clause-head c = c.in_ok-id.ensures.known

pub cons-requires-clause-tail : goal.cons-requires-clause-tail
cons-requires-clause-tail c = IsListKnown-Grows c.in_ok-id.ensures.grows c.loop-left.list c.loop-left.invariant.known

pub returns-in_err-list-clause-run : goal.returns-in_err-list-clause-run
returns-in_err-list-clause-run c = c.in_err-list.ensures.run ∙ c.in_ok-id.ensures.run ∙ c.loop-left.invariant.run

pub loop-left-smaller : goal.loop-left-smaller
loop-left-smaller c = omega (arith, c.loop-left-test.true)

pub returns-clause-known : goal.returns-clause-known
returns-clause-known c = c.loop-left.invariant.known

pub returns-clause-made : goal.returns-clause-made
returns-clause-made c = constants-all c.args.pairs.now c.loop-left.left _ (omega (arith, c.loop-left-test.false)) c.loop-left.invariant.made

pub returns-clause-grows : goal.returns-clause-grows
returns-clause-grows c = c.loop-left.invariant.grows

pub returns-clause-run : goal.returns-clause-run
returns-clause-run c = c.loop-left.invariant.run
