use Rattle.std.proofs.Common.{nat_eq, length, map, [], refl, ap, sym, ◌∙◌}
use Rattle.std.proofs.lemmas.List.{take_all}
use Rattle.hol_spec.specs.Lists.{union}
use Rattle.hol_spec.specs.NameEquality.{name_eq}
use Rattle.hol_defs.proofs.LoopLaws.{united_next}
use Rattle.hol_defs.proofs.PairLaws.{names-once}
use Rattle.hol_defs.proofs.lists.are_once.Goals as goal

pub loop-pair-preserved : goal.loop-pair-preserved
loop-pair-preserved c =
    united_next name_eq (λ p. p.0) c.args.pairs.now c.loop-pair.pair-index c.pair-item.result c.loop-pair.names c.add_copy.new.self _ c.loop-pair-test.true
    (sym c.pair-item.is) c.loop-pair.invariant refl c.in_ok-add_copy.ensures.added

pub returns : goal.returns
returns c =
    let all = take_all c.loop-pair.pair-index c.args.pairs.now c.loop-pair-test.false in
    ap (λ n. nat_eq n (length c.args.pairs.now)) c.len.ensures
    ∙ names-once c.args.pairs.now c.loop-pair.names (c.loop-pair.invariant ∙ ap (λ ps. union name_eq [] (map (λ p. p.0) ps)) all)
