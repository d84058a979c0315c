use Rattle.std.proofs.Common.{arith, ap, sym, ◌∙◌}
use Rattle.std.specs.List.{list_any}
use Rattle.std.proofs.lemmas.List.Folds.{list_any_at}
use Rattle.hol_spec.specs.Lists.{is_in}
use Rattle.hol_spec.specs.NameEquality.{name_eq}
use Rattle.article_reach.proofs.ServedParts.{constants-wanted, all-taken}
use Rattle.article_reach.proofs.walk.Walk.is_constant_wanted.Goals as goal

pub returns-then-has : goal.returns-then-has
returns-then-has c trees =
    let w = c.args.self.now in
    let pairs = c.args.pairs.now in
    let pair = c.pair-item.result in
    sym (list_any_at (λ pair. is_in name_eq pair.0 w.constants) pairs c.loop-pair.pair-index pair (omega (arith, c.loop-pair-test.true))
    (ap (λ pair. is_in name_eq pair.0 w.constants) (sym c.pair-item.is) ∙ sym c.has.ensures ∙ c.if-has.true))
    ∙ constants-wanted trees w pairs

pub returns : goal.returns
returns c trees =
    let w = c.args.self.now in
    let pairs = c.args.pairs.now in
    sym c.loop-pair.invariant ∙ ap (list_any (λ pair. is_in name_eq pair.0 w.constants))
    (all-taken pairs c.loop-pair.pair-index (omega (arith, c.loop-pair-test.false))) ∙ constants-wanted trees w pairs
