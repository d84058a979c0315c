use Rattle.std.proofs.Common.{arith, subst, sym, ◌∙◌}
use Rattle.std.proofs.lemmas.List.{drop_all}
use Rattle.hol_type.proofs.ImageLaws.{Skips, skips_none, skips_other, replaces_by, replaces_itself}
use Rattle.hol_type.proofs.substitution.replaced.Goals as goal
use Rattle.hol_laws.specs.PlaceLaws.{drop-item}

pub loop-replaced-init : goal.loop-replaced-init
loop-replaced-init c = skips_none _ _

pub returns-then-eq : goal.returns-then-eq
returns-then-eq c =
    replaces_by c.args.pairs.now _ c.loop-replaced-item.result c.args.id c.args.name.now (sym c.eq.ensures ∙ c.if-eq.true)
    (subst (λ l. Skips c.args.pairs.now l c.args.name.now)
    (drop-item c.args.pairs.now c.loop-replaced.replaced-index c.loop-replaced-item.result c.loop-replaced-item.is c.loop-replaced-test.true)
    c.loop-replaced.invariant)

pub loop-replaced-preserved : goal.loop-replaced-preserved
loop-replaced-preserved c =
    skips_other c.args.pairs.now _ c.loop-replaced-item.result c.args.name.now (sym c.eq.ensures ∙ c.if-eq.false)
    (subst (λ l. Skips c.args.pairs.now l c.args.name.now)
    (drop-item c.args.pairs.now c.loop-replaced.replaced-index c.loop-replaced-item.result c.loop-replaced-item.is c.loop-replaced-test.true)
    c.loop-replaced.invariant)

pub returns : goal.returns
returns c = replaces_itself c.args.pairs.now c.args.id c.args.name.now
    (subst (λ l. Skips c.args.pairs.now l c.args.name.now)
    (drop_all c.loop-replaced.replaced-index c.args.pairs.now (omega (arith, c.loop-replaced-test.false))) c.loop-replaced.invariant)
