use Rattle.std.proofs.Common.{◌≡◌, ◌+◌, ◌∷◌, arith, subst, sym, ap, ◌∙◌}
use Rattle.std.specs.Prelude.{drop}
use Rattle.std.proofs.lemmas.List.{drop_all, drop_more}
use Rattle.hol_term.specs.Masks.{AreAbsent}
use Rattle.hol_term.specs.Substitutions.{term_pairs_at, AreTermPairsKnown}
use Rattle.hol_term.specs.Tables.{term_at, type_at}
use Rattle.hol_term.proofs.MaskLaws.{AreAbsent-none, AreAbsent-more}
use Rattle.hol_term.proofs.TermTable.are_absent.Goals as goal

pub loop-variable-init : goal.loop-variable-init
loop-variable-init c = (c.requires.pairs, λ h. h)

pub is_absent-requires-clause-ty : goal.is_absent-requires-clause-ty
is_absent-requires-clause-ty c =
    let item = c.loop-variable-item.result in
    let front : drop c.loop-variable.variable-index c.args.pairs.now ≡ item ∷ drop (c.loop-variable.variable-index + 1) c.args.pairs.now
    = drop_more c.args.pairs.now c.loop-variable.variable-index item c.loop-variable-test.true
    ∙ ap (λ x. x ∷ drop (c.loop-variable.variable-index + 1) c.args.pairs.now) (sym c.loop-variable-item.is) in
    let known = subst (AreTermPairsKnown c.args.self.now) front c.loop-variable.invariant.0 in
    known.0

pub loop-variable-preserved : goal.loop-variable-preserved
loop-variable-preserved c =
    let trees = c.args.self.now in
    let t = term_at trees c.args.id.0 in
    let item = c.loop-variable-item.result in
    let rest = drop (c.loop-variable.variable-index + 1) c.args.pairs.now in
    let front : drop c.loop-variable.variable-index c.args.pairs.now ≡ item ∷ rest
    = drop_more c.args.pairs.now c.loop-variable.variable-index item c.loop-variable-test.true ∙ ap (λ x. x ∷ rest) (sym c.loop-variable-item.is) in
    let known = subst (AreTermPairsKnown trees) front c.loop-variable.invariant.0 in (
      known.1.1,
      λ h. c.loop-variable.invariant.1 (subst (λ l. AreAbsent (term_pairs_at trees l) t) (sym front)
          (AreAbsent-more (item.0.name, type_at trees item.0.ty.0) (term_at trees item.1.0) (term_pairs_at trees rest) t
          (c.is_absent.ensures c.if-not-is_absent.false) h)),
    )

pub returns : goal.returns
returns c =
    let trees = c.args.self.now in
    let t = term_at trees c.args.id.0 in
    λ told. c.loop-variable.invariant.1
    (subst (λ l. AreAbsent (term_pairs_at trees l) t)
    (sym (drop_all c.loop-variable.variable-index c.args.pairs.now (omega (arith, c.loop-variable-test.false)))) (AreAbsent-none t))
