use Rattle.std.proofs.Common.{◌≡◌, ◌+◌, ◌∷◌, subst, sym, ap, ◌∙◌, arith}
use Rattle.std.specs.Prelude.{drop}
use Rattle.std.proofs.lemmas.List.{drop_more}
use Rattle.hol_term.proofs.PutFor.{IsFitting, fitting_fails}
use Rattle.hol_term.proofs.TermTable.fits.Goals as goal

pub returns-then-ne : goal.returns-then-ne
returns-then-ne c =
    let item = c.loop-variable-item.result in
    let rest = drop (c.loop-variable.variable-index + 1) c.args.pairs.now in
    let front : drop c.loop-variable.variable-index c.args.pairs.now ≡ item ∷ rest
    = drop_more c.args.pairs.now c.loop-variable.variable-index item c.loop-variable-test.true ∙ ap (λ x. x ∷ rest) (sym c.loop-variable-item.is) in
    let n : c.type_of.result.0 ≡ item.0.ty.0 → ⊥ = grind arith in (
      λ h. absurd (cc),
      λ a. absurd (fitting_fails c.args.self.now c.args.pairs.now rest item c.type_of.result c.type_of.ensures.distinct c.type_of.ensures.known
          c.type_of.ensures.is n (subst (IsFitting c.args.self.now c.args.pairs.now) front c.loop-variable.invariant) a),
    )
