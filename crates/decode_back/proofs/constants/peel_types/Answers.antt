use Rattle.std.proofs.Common.{◌≡◌, ℕ, ap, subst, sym, ◌∙◌, refl, arith}
use Rattle.lp_spec.specs.Trees.{Tree}
use Rattle.lp_term.specs.Tables.{tree_at}
use Rattle.decode_spec.specs.Decode.{peel_types}
use Rattle.decode_back.proofs.TypeWalk.{at-Holds}
use Rattle.decode_back.proofs.PeelLemmas.{after-none, peel_types-other, peel_types-domain, peel_types-more, peeled-more, peeled-end}
use Rattle.decode_back.proofs.constants.peel_types.Goals as goal

pub loop-domain-init : goal.loop-domain-init
loop-domain-init c = record { known = c.requires; few = omega arith; goes = after-none (peel_types (tree_at c.args.table.now c.args.id.0)) }

pub returns-then-not-is_type-clause-peeled : goal.returns-then-not-is_type-clause-peeled
returns-then-not-is_type-clause-peeled c =
    peeled-end (peel_types (tree_at c.args.table.now c.args.id.0)) c.loop-domain.count (tree_at c.args.table.now c.loop-domain.rest.0)
    c.loop-domain.invariant.goes
    (subst (λ A. ◌≡◌ {A = ℕ × Tree} (peel_types A) (0, A)) (sym (at-Holds c.args.table.now c.loop-domain.rest.0 _ c.in-Pi.ensures.is))
    (peel_types-domain c.is_type.result (tree_at c.args.table.now c.in-Pi.domain.0) (tree_at c.args.table.now c.in-Pi.body.0) c.is_type.ensures
    c.if-not-is_type.true))

pub loop-domain-preserved : goal.loop-domain-preserved
loop-domain-preserved c = record {
  known = omega (arith, c.in-Pi.ensures.lower.1, c.loop-domain.invariant.known);
  few = omega (arith, c.in-Pi.ensures.lower.1, c.loop-domain.invariant.few);
  goes = c.loop-domain.invariant.goes
      ∙ peeled-more c.loop-domain.count _ (tree_at c.args.table.now c.loop-domain.rest.0) (tree_at c.args.table.now c.in-Pi.body.0)
      (ap peel_types (at-Holds c.args.table.now c.loop-domain.rest.0 _ c.in-Pi.ensures.is)
      ∙ peel_types-more c.is_type.result (tree_at c.args.table.now c.in-Pi.domain.0) (tree_at c.args.table.now c.in-Pi.body.0) c.is_type.ensures
      c.if-not-is_type.false) refl;
}

pub returns-clause-peeled : goal.returns-clause-peeled
returns-clause-peeled c =
    peeled-end (peel_types (tree_at c.args.table.now c.args.id.0)) c.loop-domain.count (tree_at c.args.table.now c.loop-domain.rest.0)
    c.loop-domain.invariant.goes
    (subst (λ A. ◌≡◌ {A = ℕ × Tree} (peel_types A) (0, A)) (sym (at-Holds c.args.table.now c.loop-domain.rest.0 _ c.view.ensures.is))
    (peel_types-other c.args.table.now c.view.result c.in_default.not-Pi))
