use Rattle.std.proofs.Common.{◌≡◌, List, [], ap, sym, subst, ◌∙◌, arith}
use Rattle.lp_spec.specs.Trees.{Tree}
use Rattle.lp_term.specs.Tables as lp
use Rattle.lp_term.specs.Tables.{tree_at, trees_at}
use Rattle.decode_spec.specs.Decode.{peel}
use Rattle.decode_back.proofs.TypeWalk.{at-Holds}
use Rattle.decode_back.proofs.PeelLemmas.{behind_parts, peel-other, peel-domain, peel-more}
use Rattle.decode_back.proofs.SequentLemmas.{known-append, peeled-part, peeled-all, peeled-none}
use Rattle.decode_back.proofs.products.peel.Goals as goal

pub loop-domain-init : goal.loop-domain-init
loop-domain-init c = record {
  known = c.requires;
  parts = subst (lp.AreKnown c.args.table.now) (sym c.new-parts.ensures.items) (tt {0});
  goes = subst (λ ids. ◌≡◌ {A = List Tree × Tree} (peel c.args.symbol (tree_at c.args.table.now c.args.id.0))
      (behind_parts (trees_at c.args.table.now ids) (peel c.args.symbol (tree_at c.args.table.now c.args.id.0)))) (sym c.new-parts.ensures.items)
      (peeled-none (peel c.args.symbol (tree_at c.args.table.now c.args.id.0)));
}

pub returns-in_default-symbol_argument-clause-peeled : goal.returns-in_default-symbol_argument-clause-peeled
returns-in_default-symbol_argument-clause-peeled c =
    peeled-all (peel c.args.symbol (tree_at c.args.table.now c.args.id.0)) (trees_at c.args.table.now c.loop-domain.parts.items) c.args.symbol
    (tree_at c.args.table.now c.loop-domain.rest.0) c.loop-domain.invariant.goes
    (subst (λ A. ◌≡◌ {A = List Tree × Tree} (peel c.args.symbol A) ([], A)) (sym (at-Holds c.args.table.now c.loop-domain.rest.0 _ c.in-Pi.ensures.is))
    (peel-domain c.args.symbol (tree_at c.args.table.now c.in-Pi.domain.0) (tree_at c.args.table.now c.in-Pi.body.0)
    (sym c.in_default-symbol_argument.ensures.argument)))

pub loop-domain-preserved : goal.loop-domain-preserved
loop-domain-preserved c = record {
  known = omega (arith, c.in-Pi.ensures.lower.1, c.loop-domain.invariant.known);
  parts = subst (lp.AreKnown c.args.table.now) (sym c.in_ok-push.ensures.items)
      (known-append c.args.table.now c.loop-domain.parts.items c.in-Some.part c.loop-domain.invariant.parts
      (omega (arith, c.in-Some.ensures.known, c.in-Pi.ensures.lower.0, c.loop-domain.invariant.known)));
  goes = peeled-part (peel c.args.symbol (tree_at c.args.table.now c.args.id.0)) c.args.table.now c.args.symbol c.loop-domain.parts.items c.push.new.self.items
      c.in-Some.part (tree_at c.args.table.now c.loop-domain.rest.0) (tree_at c.args.table.now c.in-Pi.body.0) c.loop-domain.invariant.goes
      (ap (peel c.args.symbol) (at-Holds c.args.table.now c.loop-domain.rest.0 _ c.in-Pi.ensures.is)
      ∙ peel-more c.args.symbol (tree_at c.args.table.now c.in-Pi.domain.0) (tree_at c.args.table.now c.in-Pi.body.0)
      (tree_at c.args.table.now c.in-Some.part.0) (sym c.in-Some.ensures.argument)) c.in_ok-push.ensures.items;
}

pub returns-clause-peeled : goal.returns-clause-peeled
returns-clause-peeled c =
    peeled-all (peel c.args.symbol (tree_at c.args.table.now c.args.id.0)) (trees_at c.args.table.now c.loop-domain.parts.items) c.args.symbol
    (tree_at c.args.table.now c.loop-domain.rest.0) c.loop-domain.invariant.goes
    (subst (λ A. ◌≡◌ {A = List Tree × Tree} (peel c.args.symbol A) ([], A)) (sym (at-Holds c.args.table.now c.loop-domain.rest.0 _ c.view.ensures.is))
    (peel-other c.args.symbol c.args.table.now c.view.result c.in_default.not-Pi))
