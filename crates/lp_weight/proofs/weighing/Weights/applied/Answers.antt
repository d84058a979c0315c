use Rattle.std.proofs.Common.{◌≡◌, ◌+◌, ◌-◌, ◌*◌, arith, refl, subst}
use Rattle.lp_spec.specs.Trees.{Pi}
use Rattle.lp_term.specs.Tables.{tree_at, tree_of_node}
use Rattle.lp_term.specs.TableLaws.{Holds-tree_at}
use Rattle.lp_binding_laws.specs.Binding.{size-positive}
use Rattle.lp_weight.specs.Saturation.{saturated}
use Rattle.lp_weight.specs.Occurrences.{occurrences}
use Rattle.lp_weight.specs.Spreads.{IsFront}
use Rattle.lp_weight.proofs.HeadLaws.{after-product, after-leaf, front-known}
use Rattle.lp_weight.proofs.weighing.Weights.applied.Goals as goal

pub overflow_sub-size : goal.overflow_sub-size
overflow_sub-size c = omega (arith, c.size.ensures, size-positive (tree_at c.args.base.now.table c.args.arg.0))

pub returns-in_ok-count-in-Pi-clause-front : goal.returns-in_ok-count-in-Pi-clause-front
returns-in_ok-count-in-Pi-clause-front c =
    let m = c.args.base.now in
    let ts = m.table in
    let head = c.in-Symbol.head in
    let a = tree_at ts c.in-Pi.domain.0 in
    let b = tree_at ts c.in-Pi.body.0 in
    let known = front-known m c.requires.front.0 head (subst (IsFront m c.requires.front.0) c.in-Symbol.is c.requires.front.1) in
    let count : c.in_ok-count-in-Pi.count ≡ saturated (occurrences 0 b) = c.in_ok-count-in-Pi.ensures.count in
    let spent : c.saturating_add-in-Pi.result ≡ saturated
    (saturated (head.spent + c.size-domain.result) + saturated (c.in_ok-count-in-Pi.count * (c.size.result - 1))) =
    omega (arith, c.saturating_add-in-Pi.ensures, c.saturating_add.ensures, c.saturating_mul-more.ensures)
    in
    λ t h. after-product m head c.in-Pi.body a b (tree_at ts c.args.arg.0) c.saturating_add-in-Pi.result c.size-domain.result c.in_ok-count-in-Pi.count
    c.size.result
    (Holds-tree_at ts head.rest.0 (Pi a b) c.in-Pi.ensures.is) refl (omega (arith, c.in-Pi.ensures.lower.1, known)) c.size-domain.ensures count c.size.ensures
    spent t (subst (IsFront m t) c.in-Symbol.is h)

pub returns-in_default-view : goal.returns-in_default-view
returns-in_default-view c =
    let m = c.args.base.now in
    record {
      front = λ t h.
          after-leaf m c.in-Symbol.head c.view.result (tree_at m.table c.args.arg.0)
          (Holds-tree_at m.table c.in-Symbol.head.rest.0 (tree_of_node m.table c.view.result) c.view.ensures.is) c.in_default-view.not-Pi t
          (subst (IsFront m t) c.in-Symbol.is h);
      column = refl;
      weights = c.requires.weights;
    }
