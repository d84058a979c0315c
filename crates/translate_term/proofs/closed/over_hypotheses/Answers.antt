use Rattle.std.proofs.Common.{arith, refl, ap, ◌∙◌, ◌+◌, ◌-◌, take, length, Some}
use Rattle.std.proofs.lemmas.List.{length-take}
use Rattle.lp_term.specs.TableLaws.{Holds-within, tree_at-Holds}
use Rattle.translate_term.specs.GrowLaws.{Grows-refl, Grows-trans}
use Rattle.translate_term.proofs.ListSteps.{front-item, no-item}
use Rattle.translate_term.proofs.ClosedTurns.{IsNumbered-Grows}
use Rattle.translate_term.proofs.ClosedParts.{hypothesis_next, term_start, hypotheses_goes_on, hypotheses_end, product_made}
use Rattle.translate_term.proofs.closed.over_hypotheses.Goals as goal

pub loop-rest-init : goal.loop-rest-init
loop-rest-init c = (Grows-refl _, c.requires.are.2.known, λ given hs a. record { left = hs; are = a.are; is = refl }, omega arith)

pub tree_of_term-requires : goal.tree_of_term-requires
tree_of_term-requires c =
    let q = c.requires.are in
    let split = front-item c.loop-rest.rest.now c.last-item.result c.last-item.is c.in-len1-up.len_at_least in
    let n = hypothesis_next q.0 c.args.outside c.loop-rest.rest.now _ c.last-item.result
    (c.args.outside + length (take (length c.loop-rest.rest.now - 1) c.loop-rest.rest.now)) _ _ split refl (c.loop-rest.invariant.2 q.0 q.1 q.2) in (
      q.0,
      _,
      (term_start q.0 c.loop-rest.target c.args.type_vars c.last-item.result
          (c.args.outside + length (take (length c.loop-rest.rest.now - 1) c.loop-rest.rest.now)) n.term
          (IsNumbered-Grows c.loop-rest.invariant.0 q.0 c.args.type_vars q.2.numbered) (omega (arith, q.2.within)) n.of),
    )

pub product_over-requires : goal.product_over-requires
product_over-requires c =
    let q = c.requires.are in
    let split = front-item c.loop-rest.rest.now c.last-item.result c.last-item.is c.in-len1-up.len_at_least in
    let n = hypothesis_next q.0 c.args.outside c.loop-rest.rest.now _ c.last-item.result
    (c.args.outside + length (take (length c.loop-rest.rest.now - 1) c.loop-rest.rest.now)) _ _ split refl (c.loop-rest.invariant.2 q.0 q.1 q.2) in (
      Holds-within _ c.in_ok-formula.formula.0 _
          (c.in_ok-formula.ensures.made q.0 _
          (term_start q.0 c.loop-rest.target c.args.type_vars c.last-item.result
          (c.args.outside + length (take (length c.loop-rest.rest.now - 1) c.loop-rest.rest.now)) n.term
          (IsNumbered-Grows c.loop-rest.invariant.0 q.0 c.args.type_vars q.2.numbered) (omega (arith, q.2.within)) n.of)),
      omega (arith, c.loop-rest.invariant.1, c.in_ok-formula.ensures.grows.table.longer),
    )

pub loop-rest-preserved : goal.loop-rest-preserved
loop-rest-preserved c =
    let split = front-item c.loop-rest.rest.now c.last-item.result c.last-item.is c.in-len1-up.len_at_least in (
      Grows-trans c.loop-rest.invariant.0 (Grows-trans c.in_ok-formula.ensures.grows c.in_ok-product.ensures.grows),
      Holds-within _ c.in_ok-product.product.0 _ c.in_ok-product.ensures.made,
      λ given hs a.
          let n = hypothesis_next given c.args.outside c.loop-rest.rest.now _ c.last-item.result
          (c.args.outside + length (take (length c.loop-rest.rest.now - 1) c.loop-rest.rest.now)) _ _ split refl (c.loop-rest.invariant.2 given hs a) in
          hypotheses_goes_on given c.args.outside _ c.last-item.result (c.args.outside + length (take (length c.loop-rest.rest.now - 1) c.loop-rest.rest.now)) _
          _ _ n
          (product_made c.loop-rest.target.table c.tree_of_term.new.target.table c.product_over.new.target.table c.in_ok-formula.formula c.loop-rest.product
          c.in_ok-product.product _ 7 c.in_ok-formula.ensures.grows.table c.loop-rest.invariant.1
          (c.in_ok-formula.ensures.made given _
          (term_start given c.loop-rest.target c.args.type_vars c.last-item.result
          (c.args.outside + length (take (length c.loop-rest.rest.now - 1) c.loop-rest.rest.now)) n.term
          (IsNumbered-Grows c.loop-rest.invariant.0 given c.args.type_vars a.numbered) (omega (arith, a.within)) n.of)) c.in_ok-product.ensures.made),
      omega (arith, c.loop-rest.invariant.3, length-take (length c.loop-rest.rest.now - 1) c.loop-rest.rest.now),
    )

pub returns-clause-made : goal.returns-clause-made
returns-clause-made c =
    λ given hs a.
    tree_at-Holds _ c.loop-rest.product.0 c.loop-rest.invariant.1
    ∙ ap Some (hypotheses_end given c.args.outside c.loop-rest.rest.now _ _ (no-item c.loop-rest.rest.now c.in_default.len_below)
    (c.loop-rest.invariant.2 given hs a))

pub returns-in_err-formula-clause-grows : goal.returns-in_err-formula-clause-grows
returns-in_err-formula-clause-grows c = Grows-trans c.loop-rest.invariant.0 c.tree_of_term.ensures.grows

pub returns-in_err-product-clause-grows : goal.returns-in_err-product-clause-grows
returns-in_err-product-clause-grows c = Grows-trans c.loop-rest.invariant.0 (Grows-trans c.in_ok-formula.ensures.grows c.product_over.ensures.grows)
