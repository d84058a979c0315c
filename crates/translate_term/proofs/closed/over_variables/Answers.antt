use Rattle.std.proofs.Common.{arith, refl, ap, ◌∙◌, ◌+◌, ◌-◌, take, length, Some}
use Rattle.std.proofs.lemmas.List.{length-take}
use Rattle.lp_term.specs.TableLaws.{Holds-within, tree_at-Holds}
use Rattle.translate_term.specs.GrowLaws.{Grows-refl, Grows-trans}
use Rattle.translate_term.proofs.ListSteps.{front-item, no-item}
use Rattle.translate_term.proofs.ClosedTurns.{IsNumbered-Grows}
use Rattle.translate_term.proofs.ClosedParts.{variable_next, type_start, variables_goes_on, variables_end, product_made}
use Rattle.translate_term.proofs.closed.over_variables.Goals as goal

pub loop-rest-init : goal.loop-rest-init
loop-rest-init c = (Grows-refl _, c.requires.2.known, λ given ts a. record { left = ts; are = a.are; is = refl }, omega arith)

pub tree_of_type-requires : goal.tree_of_type-requires
tree_of_type-requires c =
    let q = c.requires in
    let split = front-item c.loop-rest.rest.now c.last-item.result c.last-item.is c.in-len1-up.len_at_least in
    let n = variable_next q.0 c.args.type_vars c.loop-rest.rest.now _ c.last-item.result
    (c.args.type_vars + length (take (length c.loop-rest.rest.now - 1) c.loop-rest.rest.now)) _ _ split refl (c.loop-rest.invariant.2 q.0 q.1 q.2) in (
      q.0,
      _,
      (type_start q.0 c.loop-rest.target c.args.type_vars c.last-item.result n.ty
          (IsNumbered-Grows c.loop-rest.invariant.0 q.0 c.args.type_vars q.2.numbered) n.of),
    )

pub product_over-requires : goal.product_over-requires
product_over-requires c =
    let q = c.requires in
    let split = front-item c.loop-rest.rest.now c.last-item.result c.last-item.is c.in-len1-up.len_at_least in
    let n = variable_next q.0 c.args.type_vars c.loop-rest.rest.now _ c.last-item.result
    (c.args.type_vars + length (take (length c.loop-rest.rest.now - 1) c.loop-rest.rest.now)) _ _ split refl (c.loop-rest.invariant.2 q.0 q.1 q.2) in (
      Holds-within _ c.in_ok-ty.ty.0 _
          (c.in_ok-ty.ensures.made q.0 _
          (type_start q.0 c.loop-rest.target c.args.type_vars c.last-item.result n.ty
          (IsNumbered-Grows c.loop-rest.invariant.0 q.0 c.args.type_vars q.2.numbered) n.of)),
      omega (arith, c.loop-rest.invariant.1, c.in_ok-ty.ensures.grows.table.longer),
    )

pub loop-rest-preserved : goal.loop-rest-preserved
loop-rest-preserved c =
    let split = front-item c.loop-rest.rest.now c.last-item.result c.last-item.is c.in-len1-up.len_at_least in (
      Grows-trans c.loop-rest.invariant.0 (Grows-trans c.in_ok-ty.ensures.grows c.in_ok-product.ensures.grows),
      Holds-within _ c.in_ok-product.product.0 _ c.in_ok-product.ensures.made,
      λ given ts a.
          let n = variable_next given c.args.type_vars c.loop-rest.rest.now _ c.last-item.result
          (c.args.type_vars + length (take (length c.loop-rest.rest.now - 1) c.loop-rest.rest.now)) _ _ split refl (c.loop-rest.invariant.2 given ts a) in
          variables_goes_on given c.args.type_vars _ c.last-item.result
          (c.args.type_vars + length (take (length c.loop-rest.rest.now - 1) c.loop-rest.rest.now)) _ _ _ n
          (product_made c.loop-rest.target.table c.tree_of_type.new.target.table c.product_over.new.target.table c.in_ok-ty.ty c.loop-rest.product
          c.in_ok-product.product _ 4 c.in_ok-ty.ensures.grows.table c.loop-rest.invariant.1
          (c.in_ok-ty.ensures.made given _
          (type_start given c.loop-rest.target c.args.type_vars c.last-item.result n.ty
          (IsNumbered-Grows c.loop-rest.invariant.0 given c.args.type_vars a.numbered) n.of)) c.in_ok-product.ensures.made),
      omega (arith, c.loop-rest.invariant.3, length-take (length c.loop-rest.rest.now - 1) c.loop-rest.rest.now),
    )

pub returns-clause-made : goal.returns-clause-made
returns-clause-made c =
    λ given ts a.
    tree_at-Holds _ c.loop-rest.product.0 c.loop-rest.invariant.1
    ∙ ap Some (variables_end given c.args.type_vars c.loop-rest.rest.now _ _ (no-item c.loop-rest.rest.now c.in_default.len_below)
    (c.loop-rest.invariant.2 given ts a))

pub returns-in_err-ty-clause-grows : goal.returns-in_err-ty-clause-grows
returns-in_err-ty-clause-grows c = Grows-trans c.loop-rest.invariant.0 c.tree_of_type.ensures.grows

pub returns-in_err-product-clause-grows : goal.returns-in_err-product-clause-grows
returns-in_err-product-clause-grows c = Grows-trans c.loop-rest.invariant.0 (Grows-trans c.in_ok-ty.ensures.grows c.product_over.ensures.grows)
