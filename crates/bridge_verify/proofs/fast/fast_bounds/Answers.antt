use Rattle.std.proofs.Common.{◌<◌, ◌∙◌, ◌++◌, ◌∷◌, [], length, map, take, sym, ap, subst, arith}
use Rattle.std.proofs.lemmas.List.{length-map}
use Rattle.lp_spec.specs.FastCheck.{fast_bound}
use Rattle.holide_sig.specs.Modules.{declaration_in, declarations_of}
use Rattle.bridge_verify.proofs.FastBounds.{front-more}
use Rattle.bridge_verify.proofs.fast.fast_bounds.Goals as goal

pub loop-i-init : goal.loop-i-init
loop-i-init c = record { bounds = c.new-bounds.ensures.items; weights = c.new-weights.ensures c.args.source.now }

pub loop-i-preserved : goal.loop-i-preserved
loop-i-preserved c =
    let m = declarations_of c.args.source.now in
    let within : c.loop-i.i < length m = subst (λ n. c.loop-i.i < n)
    (c.len-i-end.ensures.count ∙ sym (length-map c.args.source.now.decls (declaration_in c.args.source.now.table))) c.loop-i-test.true in
    record {
      bounds =
          c.in_ok-push.ensures.items
          ∙ ap (λ xs. xs ++ c.in_ok-bound_fast.field-0 ∷ []) c.loop-i.invariant.bounds
          ∙ ap (λ x. map (fast_bound m) (take c.loop-i.i m) ++ x ∷ []) c.in_ok-bound_fast.ensures.bound
          ∙ sym (front-more (fast_bound m) m c.loop-i.i within);
      weights = c.in_ok-bound_fast.ensures.weights;
    }
