use Rattle.std.proofs.Common.{◌≡◌, ap, subst, ◌∙◌, ◌++◌, ◌∷◌, [], false, arith}
use Rattle.std.specs.Prelude.{replicate}
use Rattle.std.proofs.lemmas.List.{replicate_more}
use Rattle.share.proofs.folding.fill_flags.Goals as goal

pub loop-i-preserved : goal.loop-i-preserved
loop-i-preserved c = c.in_ok-push.ensures.items ∙ ap (λ xs. xs ++ false ∷ []) c.loop-i.invariant ∙ replicate_more c.loop-i._i false

pub returns : goal.returns
returns c = subst (λ k. c.loop-i.flags.items ≡ replicate k false)
    (let e : c.loop-i._i ≡ c.args.count = omega (arith, c.loop-i-test.false, c.loop-i.auto._i-end) in e) c.loop-i.invariant
