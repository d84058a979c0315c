use Rattle.std.proofs.Common.{◌≡◌, ap, subst, ◌∙◌, ◌++◌, ◌∷◌, [], arith}
use Rattle.std.specs.Prelude.{replicate}
use Rattle.std.proofs.lemmas.List.{replicate_more}
use Rattle.share.proofs.folding.fill_counts.Goals as goal

pub loop-i-preserved : goal.loop-i-preserved
loop-i-preserved c = c.in_ok-push.ensures.items ∙ ap (λ xs. xs ++ 0 ∷ []) c.loop-i.invariant ∙ replicate_more c.loop-i._i 0

pub returns : goal.returns
returns c = subst (λ k. c.loop-i.counts.items ≡ replicate k 0)
    (let e : c.loop-i._i ≡ c.args.count = omega (arith, c.loop-i-test.false, c.loop-i.auto._i-end) in e) c.loop-i.invariant
