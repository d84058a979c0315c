use Rattle.std.proofs.Common.{◌≡◌, [], ◌∷◌, ◌++◌, arith, refl, ap, length, ◌∙◌}
use Rattle.translate_reach.specs.declared.items.Need.TheVariants as need
use Rattle.translate_reach.proofs.Listed.{step-AreListed}
use Rattle.translate_reach.proofs.items.Items.take_step.Goals as goal

pub returns : goal.returns
returns c p front rest x proof order whole h =
    let old = c.args.self.now in
    let at : c.len.result ≡ length old.needs.items = omega (arith, c.len.ensures, old.needs.ok.0) in
    let id : c.len-id.result ≡ length old.steps.items = omega (arith, c.len-id.ensures, old.steps.ok.0) in
    step-AreListed p front rest x proof whole old (record { index = old.index; steps = c.push.new.self; needs = c.push-2.new.self }) h refl
    (c.in_ok-push.ensures.items ∙ ap (λ k. old.steps.items ++ k ∷ []) at)
    (c.in_ok-push-2.ensures.items ∙ ap (λ k. old.needs.items ++ need.Step k ∷ []) id)
