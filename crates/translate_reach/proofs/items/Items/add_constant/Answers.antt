use Rattle.std.proofs.Common.{◌≡◌, Some, cond, arith, refl, ap, length, ◌∙◌}
use Rattle.translate_spec.specs.Reach.{constant_key, key_eq}
use Rattle.translate_reach.specs.Indexes.{found}
use Rattle.translate_reach.proofs.Listed.{constant-AreListed}
use Rattle.translate_reach.proofs.items.Items.add_constant.Goals as goal

pub returns : goal.returns
returns c p list x a h =
    let old = c.args.self.now in
    let at : c.len.result ≡ length old.needs.items = omega (arith, c.len.ensures, old.needs.ok.0) in
    constant-AreListed p list x old (record { index = c.add_constant.new.self; steps = old.steps; needs = c.push.new.self }) h c.args.name.now c.args.need a
    refl c.in_ok-push.ensures.items
    (λ q. c.in_ok-add_constant.ensures q ∙ ap (λ k. cond (key_eq (constant_key c.args.name.now) q) (Some k) (found old.index q)) at)
