use Rattle.std.proofs.Common.{◌∙◌, ◌++◌, ◌∷◌, [], length, ap, arith, refl, ◌+◌}
use Rattle.lp_spec.specs.Modules.{signature}
use Rattle.image_items_laws.specs.Making.{items_made}
use Rattle.translate_rule.specs.ItemViews.{accepted}
use Rattle.translate_rule.proofs.TurnLaws.{step-next, step-made, counted-with}
use Rattle.translate_rule.proofs.builder.ModuleBuilder.add_step.Goals as goal

pub add_item-requires-clause-next : goal.add_item-requires-clause-next
add_item-requires-clause-next c =
    let q = c.requires.next in
    let run = accepted c.args.run in (
      items_made run q.0,
      items_made run (q.0 ++ q.2 ∷ []),
      q.5.counted,
      step-next c.args.run c.requires.run.sound q.0 q.1 q.2 q.3 q.4 c.args.self.now q.5 c.len-id.result
          (omega (arith, c.len-id.ensures, c.args.self.now.numbers.ok)),
    )

pub returns-clause-added : goal.returns-clause-added
returns-clause-added c = λ earlier later y whole is h.
    let run = accepted c.args.run in
    let next = step-next c.args.run c.requires.run.sound earlier later y whole is c.args.self.now h c.len-id.result
    (omega (arith, c.len-id.ensures, c.args.self.now.numbers.ok)) in
    let counted = c.in_ok-add_item.ensures.counted (items_made run earlier) (items_made run (earlier ++ y ∷ [])) h.counted next in
    step-made c.args.run c.requires.run.sound earlier later y whole is c.args.self.now h _ (length signature + c.len-number.result)
    (counted-with run (items_made run (earlier ++ y ∷ [])) c.add_item.new.self _ counted refl refl)
    (ap (λ n. length signature + n) c.len-number.ensures.count)
    (c.in_ok-push.ensures.items ∙ ap (λ v. v.items ++ (length signature + c.len-number.result) ∷ []) c.in_ok-add_item.ensures.numbers)
    c.in_ok-add_item.ensures.symbol
