use Rattle.std.proofs.Common.{arith, ◌∙◌, ap, ◌+◌}
use Rattle.translate_rule.proofs.builder.ModuleBuilder.add_item.Goals as goal

pub returns-clause-counted : goal.returns-clause-counted
returns-clause-counted c = λ items grown counted next. record {
  declared = c.in_ok-declare_reached.ensures.declared items grown counted next;
  item = ap (λ n. n + 1) (c.in_ok-declare_reached.ensures.item ∙ counted.item) ∙ (let e = next.more in omega (arith, e));
}
