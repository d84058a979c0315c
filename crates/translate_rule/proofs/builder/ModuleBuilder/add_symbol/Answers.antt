use Rattle.std.proofs.Common.{◌+◌, ap}
use Rattle.translate_rule.specs.ItemViews.{accepted}
use Rattle.translate_rule.proofs.TurnLaws.{taken-known, taken-here, taken-within, symbol-made}
use Rattle.translate_rule.proofs.builder.ModuleBuilder.add_symbol.Goals as goal

pub view-taken-requires : goal.view-taken-requires
view-taken-requires c =
    let q = c.requires.next in
    let k = c.args.run.proof.now in
    taken-within k.trees c.symbols-symbols.result.now k.made q.0 q.1 q.2 c.args.one.now c.args.self.now.symbol c.symbols-symbols.ensures.are q.3 q.4 q.5.symbol

pub add_items-requires-clause-known : goal.add_items-requires-clause-known
add_items-requires-clause-known c = taken-known c.args.run.proof.now.trees c.symbols-symbols.result.now c.args.self.now.symbol _ c.symbols-symbols.ensures.known
    c.view-taken.ensures

pub add_items-requires-clause-next : goal.add_items-requires-clause-next
add_items-requires-clause-next c =
    let q = c.requires.next in
    let k = c.args.run.proof.now in (
      q.0,
      q.1,
      q.2,
      q.3,
      (
        q.4,
        taken-here k.trees c.symbols-symbols.result.now k.made q.0 q.1 q.2 c.args.one.now c.args.self.now.symbol _ c.symbols-symbols.ensures.are q.3 q.4
            q.5.symbol c.view-taken.ensures,
      ),
      q.5,
    )

pub returns-clause-added : goal.returns-clause-added
returns-clause-added c = λ earlier later y whole noted h.
    let k = c.args.run.proof.now in
    let here = taken-here k.trees c.symbols-symbols.result.now k.made earlier later y c.args.one.now c.args.self.now.symbol _ c.symbols-symbols.ensures.are
    whole noted h.symbol c.view-taken.ensures in
    symbol-made (accepted c.args.run) earlier y _ here c.args.self.now c.add_items.new.self _ h
    (c.in_ok-add_items.ensures.added earlier later y whole (noted, here) h) c.in_ok-add_items.ensures.numbers
    (ap (λ n. n + 1) c.in_ok-add_items.ensures.symbol)
