use Rattle.std.proofs.Common.{◌∙◌, ◌++◌, ◌∷◌, [], ap, refl, subst, sym}
use Rattle.std.proofs.lemmas.Result.{on_ok_weaker}
use Rattle.image_items_laws.specs.Making.{items_made}
use Rattle.translate_rule.specs.ItemViews.{accepted}
use Rattle.translate_rule.specs.Building.{AreCounted}
use Rattle.translate_rule.proofs.DefinitionItems.{up_to_operator, up_to_abstraction, next-operator, next-abstraction, next-representation, operator-counted, abstraction-counted, definition-counted}
use Rattle.translate_rule.proofs.builder.ModuleBuilder.add_definition.Goals as goal

pub add_item-requires-clause-next : goal.add_item-requires-clause-next
add_item-requires-clause-next c =
    let q = c.requires.next in
    let r = c.args.run in
    let whole = q.3 ∙ ap (λ z. q.0 ++ z ∷ q.1) q.4 in
    let d = c.args.definition in
    let old = c.args.self.now in (
      items_made (accepted r) q.0,
      up_to_operator r q.0 d,
      q.5.counted,
      next-operator r q.0 d c.requires.run.sound q.1 whole c.requires.known old q.5 old refl,
    )

pub add_item-requires-2-clause-next : goal.add_item-requires-2-clause-next
add_item-requires-2-clause-next c =
    let q = c.requires.next in
    let r = c.args.run in
    let whole = q.3 ∙ ap (λ z. q.0 ++ z ∷ q.1) q.4 in
    let d = c.args.definition in
    let old = c.args.self.now in
    let one = c.add_item.new.self in (
      up_to_operator r q.0 d,
      up_to_abstraction r q.0 d,
      operator-counted r q.0 d c.requires.run.sound q.1 whole c.requires.known old q.5 one c.in_ok-add_item.ensures.counted,
      next-abstraction r q.0 d c.requires.run.sound q.1 whole c.requires.known old q.5 one c.in_ok-add_item.ensures.numbers,
    )

pub add_item-requires-3-clause-next : goal.add_item-requires-3-clause-next
add_item-requires-3-clause-next c =
    let q = c.requires.next in
    let r = c.args.run in
    let whole = q.3 ∙ ap (λ z. q.0 ++ z ∷ q.1) q.4 in
    let d = c.args.definition in
    let old = c.args.self.now in
    let one = c.add_item.new.self in
    let two = c.add_item-2.new.self in (
      up_to_abstraction r q.0 d,
      _,
      abstraction-counted r q.0 d c.requires.run.sound q.1 whole c.requires.known old q.5 one two c.in_ok-add_item.ensures.counted
          c.in_ok-add_item.ensures.numbers c.in_ok-add_item-2.ensures.counted,
      next-representation r q.0 d c.requires.run.sound q.1 whole c.requires.known old q.5 two
          (c.in_ok-add_item-2.ensures.numbers ∙ c.in_ok-add_item.ensures.numbers),
    )

pub returns-clause-added : goal.returns-clause-added
returns-clause-added c = on_ok_weaker c.add_item-3.result
    (λ last earlier later y whole is built.
    let r = c.args.run in
    subst (λ z. AreCounted (accepted r) (items_made (accepted r) (earlier ++ z ∷ [])) c.add_item-3.new.self) (sym is)
    (definition-counted r earlier c.args.definition c.requires.run.sound later (whole ∙ ap (λ z. earlier ++ z ∷ later) is) c.requires.known c.args.self.now
    built c.add_item.new.self c.add_item-2.new.self c.add_item-3.new.self
    c.in_ok-add_item.ensures.counted c.in_ok-add_item.ensures.numbers c.in_ok-add_item-2.ensures.counted
    (c.in_ok-add_item-2.ensures.numbers ∙ c.in_ok-add_item.ensures.numbers) last))
    c.add_item-3.ensures.counted
