use Rattle.std.proofs.Common.{◌∙◌, ◌++◌, ◌∷◌, [], Some, ap, refl, subst}
use Rattle.std.proofs.lemmas.Result.{on_ok_weaker}
use Rattle.hol_defs.specs.Symbols.{symbol_at, IsKnownSymbol}
use Rattle.hol_defs.specs.Views.{taken_of_view}
use Rattle.image_items_laws.specs.Making.{items_made}
use Rattle.translate_rule.specs.ItemViews.{accepted}
use Rattle.translate_rule.proofs.TakenLaws.{definition-is, definition-told, next-input-constant, next-input-operator, next-constant}
use Rattle.translate_rule.proofs.builder.ModuleBuilder.add_items.Goals as goal

pub add_item-requires-clause-next : goal.add_item-requires-clause-next
add_item-requires-clause-next c =
    let q = c.requires.next in
    let p = c.args.run.proof.now in
    let run = accepted c.args.run in
    let is = q.4.1 ∙ ap (λ v. Some (symbol_at p.trees (taken_of_view v))) c.in-InputConst.is in (
      items_made run q.0,
      items_made run (q.0 ++ q.2 ∷ []),
      q.5.counted,
      next-input-constant c.args.run q.0 q.1 q.2 c.in-InputConst.name is q.3 c.args.self.now.numbers.items,
    )

pub returns-in-InputConst-clause-added : goal.returns-in-InputConst-clause-added
returns-in-InputConst-clause-added c = on_ok_weaker c.add_item.result
    (λ h earlier later y whole taken built.
    let p = c.args.run.proof.now in
    let run = accepted c.args.run in
    let is = taken.1 ∙ ap (λ v. Some (symbol_at p.trees (taken_of_view v))) c.in-InputConst.is in
    h (items_made run earlier) (items_made run (earlier ++ y ∷ [])) built.counted
    (next-input-constant c.args.run earlier later y c.in-InputConst.name is whole c.args.self.now.numbers.items))
    c.add_item.ensures.counted

pub add_item-requires-in-InputOp-clause-next : goal.add_item-requires-in-InputOp-clause-next
add_item-requires-in-InputOp-clause-next c =
    let q = c.requires.next in
    let p = c.args.run.proof.now in
    let run = accepted c.args.run in
    let is = q.4.1 ∙ ap (λ v. Some (symbol_at p.trees (taken_of_view v))) c.in-InputOp.is in (
      items_made run q.0,
      items_made run (q.0 ++ q.2 ∷ []),
      q.5.counted,
      next-input-operator c.args.run q.0 q.1 q.2 c.in-InputOp.name c.in-InputOp.arity is q.3 c.args.self.now.numbers.items,
    )

pub returns-in-InputOp-clause-added : goal.returns-in-InputOp-clause-added
returns-in-InputOp-clause-added c = on_ok_weaker c.add_item-in-InputOp.result
    (λ h earlier later y whole taken built.
    let p = c.args.run.proof.now in
    let run = accepted c.args.run in
    let is = taken.1 ∙ ap (λ v. Some (symbol_at p.trees (taken_of_view v))) c.in-InputOp.is in
    h (items_made run earlier) (items_made run (earlier ++ y ∷ [])) built.counted
    (next-input-operator c.args.run earlier later y c.in-InputOp.name c.in-InputOp.arity is whole c.args.self.now.numbers.items))
    c.add_item-in-InputOp.ensures.counted

pub add_item-requires-in-Const-clause-next : goal.add_item-requires-in-Const-clause-next
add_item-requires-in-Const-clause-next c =
    let q = c.requires.next in
    let p = c.args.run.proof.now in
    let run = accepted c.args.run in
    let is = q.4.1 ∙ ap (λ v. Some (symbol_at p.trees (taken_of_view v))) c.in-Const.is in (
      items_made run q.0,
      items_made run (q.0 ++ q.2 ∷ []),
      q.5.counted,
      next-constant c.args.run q.0 q.1 q.2 c.in-Const.name c.in-Const.term c.in-Const.ty is
          (subst (λ v. IsKnownSymbol p.trees (taken_of_view v)) c.in-Const.is c.requires.known) q.3 c.args.self.now.numbers.items,
    )

pub returns-in-Const-clause-added : goal.returns-in-Const-clause-added
returns-in-Const-clause-added c = on_ok_weaker c.add_item-in-Const.result
    (λ h earlier later y whole taken built.
    let p = c.args.run.proof.now in
    let run = accepted c.args.run in
    let is = taken.1 ∙ ap (λ v. Some (symbol_at p.trees (taken_of_view v))) c.in-Const.is in
    h (items_made run earlier) (items_made run (earlier ++ y ∷ [])) built.counted
    (next-constant c.args.run earlier later y c.in-Const.name c.in-Const.term c.in-Const.ty is
    (subst (λ v. IsKnownSymbol p.trees (taken_of_view v)) c.in-Const.is c.requires.known) whole c.args.self.now.numbers.items))
    c.add_item-in-Const.ensures.counted

pub add_definition-requires-clause-next : goal.add_definition-requires-clause-next
add_definition-requires-clause-next c =
    let q = c.requires.next in
    let p = c.args.run.proof.now in
    let is = q.4.1 ∙ ap (λ v. Some (symbol_at p.trees (taken_of_view v))) c.in-TypeOp.is in
    let same = definition-is p.trees p.made q.0 q.1 q.2 c.args.one.now c.in-TypeOp.view c.requires.run.sound.proof q.3 q.4.0 is c.in-TypeOp-one.field-0
    c.in-TypeOp-one.premise c.in-TypeOp-one.is in
    (q.0, q.1, q.2, q.3, same, q.5)

pub returns-in-TypeOp-one-clause-added : goal.returns-in-TypeOp-one-clause-added
returns-in-TypeOp-one-clause-added c = on_ok_weaker c.add_definition.result
    (λ h earlier later y whole taken built.
    let p = c.args.run.proof.now in
    let run = accepted c.args.run in
    let is = taken.1 ∙ ap (λ v. Some (symbol_at p.trees (taken_of_view v))) c.in-TypeOp.is in
    let same = definition-is p.trees p.made earlier later y c.args.one.now c.in-TypeOp.view c.requires.run.sound.proof whole taken.0 is c.in-TypeOp-one.field-0
    c.in-TypeOp-one.premise c.in-TypeOp-one.is in
    h earlier later y whole same built)
    c.add_definition.ensures.added

pub returns-in_default : goal.returns-in_default
returns-in_default c = record {
  added = λ earlier later y whole taken built.
      let p = c.args.run.proof.now in
      let is = taken.1 ∙ ap (λ v. Some (symbol_at p.trees (taken_of_view v))) c.in-TypeOp.is in
      absurd (definition-told p.trees p.made earlier later y c.args.one.now c.in-TypeOp.view c.requires.run.sound.proof whole taken.0 is
      c.in_default.not-TypeOp);
  numbers = refl;
  symbol = refl;
  kept = c.requires.kept;
}
