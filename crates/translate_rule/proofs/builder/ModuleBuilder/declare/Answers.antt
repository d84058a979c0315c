use Rattle.std.proofs.Common.{sym, subst}
use Rattle.std.proofs.lemmas.Result.{on_ok_weaker}
use Rattle.holide_sig.specs.Modules.{declarations_of}
use Rattle.image_items_laws.specs.Making.{kept_symbols}
use Rattle.image_items_laws.specs.Told.{TellsContent}
use Rattle.translate_rule.specs.ItemViews.{accepted, item_content, IsItemKnown}
use Rattle.translate_term.specs.GrowLaws.{IsHeld-Grows, declarations_of-Grows}
use Rattle.translate_rule.proofs.PushLaws.{next-told, next-may-follow, next-declared, made-with}
use Rattle.translate_rule.proofs.RunLaws.{assumptions-rise, exports-rise}
use Rattle.translate_rule.proofs.builder.ModuleBuilder.declare.Goals as goal

pub declaration-requires-clause-known : goal.declaration-requires-clause-known
declaration-requires-clause-known c = subst (λ ns. IsItemKnown c.args.run.proof.now ns c.args.item) (sym c.deref.ensures.value) c.requires.next.3.known

pub declaration-requires-clause-assumptions : goal.declaration-requires-clause-assumptions
declaration-requires-clause-assumptions c = assumptions-rise _ c.requires.sound

pub declaration-requires-clause-exports : goal.declaration-requires-clause-exports
declaration-requires-clause-exports c = exports-rise _ c.requires.sound

pub declaration-requires-clause-held : goal.declaration-requires-clause-held
declaration-requires-clause-held c = c.requires.next.2.held

pub declaration-requires-clause-told : goal.declaration-requires-clause-told
declaration-requires-clause-told c =
    let q = c.requires.next in
    let run = accepted c.args.run in (
      kept_symbols run,
      subst (λ ns. TellsContent (declarations_of c.args.self.now.target) (kept_symbols run) (item_content c.args.run.proof.now ns c.args.item))
          (sym c.deref.ensures.value)
          (next-told run c.requires.sound c.requires.named q.0 q.1 c.args.self.now.target q.2 c.args.run.proof.now c.args.self.now.numbers.items c.args.item
          q.3),
    )

pub push-requires-clause-held : goal.push-requires-clause-held
push-requires-clause-held c = IsHeld-Grows c.args.self.now.target _ c.declaration.ensures.grows c.requires.next.2.held

pub push-requires-clause-follows : goal.push-requires-clause-follows
push-requires-clause-follows c =
    let q = c.requires.next in
    let run = accepted c.args.run in
    next-may-follow run c.requires.sound c.requires.named q.0 q.1 c.args.self.now.target q.2 c.args.run.proof.now c.args.self.now.numbers.items c.args.item q.3
    _ _ (declarations_of-Grows c.args.self.now.target _ c.declaration.ensures.grows q.2.held)
    (made-with run c.args.self.now.target c.args.run.proof.now _ c.args.self.now.numbers.items c.args.item _ c.deref.ensures.value c.in_ok-decl.ensures.made)

pub returns-clause-declared : goal.returns-clause-declared
returns-clause-declared c =
    let run = accepted c.args.run in
    on_ok_weaker c.push.result
    (λ e items grown so_far kept. record {
      held = c.push.ensures.held;
      declared =
          next-declared run c.requires.sound c.requires.named items grown c.args.self.now.target so_far c.args.run.proof.now c.args.self.now.numbers.items
          c.args.item kept _ _ _ (declarations_of-Grows c.args.self.now.target _ c.declaration.ensures.grows so_far.held)
          (made-with run c.args.self.now.target c.args.run.proof.now _ c.args.self.now.numbers.items c.args.item _ c.deref.ensures.value
          c.in_ok-decl.ensures.made) e;
    })
    c.push.ensures.declared
