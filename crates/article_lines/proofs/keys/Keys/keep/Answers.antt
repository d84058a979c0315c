use Rattle.std.proofs.Common.{◌≡◌, ◌+◌, ◌<◌, ◌∙◌, ap, arith, length, None, subst, sym}
use Rattle.article_lines.specs.Things.{thing_key, with_thing, HasRoom}
use Rattle.article_lines.specs.Slots.{keyed, AreKeys, HasPlace, no_key}
use Rattle.article_lines.proofs.SlotLaws.{keyed-put, length-things, next-small, AreKeys-put}
use Rattle.article_lines.proofs.keys.Keys.keep.Goals as goal

pub overflow_add-self : goal.overflow_add-self
overflow_add-self c =
    let s = c.self.inside.slots in
    let n = c.self.inside.next in
    let room : HasPlace s c.args.thing = subst (λ k. HasRoom k c.args.thing) (sym c.self.view_is) c.requires.room in
    let new : thing_key (keyed s n) c.args.thing ≡ None = subst (λ k. thing_key k c.args.thing ≡ None) (sym c.self.view_is) c.requires.new in
    let small = next-small s n c.args.thing c.self.invariant room new in
    omega (arith, small)

pub invariant_of-self : goal.invariant_of-self
invariant_of-self c =
    let s = c.self.inside.slots in
    let n = c.self.inside.next in
    let room : HasPlace s c.args.thing = subst (λ k. HasRoom k c.args.thing) (sym c.self.view_is) c.requires.room in
    let new : thing_key (keyed s n) c.args.thing ≡ None = subst (λ k. thing_key k c.args.thing ≡ None) (sym c.self.view_is) c.requires.new in
    rw c.set.ensures (AreKeys-put s n c.args.thing c.self.invariant room new)

pub returns-clause-kept : goal.returns-clause-kept
returns-clause-kept c =
    let s = c.self.inside.slots in
    let n = c.self.inside.next in
    let room : HasPlace s c.args.thing = subst (λ k. HasRoom k c.args.thing) (sym c.self.view_is) c.requires.room in
    let new : thing_key (keyed s n) c.args.thing ≡ None = subst (λ k. thing_key k c.args.thing ≡ None) (sym c.self.view_is) c.requires.new in
    ap (λ l. keyed l (n + 1)) c.set.ensures ∙ keyed-put s n c.args.thing c.self.invariant room new ∙ ap (with_thing c.args.thing) c.self.view_is

pub returns-clause-key : goal.returns-clause-key
returns-clause-key c = sym (length-things c.self.inside.slots c.self.inside.next) ∙ ap (λ k. length k.things) c.self.view_is
