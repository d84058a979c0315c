use Rattle.std.proofs.Common.{◌∙◌, sym, ap, subst, nat_eq}
use Rattle.std.specs.Option.{option_copied}
use Rattle.indexmap.specs.IndexMap.{get}
use Rattle.holide_sig.specs.Places.{IsShortAt}
use Rattle.holide_sig.proofs.ShortPlaced.{position-placed, position-unplaced}
use Rattle.holide_sig.proofs.decls.Decls.short.Goals as goal

pub returns-in_default-clause-place : goal.returns-in_default-clause-place
returns-in_default-clause-place c =
    let shorts = c.self.inside.shorts in
    rw (← c.self.view_is)
    (sym (position-unplaced c.self.inside.decls.items (get nat_eq shorts) c.self.invariant.1 c.args.id
    (sym c.get.ensures.value ∙ ap option_copied c.in_default.is)))

pub returns-then-is_short_at-clause-place : goal.returns-then-is_short_at-clause-place
returns-then-is_short_at-clause-place c =
    let shorts = c.self.inside.shorts in
    rw (← c.self.view_is)
    (sym (position-placed c.self.inside.decls.items (get nat_eq shorts) c.self.invariant.1 c.args.id c.in-Some.place.now
    (sym c.get.ensures.value ∙ ap option_copied c.in-Some.is)
    (subst (λ l. IsShortAt l c.in-Some.place.now c.args.id) c.deref.ensures.value c.if-is_short_at.ensures)))
