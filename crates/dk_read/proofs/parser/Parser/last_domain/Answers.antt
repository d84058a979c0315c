use Rattle.std.proofs.Common.{◌≡◌, ◌∙◌, ◌∷◌, sym, ap, subst, reverse, length, Some, arith}
use Rattle.std.proofs.lemmas.Grind.{common_steps}
use Rattle.std.specs.Option.{option_copied}
use Rattle.std.specs.Vec.{vec_len}
use Rattle.dk_read.specs.declared.terms.Frame.TheVariants as frame
use Rattle.dk_read.specs.States.{IsSoundIn}
use Rattle.dk_read.proofs.Bindings.{plain_out, popped}
use Rattle.dk_read.proofs.parser.Parser.last_domain.Goals as goal

pub returns-in-Some-Domain-clause-sound : goal.returns-in-Some-Domain-clause-sound
returns-in-Some-Domain-clause-sound c =
    let p = c.args.self.now in
    let f = frame.Domain c.in-Some-Domain.name in
    let count : vec_len p.frames ≡ length p.frames.items = grind (arith, common_steps) in
    let split : reverse p.frames.items ≡ f ∷ reverse c.pop.new.self.items =
    popped p.frames.items c.pop.new.self.items c.deref.result.now (vec_len p.frames) f c.deref.ensures.value count c.pop.ensures.rest
    (sym c.last.ensures.value ∙ ap option_copied c.in-Some-Domain.is ∙ ap Some c.in-Some-Domain.field-0-is) in
    plain_out p.module p.names p.nameless p.atoms p.binders p.head (reverse c.pop.new.self.items) f tt
    (subst (IsSoundIn p.module p.names p.nameless p.atoms p.binders p.head) split c.requires.sound)
