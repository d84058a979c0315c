use Rattle.std.proofs.Common.{◌≡◌, ◌+◌, ◌∙◌, ◌∷◌, refl, sym, ap, subst, reverse}
use Rattle.lp_spec.specs.ReadingFaults as reading
use Rattle.lp_term.specs.Tables.{tree_at}
use Rattle.dk_read.specs.declared.terms.Frame.TheVariants as frame
use Rattle.dk_read.specs.Names.{name_at}
use Rattle.dk_read.specs.States.{declared, bound_frame, IsSoundIn, IsBinderKnown}
use Rattle.dk_read.proofs.Bindings.{bind_in, binds_in, reverse_last}
use Rattle.dk_read.proofs.parser.Parser.bind.Goals as goal

split-Product : (c : goal.In-Ok) → reverse c.push.new.self.items
    ≡ frame.Product c.args.name c.in-Product.domain c.put-hidden.result ∷ reverse c.args.self.now.frames.items
split-Product c = ap reverse c.in-Ok.ensures.items
    ∙ reverse_last c.args.self.now.frames.items (frame.Product c.args.name c.in-Product.domain c.put-hidden.result)

pub returns-in-Ok-clause-frames : goal.returns-in-Ok-clause-frames
returns-in-Ok-clause-frames c =
    let p = c.args.self.now in
    binds_in p.module.table p.names c.put-hidden.new.self c.put-hidden.ensures.keeps (declared p) (reverse p.frames.items) (reverse c.push.new.self.items)
    (frame.Product c.args.name c.in-Product.domain c.put-hidden.result) (bound_frame p.module.table c.args.binder (name_at p.names c.args.name))
    (ap (λ x. reading.Product x (tree_at p.module.table c.in-Product.domain.0)) (c.put-hidden.ensures.keeps.stays c.args.name c.requires.known)
    ∙ ap (λ b. bound_frame p.module.table b (name_at p.names c.args.name)) (sym c.in-Product.is))
    c.requires.sound.frames (split-Product c)

pub returns-in-Ok-clause-sound : goal.returns-in-Ok-clause-sound
returns-in-Ok-clause-sound c =
    let p = c.args.self.now in
    subst (IsSoundIn p.module c.put-hidden.new.self p.nameless p.atoms (p.binders + 1) p.head) (sym (split-Product c))
    (bind_in p.module p.names p.nameless p.atoms p.binders p.head (reverse p.frames.items) c.put-hidden.new.self c.put-hidden.ensures.keeps c.args.name
    (frame.Product c.args.name c.in-Product.domain c.put-hidden.result) c.in-Product.domain c.put-hidden.result (λ ts l scope b. b) (λ l. refl) c.requires.known
    (subst (IsBinderKnown p.module.table) c.in-Product.is c.requires.binder) c.put-hidden.ensures.old c.put-hidden.ensures.puts c.requires.sound)

split-Abstraction : (c : goal.In-Ok-push) → reverse c.push-in-Abstraction.new.self.items
    ≡ frame.Abstraction c.args.name c.in-Abstraction.domain c.put-hidden.result ∷ reverse c.args.self.now.frames.items
split-Abstraction c = ap reverse c.in-Ok-push.ensures.items ∙ reverse_last c.args.self.now.frames.items
    (frame.Abstraction c.args.name c.in-Abstraction.domain c.put-hidden.result)

pub returns-in-Ok-push-clause-frames : goal.returns-in-Ok-push-clause-frames
returns-in-Ok-push-clause-frames c =
    let p = c.args.self.now in
    binds_in p.module.table p.names c.put-hidden.new.self c.put-hidden.ensures.keeps (declared p) (reverse p.frames.items)
    (reverse c.push-in-Abstraction.new.self.items) (frame.Abstraction c.args.name c.in-Abstraction.domain c.put-hidden.result)
    (bound_frame p.module.table c.args.binder (name_at p.names c.args.name))
    (ap (λ x. reading.Abstraction x (tree_at p.module.table c.in-Abstraction.domain.0)) (c.put-hidden.ensures.keeps.stays c.args.name c.requires.known)
    ∙ ap (λ b. bound_frame p.module.table b (name_at p.names c.args.name)) (sym c.in-Abstraction.is))
    c.requires.sound.frames (split-Abstraction c)

pub returns-in-Ok-push-clause-sound : goal.returns-in-Ok-push-clause-sound
returns-in-Ok-push-clause-sound c =
    let p = c.args.self.now in
    subst (IsSoundIn p.module c.put-hidden.new.self p.nameless p.atoms (p.binders + 1) p.head) (sym (split-Abstraction c))
    (bind_in p.module p.names p.nameless p.atoms p.binders p.head (reverse p.frames.items) c.put-hidden.new.self c.put-hidden.ensures.keeps c.args.name
    (frame.Abstraction c.args.name c.in-Abstraction.domain c.put-hidden.result) c.in-Abstraction.domain c.put-hidden.result (λ ts l scope b. b) (λ l. refl)
    c.requires.known (subst (IsBinderKnown p.module.table) c.in-Abstraction.is c.requires.binder) c.put-hidden.ensures.old c.put-hidden.ensures.puts
    c.requires.sound)
