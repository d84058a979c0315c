use Rattle.std.proofs.Common.{◌≡◌, ◌∙◌, ◌∷◌, refl, sym, ap, subst, reverse, length, Some, arith}
use Rattle.std.proofs.lemmas.Grind.{common_steps}
use Rattle.std.specs.Option.{option_copied}
use Rattle.std.specs.Vec.{vec_len}
use Rattle.dk_read.specs.declared.terms.Binder.TheVariants as binder
use Rattle.dk_read.specs.declared.terms.Frame.TheVariants as frame
use Rattle.dk_read.specs.Names.{name_at}
use Rattle.dk_read.specs.States.{declared, IsSoundIn}
use Rattle.lp_term.specs.TableLaws.{Keeps-refl}
use Rattle.dk_read.proofs.Grown.{head_in-Keeps}
use Rattle.dk_read.proofs.Bindings.{bind_out, binds_out, popped}
use Rattle.dk_read.proofs.parser.Parser.last_binder.Goals as goal

split-Product : (c : goal.After-self-1) → reverse c.args.self.now.frames.items
    ≡ frame.Product c.in-Some-Product.name c.in-Some-Product.domain c.in-Some-Product.hidden ∷ reverse c.pop.new.self.items
split-Product c =
    let p = c.args.self.now in
    let count : vec_len p.frames ≡ length p.frames.items = grind (arith, common_steps) in
    popped p.frames.items c.pop.new.self.items c.deref.result.now (vec_len p.frames)
    (frame.Product c.in-Some-Product.name c.in-Some-Product.domain c.in-Some-Product.hidden) c.deref.ensures.value count c.pop.ensures.rest
    (sym c.last.ensures.value ∙ ap option_copied c.in-Some-Product.is ∙ ap Some c.in-Some-Product.field-0-is)

pub returns-in-Some-Product-clause-sound : goal.returns-in-Some-Product-clause-sound
returns-in-Some-Product-clause-sound c =
    let p = c.args.self.now in
    let fs = reverse c.pop.new.self.items in
    let f = frame.Product c.in-Some-Product.name c.in-Some-Product.domain c.in-Some-Product.hidden in
    let sound : IsSoundIn p.module p.names p.nameless p.atoms p.binders p.head (f ∷ fs) =
    subst (IsSoundIn p.module p.names p.nameless p.atoms p.binders p.head) (split-Product c) c.requires.sound in
    subst (λ b. IsSoundIn p.module c.put.new.self p.nameless p.atoms b p.head fs) (sym c.saturating_sub-self.ensures)
    (bind_out p.module p.names p.nameless p.atoms p.binders p.head fs c.put.new.self c.put.ensures.keeps c.in-Some-Product.name f c.in-Some-Product.domain
    c.in-Some-Product.hidden sound.frames.0 refl c.put.ensures.puts sound)

pub returns-in-Some-Product-clause-binds : goal.returns-in-Some-Product-clause-binds
returns-in-Some-Product-clause-binds c =
    let p = c.args.self.now in
    let fs = reverse c.pop.new.self.items in
    let f = frame.Product c.in-Some-Product.name c.in-Some-Product.domain c.in-Some-Product.hidden in
    let sound : IsSoundIn p.module p.names p.nameless p.atoms p.binders p.head (f ∷ fs) =
    subst (IsSoundIn p.module p.names p.nameless p.atoms p.binders p.head) (split-Product c) c.requires.sound in
    binds_out p.module.table p.names c.put.new.self c.put.ensures.keeps (declared p) fs (reverse p.frames.items) f (binder.Product c.in-Some-Product.domain)
    (name_at p.names c.in-Some-Product.name) refl sound.frames.1 (split-Product c)

split-Abstraction : (c : goal.After-self-in-Some-Abstraction-1) → reverse c.args.self.now.frames.items
    ≡ frame.Abstraction c.in-Some-Abstraction.name c.in-Some-Abstraction.domain c.in-Some-Abstraction.hidden ∷ reverse c.pop-in-Some-Abstraction.new.self.items
split-Abstraction c =
    let p = c.args.self.now in
    let count : vec_len p.frames ≡ length p.frames.items = grind (arith, common_steps) in
    popped p.frames.items c.pop-in-Some-Abstraction.new.self.items c.deref.result.now (vec_len p.frames)
    (frame.Abstraction c.in-Some-Abstraction.name c.in-Some-Abstraction.domain c.in-Some-Abstraction.hidden) c.deref.ensures.value count
    c.pop-in-Some-Abstraction.ensures.rest (sym c.last.ensures.value ∙ ap option_copied c.in-Some-Abstraction.is ∙ ap Some c.in-Some-Abstraction.field-0-is)

pub returns-in-Some-Abstraction-clause-sound : goal.returns-in-Some-Abstraction-clause-sound
returns-in-Some-Abstraction-clause-sound c =
    let p = c.args.self.now in
    let fs = reverse c.pop-in-Some-Abstraction.new.self.items in
    let f = frame.Abstraction c.in-Some-Abstraction.name c.in-Some-Abstraction.domain c.in-Some-Abstraction.hidden in
    let sound : IsSoundIn p.module p.names p.nameless p.atoms p.binders p.head (f ∷ fs) =
    subst (IsSoundIn p.module p.names p.nameless p.atoms p.binders p.head) (split-Abstraction c) c.requires.sound in
    subst (λ b. IsSoundIn p.module c.put-in-Some-Abstraction.new.self p.nameless p.atoms b p.head fs) (sym c.saturating_sub-self-in-Some-Abstraction.ensures)
    (bind_out p.module p.names p.nameless p.atoms p.binders p.head fs c.put-in-Some-Abstraction.new.self c.put-in-Some-Abstraction.ensures.keeps
    c.in-Some-Abstraction.name f c.in-Some-Abstraction.domain c.in-Some-Abstraction.hidden sound.frames.0 refl c.put-in-Some-Abstraction.ensures.puts sound)

pub returns-in-Some-Abstraction-clause-binds : goal.returns-in-Some-Abstraction-clause-binds
returns-in-Some-Abstraction-clause-binds c =
    let p = c.args.self.now in
    let fs = reverse c.pop-in-Some-Abstraction.new.self.items in
    let f = frame.Abstraction c.in-Some-Abstraction.name c.in-Some-Abstraction.domain c.in-Some-Abstraction.hidden in
    let sound : IsSoundIn p.module p.names p.nameless p.atoms p.binders p.head (f ∷ fs) =
    subst (IsSoundIn p.module p.names p.nameless p.atoms p.binders p.head) (split-Abstraction c) c.requires.sound in
    binds_out p.module.table p.names c.put-in-Some-Abstraction.new.self c.put-in-Some-Abstraction.ensures.keeps (declared p) fs (reverse p.frames.items) f
    (binder.Abstraction c.in-Some-Abstraction.domain) (name_at p.names c.in-Some-Abstraction.name) refl sound.frames.1 (split-Abstraction c)

pub put-requires : goal.put-requires
put-requires c =
    let p = c.args.self.now in
    let f = frame.Product c.in-Some-Product.name c.in-Some-Product.domain c.in-Some-Product.hidden in
    let count : vec_len p.frames ≡ length p.frames.items = grind (arith, common_steps) in
    let split : reverse p.frames.items ≡ f ∷ reverse c.pop.new.self.items =
    popped p.frames.items c.pop.new.self.items c.deref.result.now (vec_len p.frames) f c.deref.ensures.value count c.pop.ensures.rest
    (sym c.last.ensures.value ∙ ap option_copied c.in-Some-Product.is ∙ ap Some c.in-Some-Product.field-0-is) in
    let sound : IsSoundIn p.module p.names p.nameless p.atoms p.binders p.head (f ∷ reverse c.pop.new.self.items) =
    subst (IsSoundIn p.module p.names p.nameless p.atoms p.binders p.head) split c.requires.sound in
    sound.frames.0.name

pub returns-in-Some-Product-clause-head : goal.returns-in-Some-Product-clause-head
returns-in-Some-Product-clause-head c =
    let p = c.args.self.now in
    head_in-Keeps p.module.table p.module.table (Keeps-refl p.module.table) p.names c.put.new.self c.put.ensures.keeps p.head c.requires.sound.head

pub returns-in-Some-Product-clause-known : goal.returns-in-Some-Product-clause-known
returns-in-Some-Product-clause-known c =
    let p = c.args.self.now in
    let f = frame.Product c.in-Some-Product.name c.in-Some-Product.domain c.in-Some-Product.hidden in
    let sound : IsSoundIn p.module p.names p.nameless p.atoms p.binders p.head (f ∷ reverse c.pop.new.self.items) =
    subst (IsSoundIn p.module p.names p.nameless p.atoms p.binders p.head) (split-Product c) c.requires.sound in
    sound.frames.0.domain

pub put-requires-in-Some-Abstraction : goal.put-requires-in-Some-Abstraction
put-requires-in-Some-Abstraction c =
    let p = c.args.self.now in
    let f = frame.Abstraction c.in-Some-Abstraction.name c.in-Some-Abstraction.domain c.in-Some-Abstraction.hidden in
    let count : vec_len p.frames ≡ length p.frames.items = grind (arith, common_steps) in
    let split : reverse p.frames.items ≡ f ∷ reverse c.pop-in-Some-Abstraction.new.self.items =
    popped p.frames.items c.pop-in-Some-Abstraction.new.self.items c.deref.result.now (vec_len p.frames) f c.deref.ensures.value count
    c.pop-in-Some-Abstraction.ensures.rest (sym c.last.ensures.value ∙ ap option_copied c.in-Some-Abstraction.is ∙ ap Some c.in-Some-Abstraction.field-0-is)
    in
    let sound : IsSoundIn p.module p.names p.nameless p.atoms p.binders p.head (f ∷ reverse c.pop-in-Some-Abstraction.new.self.items) =
    subst (IsSoundIn p.module p.names p.nameless p.atoms p.binders p.head) split c.requires.sound in
    sound.frames.0.name

pub returns-in-Some-Abstraction-clause-head : goal.returns-in-Some-Abstraction-clause-head
returns-in-Some-Abstraction-clause-head c =
    let p = c.args.self.now in
    head_in-Keeps p.module.table p.module.table (Keeps-refl p.module.table) p.names c.put-in-Some-Abstraction.new.self c.put-in-Some-Abstraction.ensures.keeps
    p.head c.requires.sound.head

pub returns-in-Some-Abstraction-clause-known : goal.returns-in-Some-Abstraction-clause-known
returns-in-Some-Abstraction-clause-known c =
    let p = c.args.self.now in
    let f = frame.Abstraction c.in-Some-Abstraction.name c.in-Some-Abstraction.domain c.in-Some-Abstraction.hidden in
    let sound : IsSoundIn p.module p.names p.nameless p.atoms p.binders p.head (f ∷ reverse c.pop-in-Some-Abstraction.new.self.items) =
    subst (IsSoundIn p.module p.names p.nameless p.atoms p.binders p.head) (split-Abstraction c) c.requires.sound in
    sound.frames.0.domain
