use Rattle.std.proofs.Common.{◌∙◌, ◌++◌, ◌∷◌, [], length, sym, ap, subst, arith}
use Rattle.dk_read.specs.declared.terms.Meaning.TheVariants as meaning
use Rattle.dk_read.specs.Names.{names_of, looked, Keeps}
use Rattle.dk_read.proofs.Named.{names_of-old, names_of-new, AreNames-old, AreNames-new, number-known, number-named, Keeps-push, Keeps-same, looked-push}
use Rattle.dk_read.proofs.names.Names.number.Goals as goal

-- a name that is known
pub invariant_of-self-then-number-len : goal.invariant_of-self-then-number-len
invariant_of-self-then-number-len c = AreNames-old c.self.inside.table c.number.new.self c.self.inside.meanings.items c.reserve.new.self.items c.args.name.now
    c.in_ok-number.number c.self.invariant c.in_ok-number.ensures.number c.in_ok-number.ensures.names
    (omega (arith, c.if-number-len.true, c.len.ensures, c.reserve.new.self.ok, ap length c.reserve.ensures.items)) c.reserve.ensures.items

pub returns-then-number-len-clause-known : goal.returns-then-number-len-clause-known
returns-then-number-len-clause-known c = number-known c.self.inside.table c.number.new.self c.self.inside.meanings.items c.reserve.new.self.items
    c.args.name.now c.in_ok-number.number c.self.invariant c.in_ok-number.ensures.number c.in_ok-number.ensures.names
    (AreNames-old c.self.inside.table c.number.new.self c.self.inside.meanings.items c.reserve.new.self.items c.args.name.now c.in_ok-number.number
    c.self.invariant c.in_ok-number.ensures.number c.in_ok-number.ensures.names
    (omega (arith, c.if-number-len.true, c.len.ensures, c.reserve.new.self.ok, ap length c.reserve.ensures.items)) c.reserve.ensures.items)

pub returns-then-number-len-clause-named : goal.returns-then-number-len-clause-named
returns-then-number-len-clause-named c = number-named c.self.inside.table c.number.new.self c.self.inside.meanings.items c.reserve.new.self.items
    c.args.name.now c.in_ok-number.number c.self.invariant c.in_ok-number.ensures.number c.in_ok-number.ensures.names
    (AreNames-old c.self.inside.table c.number.new.self c.self.inside.meanings.items c.reserve.new.self.items c.args.name.now c.in_ok-number.number
    c.self.invariant c.in_ok-number.ensures.number c.in_ok-number.ensures.names
    (omega (arith, c.if-number-len.true, c.len.ensures, c.reserve.new.self.ok, ap length c.reserve.ensures.items)) c.reserve.ensures.items)

pub returns-then-number-len-clause-keeps : goal.returns-then-number-len-clause-keeps
returns-then-number-len-clause-keeps c = subst (Keeps c.args.self.now)
    (sym (names_of-old c.self.inside.table c.number.new.self c.self.inside.meanings.items c.reserve.new.self.items c.args.name.now c.in_ok-number.number
    c.self.invariant c.in_ok-number.ensures.number c.in_ok-number.ensures.names
    (omega (arith, c.if-number-len.true, c.len.ensures, c.reserve.new.self.ok, ap length c.reserve.ensures.items)) c.reserve.ensures.items ∙ c.self.view_is))
    (Keeps-same c.args.self.now)

pub returns-then-number-len-clause-same : goal.returns-then-number-len-clause-same
returns-then-number-len-clause-same c = λ x. ap (λ l. looked l x)
    (names_of-old c.self.inside.table c.number.new.self c.self.inside.meanings.items c.reserve.new.self.items c.args.name.now c.in_ok-number.number
    c.self.invariant c.in_ok-number.ensures.number c.in_ok-number.ensures.names
    (omega (arith, c.if-number-len.true, c.len.ensures, c.reserve.new.self.ok, ap length c.reserve.ensures.items)) c.reserve.ensures.items ∙ c.self.view_is)

-- a new name, which goes last
pub invariant_of-self-2 : goal.invariant_of-self-2
invariant_of-self-2 c = AreNames-new c.self.inside.table c.number.new.self c.self.inside.meanings.items c.push_reserved.new.self.items c.args.name.now
    c.in_ok-number.number c.self.invariant c.in_ok-number.ensures.number c.in_ok-number.ensures.names
    (omega (arith, c.if-number-len.false, c.len.ensures, c.reserve.new.self.ok, ap length c.reserve.ensures.items))
    (c.push_reserved.ensures.items ∙ ap (λ l. l ++ meaning.Nothing ∷ []) c.reserve.ensures.items)

pub returns-clause-known : goal.returns-clause-known
returns-clause-known c = number-known c.self.inside.table c.number.new.self c.self.inside.meanings.items c.push_reserved.new.self.items c.args.name.now
    c.in_ok-number.number c.self.invariant c.in_ok-number.ensures.number c.in_ok-number.ensures.names
    (AreNames-new c.self.inside.table c.number.new.self c.self.inside.meanings.items c.push_reserved.new.self.items c.args.name.now c.in_ok-number.number
    c.self.invariant c.in_ok-number.ensures.number c.in_ok-number.ensures.names
    (omega (arith, c.if-number-len.false, c.len.ensures, c.reserve.new.self.ok, ap length c.reserve.ensures.items))
    (c.push_reserved.ensures.items ∙ ap (λ l. l ++ meaning.Nothing ∷ []) c.reserve.ensures.items))

pub returns-clause-named : goal.returns-clause-named
returns-clause-named c = number-named c.self.inside.table c.number.new.self c.self.inside.meanings.items c.push_reserved.new.self.items c.args.name.now
    c.in_ok-number.number c.self.invariant c.in_ok-number.ensures.number c.in_ok-number.ensures.names
    (AreNames-new c.self.inside.table c.number.new.self c.self.inside.meanings.items c.push_reserved.new.self.items c.args.name.now c.in_ok-number.number
    c.self.invariant c.in_ok-number.ensures.number c.in_ok-number.ensures.names
    (omega (arith, c.if-number-len.false, c.len.ensures, c.reserve.new.self.ok, ap length c.reserve.ensures.items))
    (c.push_reserved.ensures.items ∙ ap (λ l. l ++ meaning.Nothing ∷ []) c.reserve.ensures.items))

pub returns-clause-keeps : goal.returns-clause-keeps
returns-clause-keeps c =
    let es = names_of c.self.inside.table c.self.inside.meanings.items in
    subst (λ l. Keeps l (names_of c.number.new.self c.push_reserved.new.self.items)) c.self.view_is
    (subst (Keeps es)
    (sym (names_of-new c.self.inside.table c.number.new.self c.self.inside.meanings.items c.push_reserved.new.self.items c.args.name.now
    c.in_ok-number.number c.self.invariant c.in_ok-number.ensures.number c.in_ok-number.ensures.names
    (omega (arith, c.if-number-len.false, c.len.ensures, c.reserve.new.self.ok, ap length c.reserve.ensures.items))
    (c.push_reserved.ensures.items ∙ ap (λ l. l ++ meaning.Nothing ∷ []) c.reserve.ensures.items))) (Keeps-push es (c.args.name.now, meaning.Nothing)))

pub returns-clause-same : goal.returns-clause-same
returns-clause-same c = λ x.
    let es = names_of c.self.inside.table c.self.inside.meanings.items in
    ap (λ l. looked l x)
    (names_of-new c.self.inside.table c.number.new.self c.self.inside.meanings.items c.push_reserved.new.self.items c.args.name.now c.in_ok-number.number
    c.self.invariant c.in_ok-number.ensures.number c.in_ok-number.ensures.names
    (omega (arith, c.if-number-len.false, c.len.ensures, c.reserve.new.self.ok, ap length c.reserve.ensures.items))
    (c.push_reserved.ensures.items ∙ ap (λ l. l ++ meaning.Nothing ∷ []) c.reserve.ensures.items)) ∙ looked-push es c.args.name.now x
    ∙ ap (λ l. looked l x) c.self.view_is
