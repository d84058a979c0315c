use Rattle.std.proofs.Common.{◌≡◌, refl, sym, subst, ◌∙◌, ◌++◌, ◌∷◌, [], None}
use Rattle.std.proofs.Math.Path.{ap₂}
use Rattle.hol_spec.specs.Definitions.{Definition}
use Rattle.hol_spec.specs.NameEquality.{name_eq}
use Rattle.hol_laws.specs.NameEqualityLaws.{name_eq-Decides}
use Rattle.hol_spec.specs.Symbols.{Symbol}
use Rattle.hol_proof_laws.specs.SymbolGrowth.{symmetric}
use Rattle.hol_type.specs.Tables.{tree_at}
use Rattle.hol_term.specs.Tables.{term_at, type_at}
use Rattle.hol_term.specs.TableLaws.{Keeps-refl}
use Rattle.hol_defs.specs.Faults.{limit_fault, types_made, Refuses}
use Rattle.hol_defs.specs.Symbols.{named, symbols_at, AreKnownSymbols}
use Rattle.hol_defs.specs.SymbolLaws.{AreKnownSymbols-Keeps}
use Rattle.hol_defs.proofs.IndexLaws.{undefined, unsettled}
use Rattle.hol_defs.proofs.OperatorEnds.{own_function, own_type, new_names, none_refused, operator_refused, limit_refused}
use Rattle.hol_defs.proofs.OperatorLaws.{operator-symbols, operator-known}
use Rattle.hol_defs.proofs.Symbols.define_op.Goals as goal

pub returns-in-Err-clause-refusal : goal.returns-in-Err-clause-refusal
returns-in-Err-clause-refusal c = λ f t d k h.
    let trees = c.args.table.now in
    let names = named c.args.op.now c.args.abs.now c.args.rep.now c.args.names.now in
    let p = term_at trees c.application_parts.result.0.0 in
    operator_refused (symbols_at trees c.args.self.now) names p f (limit_fault (types_made names d))
    (own_function (term_at trees c.args.term.0) p (term_at trees c.application_parts.result.1.0) f t c.application_parts.ensures.parts k) c.in-Err.fault
    c.in-Err.ensures.refusal

pub returns-in-Err-clause-keeps : goal.returns-in-Err-clause-keeps
returns-in-Err-clause-keeps c = Keeps-refl c.args.table.now

pub returns-in-Err-within_limits-clause-keeps : goal.returns-in-Err-within_limits-clause-keeps
returns-in-Err-within_limits-clause-keeps c = Keeps-refl c.args.table.now

pub returns-in_err-take_op-clause-keeps : goal.returns-in_err-take_op-clause-keeps
returns-in_err-take_op-clause-keeps c = c.in_err-take_op.ensures.keeps

pub returns-clause-keeps : goal.returns-clause-keeps
returns-clause-keeps c = c.in_ok-take_op.ensures.keeps

pub returns-in-Err-within_limits-clause-refusal : goal.returns-in-Err-within_limits-clause-refusal
returns-in-Err-within_limits-clause-refusal c = λ f t d k h.
    let trees = c.args.table.now in
    let names = named c.args.op.now c.args.abs.now c.args.rep.now c.args.names.now in
    let u = term_at trees c.args.term.0 in
    let p = term_at trees c.application_parts.result.0.0 in
    let w = term_at trees c.application_parts.result.1.0 in
    let a = type_at trees c.type_of-whole.result.0 in
    limit_refused (symbols_at trees c.args.self.now) names p f a d (own_function u p w f t c.application_parts.ensures.parts k)
    (own_type u p w f t a d c.application_parts.ensures.parts k c.type_of-whole.ensures.is h)
    c.in-Ok.ensures.fits c.in-Err-within_limits.fault
    (subst (λ types. Refuses c.in-Err-within_limits.fault (limit_fault (types_made names (tree_at types c.type_of-whole.result.0)))) c.types.ensures.types
    (c.in-Err-within_limits.ensures.refusal names refl))

pub take_op-requires-clause-abs : goal.take_op-requires-clause-abs
take_op-requires-clause-abs c = undefined c.args.table.now c.args.abs.now c.args.self.now c.requires.known (
    new_names (symbols_at c.args.table.now c.args.self.now) (named c.args.op.now c.args.abs.now c.args.rep.now c.args.names.now)
    (term_at c.args.table.now c.application_parts.result.0.0) c.in-Ok.ensures.fits
    ).abstraction

pub take_op-requires-clause-rep : goal.take_op-requires-clause-rep
take_op-requires-clause-rep c = undefined c.args.table.now c.args.rep.now c.args.self.now c.requires.known (
    new_names (symbols_at c.args.table.now c.args.self.now) (named c.args.op.now c.args.abs.now c.args.rep.now c.args.names.now)
    (term_at c.args.table.now c.application_parts.result.0.0) c.in-Ok.ensures.fits
    ).representation

pub take_op-requires-clause-apart : goal.take_op-requires-clause-apart
take_op-requires-clause-apart c = symmetric name_eq name_eq-Decides c.args.abs.now c.args.rep.now (
    new_names (symbols_at c.args.table.now c.args.self.now) (named c.args.op.now c.args.abs.now c.args.rep.now c.args.names.now)
    (term_at c.args.table.now c.application_parts.result.0.0) c.in-Ok.ensures.fits
    ).apart

pub take_op-requires-clause-op : goal.take_op-requires-clause-op
take_op-requires-clause-op c = unsettled c.args.table.now c.args.op.now c.args.self.now (
    new_names (symbols_at c.args.table.now c.args.self.now) (named c.args.op.now c.args.abs.now c.args.rep.now c.args.names.now)
    (term_at c.args.table.now c.application_parts.result.0.0) c.in-Ok.ensures.fits
    ).operator

pub returns-in_err-take_op-clause-known : goal.returns-in_err-take_op-clause-known
returns-in_err-take_op-clause-known c = subst (AreKnownSymbols c.take_op.new.table) (sym c.in_err-take_op.ensures.unchanged)
    (AreKnownSymbols-Keeps c.take_op.ensures.keeps c.args.self.now c.requires.known)

pub returns-clause-takes : goal.returns-clause-takes
returns-clause-takes c = λ f t d k h.
    let trees = c.args.table.now in
    let names = named c.args.op.now c.args.abs.now c.args.rep.now c.args.names.now in
    let u = term_at trees c.args.term.0 in
    let p = term_at trees c.application_parts.result.0.0 in
    let w = term_at trees c.application_parts.result.1.0 in
    let a = type_at trees c.type_of-whole.result.0 in
    operator-symbols trees c.take_op.new.table c.take_op.ensures.keeps c.args.self.now c.take_op.new.self names c.type_of-whole.result
    c.application_parts.result.0 c.requires.known c.type_of-whole.ensures.known
    c.application_parts.ensures.function c.in_ok-take_op.ensures.takes
    ∙ ap₂ (λ x y. symbols_at trees c.args.self.now ++ Symbol.defined (Definition.type_operator names x y) ∷ [])
    (own_type u p w f t a d c.application_parts.ensures.parts k c.type_of-whole.ensures.is h)
    (own_function u p w f t c.application_parts.ensures.parts k)

pub returns-clause-fits : goal.returns-clause-fits
returns-clause-fits c = λ f t d k h.
    let trees = c.args.table.now in
    let names = named c.args.op.now c.args.abs.now c.args.rep.now c.args.names.now in
    let u = term_at trees c.args.term.0 in
    let p = term_at trees c.application_parts.result.0.0 in
    let w = term_at trees c.application_parts.result.1.0 in
    let a = type_at trees c.type_of-whole.result.0 in
    none_refused (symbols_at trees c.args.self.now) names p f a d (own_function u p w f t c.application_parts.ensures.parts k)
    (own_type u p w f t a d c.application_parts.ensures.parts k c.type_of-whole.ensures.is h)
    c.in-Ok.ensures.fits
    (subst (λ types. limit_fault (types_made names (tree_at types c.type_of-whole.result.0)) ≡ None) c.types.ensures.types
    (c.in-Ok-within_limits.ensures.fits names refl))

pub returns-clause-known : goal.returns-clause-known
returns-clause-known c =
    operator-known c.args.table.now c.take_op.new.table c.take_op.ensures.keeps c.args.self.now c.take_op.new.self
    (named c.args.op.now c.args.abs.now c.args.rep.now c.args.names.now) c.type_of-whole.result c.application_parts.result.0
    c.requires.known c.type_of-whole.ensures.known c.application_parts.ensures.function c.in_ok-take_op.ensures.takes
