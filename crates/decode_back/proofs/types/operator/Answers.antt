use Rattle.std.proofs.Common.{sym, subst, ◌∙◌, arith}
use Rattle.hol_type.specs.Tables.{AreKnown, types_at}
use Rattle.hol_type.specs.Refusals.{RefusesType}
use Rattle.hol_term.specs.TableLaws.{Keeps-refl}
use Rattle.hol_spec.specs.Types.{operator, types_of}
use Rattle.holide_sig.specs.Modules.{declaration_in, declarations_of}
use Rattle.decode_back.proofs.TypeWalk.{long, arguments-count, symbol-none, symbol-some, symbol-refused, not-within}
use Rattle.std.proofs.lemmas.List.{length-map}
use Rattle.decode_back.proofs.types.operator.Goals as goal

pub returns-in_default-clause-decoded : goal.returns-in_default-clause-decoded
returns-in_default-clause-decoded c at acc h =
    symbol-none (declarations_of c.args.source.now) at c.args.level c.args.symbol c.len-2.result acc
    (arguments-count c.args.table.now c.args.args.items acc h ∙ long c.args.args ∙ sym c.len-2.ensures)
    (sym c.in_ok-name.ensures ∙ c.in_default.is)

pub ty_op-requires : goal.ty_op-requires
ty_op-requires c = subst (AreKnown c.args.table.now.types) (sym c.deref.ensures.value) c.requires.args

pub returns-in-Ok-clause-decoded : goal.returns-in-Ok-clause-decoded
returns-in-Ok-clause-decoded c at acc h =
    symbol-some (declarations_of c.args.source.now) at c.args.level c.args.symbol c.len-2.result acc
    (arguments-count c.args.table.now c.args.args.items acc h ∙ long c.args.args ∙ sym c.len-2.ensures)
    c.in-Some.name c.args.table.now c.ty_op.new.self c.args.args.items c.deref.result.now c.in-Ok.made (sym c.in_ok-name.ensures ∙ c.in-Some.is) h
    c.deref.ensures.value c.in-Ok.ensures.made

pub returns-clause-decoded : goal.returns-clause-decoded
returns-clause-decoded c at acc h =
    symbol-refused (declarations_of c.args.source.now) at c.args.level c.args.symbol c.len-2.result acc
    (arguments-count c.args.table.now c.args.args.items acc h ∙ long c.args.args ∙ sym c.len-2.ensures)
    c.in-Some.name c.args.table.now c.args.args.items c.deref.result.now (sym c.in_ok-name.ensures ∙ c.in-Some.is) h c.deref.ensures.value
    (not-within c.in-Err-Refused.field-0-0 c.args.level (operator c.in-Some.name (types_of (types_at c.args.table.now.types c.deref.result.now)))
    c.requires.level
    (subst (λ f. RefusesType f (operator c.in-Some.name (types_of (types_at c.args.table.now.types c.deref.result.now)))) c.in-Err-Refused.field-0-is
    c.in-Err-Refused.ensures.refusal))

pub returns-then-symbol-len-clause-keeps : goal.returns-then-symbol-len-clause-keeps
returns-then-symbol-len-clause-keeps c = Keeps-refl c.args.table.now

pub returns-in_err-name-clause-keeps : goal.returns-in_err-name-clause-keeps
returns-in_err-name-clause-keeps c = Keeps-refl c.args.table.now

pub returns-in_default-clause-keeps : goal.returns-in_default-clause-keeps
returns-in_default-clause-keeps c = Keeps-refl c.args.table.now

pub returns-in-Ok-clause-keeps : goal.returns-in-Ok-clause-keeps
returns-in-Ok-clause-keeps c = c.ty_op.ensures.keeps

pub returns-in-Err-Memory-clause-keeps : goal.returns-in-Err-Memory-clause-keeps
returns-in-Err-Memory-clause-keeps c = c.ty_op.ensures.keeps

pub returns-clause-keeps : goal.returns-clause-keeps
returns-clause-keeps c = c.ty_op.ensures.keeps

pub returns-in-Ok-clause-known : goal.returns-in-Ok-clause-known
returns-in-Ok-clause-known c = c.in-Ok.ensures.known

pub operator_at-requires-clause-declared : goal.operator_at-requires-clause-declared
operator_at-requires-clause-declared c = omega
    (arith, c.if-symbol-len.false, c.len.ensures, length-map c.args.source.now.decls (declaration_in c.args.source.now.table))
