use Rattle.std.proofs.Common.{sym, ◌∙◌}
use Rattle.lp_term.specs.Tables.{tree_at}
use Rattle.holide_sig.specs.Modules.{declarations_of}
use Rattle.decode_back.proofs.SymbolLemmas.{unnamed, is-primitive, other-type, is-named}
use Rattle.decode_back.proofs.symbols.named.Goals as goal

pub returns-in_default : goal.returns-in_default
returns-in_default c = unnamed (declarations_of c.args.source.now) c.args.symbol c.args.front.now c.args.arity (sym c.in_default.is ∙ c.in_ok-name.ensures)

pub returns-then-is_primitive : goal.returns-then-is_primitive
returns-then-is_primitive c =
    is-primitive (declarations_of c.args.source.now) c.args.symbol c.args.front.now c.args.arity c.in-Some.name (sym c.in-Some.is ∙ c.in_ok-name.ensures)
    c.is_primitive.result c.is_primitive.ensures c.if-is_primitive.true

pub returns-then-not-is_operator_type : goal.returns-then-not-is_operator_type
returns-then-not-is_operator_type c =
    other-type (declarations_of c.args.source.now) c.args.symbol c.args.front.now c.args.arity c.in-Some.name (sym c.in-Some.is ∙ c.in_ok-name.ensures)
    (tree_at c.args.source.now.table c.symbol_type.result.0) c.is_operator_type.result c.symbol_type.ensures.is c.is_operator_type.ensures
    c.if-not-is_operator_type.true

pub returns : goal.returns
returns c =
    is-named (declarations_of c.args.source.now) c.args.symbol c.args.front.now c.args.arity c.in-Some.name (sym c.in-Some.is ∙ c.in_ok-name.ensures)
    (tree_at c.args.source.now.table c.symbol_type.result.0) c.is_primitive.result c.is_operator_type.result c.is_primitive.ensures c.if-is_primitive.false
    c.symbol_type.ensures.is c.is_operator_type.ensures c.if-not-is_operator_type.false
