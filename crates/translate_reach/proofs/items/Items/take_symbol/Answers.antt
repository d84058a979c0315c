use Rattle.std.proofs.Common.{◌≡◌, [], ◌∷◌, ◌++◌, ap, sym, subst, ◌∙◌, slice_get}
use Rattle.std.proofs.lemmas.Result.{on_ok_weaker}
use Rattle.hol_proof_laws.specs.ProofGrowth.{All-get}
use Rattle.hol_term.specs.Tables.{term_at, type_at}
use Rattle.hol_spec.specs.Definitions.{Definition}
use Rattle.hol_spec.specs.Proofs.{IsProof}
use Rattle.hol_spec.specs.Symbols.{Symbol}
use Rattle.hol_defs.specs.Symbols.{Taken, named, IsKnownSymbol}
use Rattle.hol_defs.specs.Views.{operator_of_view}
use Rattle.translate_reach.specs.MadeItems.{definition_made, made_items, AreListed, IsNoted}
use Rattle.translate_reach.proofs.Given.{symbol-there, plain-made, operator-made, definition-noted}
use Rattle.translate_reach.proofs.Taken.{input_constant-Listed, input_operator-Listed, defined_constant-Listed}
use Rattle.translate_reach.proofs.items.Items.take_symbol.Goals as goal

pub returns-in-InputConst : goal.returns-in-InputConst
returns-in-InputConst c = on_ok_weaker c.add_constant.result
    (λ adds front rest y proof order whole noted e h.
    let p = c.args.proof.now in
    let taken = c.symbols.result.now in
    let n = c.in-InputConst.name.now in
    let is = symbol-there p front rest y c.args.one.now whole noted taken (Taken.input_constant n) c.symbols.ensures.are
    (ap (slice_get taken) (sym e) ∙ c.in-InputConst.ensures) in
    input_constant-Listed p order front rest c.args.self.now h y whole n (plain-made y (Symbol.input_constant n) is (tt {0})) _ adds)
    c.add_constant.ensures

pub returns-in-InputOp : goal.returns-in-InputOp
returns-in-InputOp c = on_ok_weaker c.add_operator.result
    (λ adds front rest y proof order whole noted e h.
    let p = c.args.proof.now in
    let taken = c.symbols.result.now in
    let n = c.in-InputOp.name.now in
    let k = c.in-InputOp.arity in
    let is = symbol-there p front rest y c.args.one.now whole noted taken (Taken.input_operator n k) c.symbols.ensures.are
    (ap (slice_get taken) (sym e) ∙ c.in-InputOp.ensures) in
    input_operator-Listed p order front rest c.args.self.now h y whole n k (plain-made y (Symbol.input_operator n k) is (tt {0})) _ adds)
    c.add_operator.ensures

pub returns-in-Const : goal.returns-in-Const
returns-in-Const c = on_ok_weaker c.add_constant-in-Const.result
    (λ adds front rest y proof order whole noted e h.
    let p = c.args.proof.now in
    let taken = c.symbols.result.now in
    let n = c.in-Const.name.now in
    let t = c.in-Const.term in
    let z = Taken.constant n t c.in-Const.field-2 in
    let is = symbol-there p front rest y c.args.one.now whole noted taken z c.symbols.ensures.are (ap (slice_get taken) (sym e) ∙ c.in-Const.ensures) in
    let known : IsKnownSymbol p.trees z = All-get (IsKnownSymbol p.trees) taken c.args.symbol z c.symbols.ensures.known c.in-Const.ensures in
    defined_constant-Listed p order front rest c.args.self.now h y whole n t
    (plain-made y (Symbol.defined (Definition.constant n (term_at p.trees t.0))) is (tt {0})) known.term _ adds)
    c.add_constant-in-Const.ensures

pub returns-in-TypeOp-one : goal.returns-in-TypeOp-one
returns-in-TypeOp-one c = on_ok_weaker c.take_definition.result
    (λ takes front rest y proof order whole noted e h.
    let p = c.args.proof.now in
    let taken = c.symbols.result.now in
    let x = c.in-TypeOp.x in
    let names = named x.op.now x.abs.now x.rep.now x.names.now in
    let z = operator_of_view x in
    let is = symbol-there p front rest y c.args.one.now whole noted taken z c.symbols.ensures.are (ap (slice_get taken) (sym e) ∙ c.in-TypeOp.ensures) in
    let known : IsKnownSymbol p.trees z = All-get (IsKnownSymbol p.trees) taken c.args.symbol z c.symbols.ensures.known c.in-TypeOp.ensures in
    let made = operator-made front rest y c.args.one.now names (type_at p.trees x.whole.0) (term_at p.trees x.predicate.0) (subst IsProof whole proof) noted is
    in
    let premise = subst (IsNoted (definition_made p.trees x made.0)) c.in-TypeOp-one.is made.2 in
    let same : y ≡ definition_made p.trees x c.in-TypeOp-one.premise = made.1 ∙ ap (definition_made p.trees x) premise in
    subst (λ d. AreListed p (made_items (front ++ d ∷ [])) c.take_definition.new.self) (sym same)
    (takes p front rest proof order known (whole ∙ ap (λ d. front ++ d ∷ rest) same) h))
    c.take_definition.ensures

pub returns-in_default : goal.returns-in_default
returns-in_default c = λ front rest y proof order whole noted e h.
    let p = c.args.proof.now in
    let taken = c.symbols.result.now in
    let x = c.in-TypeOp.x in
    let names = named x.op.now x.abs.now x.rep.now x.names.now in
    let is = symbol-there p front rest y c.args.one.now whole noted taken (operator_of_view x) c.symbols.ensures.are
    (ap (slice_get taken) (sym e) ∙ c.in-TypeOp.ensures) in
    let a = type_at p.trees x.whole.0 in
    let f = term_at p.trees x.predicate.0 in
    let made = operator-made front rest y c.args.one.now names a f (subst IsProof whole proof) noted is in
    let one = definition-noted names a f made.0 c.args.one.now made.2 in
    absurd (c.in_default.not-TypeOp one.0 made.0 one.1)
