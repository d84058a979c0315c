use Rattle.std.proofs.Common.{◌≡◌, None, sym, subst}
use Rattle.std.specs.Prelude.{IfOk, MatchOption}
use Rattle.hol_term.specs.TableLaws.{Keeps-trans}
use Rattle.holide_sig.specs.Modules.{declarations_of}
use Rattle.decode_spec.specs.Decode.{input_constant}
use Rattle.decode_back.specs.Walks.{IsConstant, IsConstantFound}
use Rattle.decode_back.proofs.ConstantLemmas.{equality-constant, choice-constant, other-constant}
use Rattle.decode_back.proofs.constants.constant_at.Goals as goal

pub returns-then-symbol-eq5-clause-found : goal.returns-then-symbol-eq5-clause-found
returns-then-symbol-eq5-clause-found c =
    subst (λ o. IfOk c.primitive.result (λ found. IsConstantFound c.args.limit o c.primitive.new.table found))
    (equality-constant (declarations_of c.args.source.now) c.args.symbol c.if-symbol-eq5.true) c.primitive.ensures.found

pub returns-then-symbol-eq6-clause-found : goal.returns-then-symbol-eq6-clause-found
returns-then-symbol-eq6-clause-found c =
    subst (λ o. IfOk c.primitive-then-symbol-eq6.result (λ found. IsConstantFound c.args.limit o c.primitive-then-symbol-eq6.new.table found))
    (choice-constant (declarations_of c.args.source.now) c.args.symbol c.if-symbol-eq6.true) c.primitive-then-symbol-eq6.ensures.found

pub returns-in-Some-clause-found : goal.returns-in-Some-clause-found
returns-in-Some-clause-found c =
    let is : IsConstant (input_constant (declarations_of c.args.source.now) c.args.symbol) c.input.new.table c.in-Some.constant =
    subst (λ o. MatchOption o (input_constant (declarations_of c.args.source.now) c.args.symbol ≡ None)
    (IsConstant (input_constant (declarations_of c.args.source.now) c.args.symbol) c.input.new.table)) c.in-Some.is c.in_ok-constant.ensures.found in
    (is.0, other-constant (declarations_of c.args.source.now) c.args.symbol c.if-symbol-eq5.false c.if-symbol-eq6.false _ is.1, is.2)

pub returns-in-None-clause-found : goal.returns-in-None-clause-found
returns-in-None-clause-found c =
    let none : input_constant (declarations_of c.args.source.now) c.args.symbol ≡ None =
    subst (λ o. MatchOption o (input_constant (declarations_of c.args.source.now) c.args.symbol ≡ None)
    (IsConstant (input_constant (declarations_of c.args.source.now) c.args.symbol) c.input.new.table)) c.in-None.is c.in_ok-constant.ensures.found in
    subst (λ o. IfOk c.defined.result (λ found. IsConstantFound c.args.limit o c.defined.new.table found))
    (sym (other-constant (declarations_of c.args.source.now) c.args.symbol c.if-symbol-eq5.false c.if-symbol-eq6.false _ none)) c.defined.ensures.found

pub returns-in_err-constant-clause-keeps : goal.returns-in_err-constant-clause-keeps
returns-in_err-constant-clause-keeps c = c.input.ensures.keeps

pub returns-in-Some-clause-keeps : goal.returns-in-Some-clause-keeps
returns-in-Some-clause-keeps c = c.input.ensures.keeps

pub returns-in-None-clause-keeps : goal.returns-in-None-clause-keeps
returns-in-None-clause-keeps c = Keeps-trans c.input.ensures.keeps c.defined.ensures.keeps
