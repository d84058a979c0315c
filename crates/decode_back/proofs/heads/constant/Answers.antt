use Rattle.std.proofs.Common.{subst, arith}
use Rattle.std.proofs.lemmas.Option.{slice_get_within}
use Rattle.hol_term.specs.TableLaws.{Keeps-refl, Keeps-trans}
use Rattle.lp_term.specs.Tables.{trees_at}
use Rattle.holide_sig.specs.Modules.{declaration_in, declarations_of}
use Rattle.decode_spec.specs.Decode.{constant_at as constant_meant}
use Rattle.decode_spec.specs.Opened.{open_type}
use Rattle.decode_back.specs.Walks.{at_place, parameter_name, IsConstant, IsConstantFound}
use Rattle.decode_back.proofs.TypeWalk.{IfOk-weaker}
use Rattle.decode_back.proofs.TermLemmas.{length-map}
use Rattle.decode_back.proofs.ConstantTerms.{undeclared-head, no_constant_here}
use Rattle.decode_back.proofs.heads.constant.Goals as goal

pub returns-then-symbol-len-clause-decoded : goal.returns-then-symbol-len-clause-decoded
returns-then-symbol-len-clause-decoded c types = undeclared-head (declarations_of c.args.source.base.now) (at_place c.args.source.place) types c.args.level
    c.args.budget.now c.args.symbol (trees_at c.args.source.base.now.table c.args.args.now) c.args.budget.now
    (trees_at c.args.source.base.now.table c.args.args.now) c.args.table.now
    (omega (arith, c.if-symbol-len.true, c.len.ensures, length-map (declaration_in c.args.source.base.now.table) c.args.source.base.now.decls))

pub returns-in_default-clause-decoded : goal.returns-in_default-clause-decoded
returns-in_default-clause-decoded c types =
    no_constant_here (declarations_of c.args.source.base.now) (at_place c.args.source.place) types c.args.level c.args.budget.now c.args.symbol
    (trees_at c.args.source.base.now.table c.args.args.now) c.constant_at.new.table c.requires.level
    (subst (IsConstantFound c.args.budget.now (constant_meant (declarations_of c.args.source.base.now) c.args.symbol) c.constant_at.new.table) c.in_default.is
    c.in_ok-constant.ensures.found)

pub at_arguments-found-requires-clause-generic : goal.at_arguments-found-requires-clause-generic
at_arguments-found-requires-clause-generic c =
    let is : IsConstant (constant_meant (declarations_of c.args.source.base.now) c.args.symbol) c.constant_at.new.table c.in-Some.constant =
    subst (IsConstantFound c.args.budget.now (constant_meant (declarations_of c.args.source.base.now) c.args.symbol) c.constant_at.new.table) c.in-Some.is
    c.in_ok-constant.ensures.found in
    slice_get_within c.constant_at.new.table.types c.in-Some.constant.generic.0 (open_type parameter_name is.0) is.2

pub returns-clause-decoded : goal.returns-clause-decoded
returns-clause-decoded c =
    IfOk-weaker _ _ c.at_arguments-found.result c.at_arguments-found.ensures.decoded (λ found h types.
    h c.args.symbol (subst (IsConstantFound c.args.budget.now (constant_meant (declarations_of c.args.source.base.now) c.args.symbol) c.constant_at.new.table)
    c.in-Some.is c.in_ok-constant.ensures.found) types)

pub returns-then-symbol-len-clause-keeps : goal.returns-then-symbol-len-clause-keeps
returns-then-symbol-len-clause-keeps c = Keeps-refl c.args.table.now

pub returns-in_err-constant-clause-keeps : goal.returns-in_err-constant-clause-keeps
returns-in_err-constant-clause-keeps c = c.constant_at.ensures.keeps

pub returns-in_default-clause-keeps : goal.returns-in_default-clause-keeps
returns-in_default-clause-keeps c = c.constant_at.ensures.keeps

pub returns-clause-keeps : goal.returns-clause-keeps
returns-clause-keeps c = Keeps-trans c.constant_at.ensures.keeps c.at_arguments-found.ensures.keeps

pub constant_at-requires-clause-declared : goal.constant_at-requires-clause-declared
constant_at-requires-clause-declared c = omega
    (arith, c.if-symbol-len.false, c.len.ensures, length-map (declaration_in c.args.source.base.now.table) c.args.source.base.now.decls)

pub constant_at-requires-clause-held : goal.constant_at-requires-clause-held
constant_at-requires-clause-held c = c.requires.source.held
