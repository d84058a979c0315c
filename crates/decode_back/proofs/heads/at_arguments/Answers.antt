use Rattle.std.proofs.Common.{◌≡◌, sym, subst, arith}
use Rattle.std.specs.Prelude.{IfSome}
use Rattle.std.specs.declared.vec.Vec.{Vec}
use Rattle.std.specs.declared.alloc.Global.{Global}
use Rattle.hol_spec.specs.Names.{Name}
use Rattle.hol_spec.specs.Substitution.{substitute}
use Rattle.hol_type.specs.declared.table.TypeId.{TypeId}
use Rattle.hol_type.specs.Tables.{pairs_at, ArePairsKnown}
use Rattle.hol_term.specs.Tables.{type_at}
use Rattle.hol_term.specs.TableLaws.{Keeps-trans}
use Rattle.lp_term.specs.Tables.{trees_at}
use Rattle.holide_sig.specs.Modules.{declarations_of}
use Rattle.decode_spec.specs.Opened.{open_type}
use Rattle.decode_back.specs.Walks.{at_place, parameter_name}
use Rattle.decode_back.specs.TermWalks.{AreTypeArguments, AreTaken}
use Rattle.decode_back.proofs.TypeWalk.{IfOk-weaker, OnOk-always}
use Rattle.decode_back.proofs.ConstantTerms.{lacks_types, type-held, constant-head}
use Rattle.decode_back.proofs.heads.at_arguments.Goals as goal

pub returns-in_default-clause-decoded : goal.returns-in_default-clause-decoded
returns-in_default-clause-decoded c symbol is types =
    lacks_types (declarations_of c.args.source.base.now) (at_place c.args.source.place) types c.args.level c.args.budget.now symbol
    (trees_at c.args.source.base.now.table c.args.args.now)
    c.args.constant.now.name c.args.constant.now.variables is.0 is.1 c.requires.budget
    (subst (AreTypeArguments c.args.level (declarations_of c.args.source.base.now) (at_place c.args.source.place) c.args.constant.now.variables
    (trees_at c.args.source.base.now.table c.args.args.now) (trees_at c.args.source.base.now.table c.type_arguments.new.args)
    c.type_arguments.new.table) c.in_default.is c.in_ok-pairs.ensures.types)

pub instance-found-requires-clause-generic : goal.instance-found-requires-clause-generic
instance-found-requires-clause-generic c = omega (arith, c.requires.generic, c.type_arguments.ensures.keeps.types.longer)

pub returns-clause-decoded : goal.returns-clause-decoded
returns-clause-decoded c =
    IfOk-weaker _ _ c.instance-found.result c.instance-found.ensures.made (λ found made symbol is types.
    let taken : AreTaken (declarations_of c.args.source.base.now) (at_place c.args.source.place) c.args.constant.now.variables
    (trees_at c.args.source.base.now.table c.args.args.now) (trees_at c.args.source.base.now.table c.type_arguments.new.args)
    (pairs_at c.type_arguments.new.table.types c.in-Some.pairs.items) =
    subst (AreTypeArguments c.args.level (declarations_of c.args.source.base.now) (at_place c.args.source.place) c.args.constant.now.variables
    (trees_at c.args.source.base.now.table c.args.args.now) (trees_at c.args.source.base.now.table c.type_arguments.new.args)
    c.type_arguments.new.table) c.in-Some.is c.in_ok-pairs.ensures.types in
    let held : type_at c.type_arguments.new.table c.args.constant.now.generic.0 ≡ open_type parameter_name is.0 =
    type-held c.args.table.now c.type_arguments.new.table c.args.constant.now.generic.0 (open_type parameter_name is.0) c.type_arguments.ensures.keeps is.2 in
    constant-head (declarations_of c.args.source.base.now) (at_place c.args.source.place) types c.args.level c.args.budget.now symbol
    (trees_at c.args.source.base.now.table c.args.args.now)
    c.args.constant.now.name c.args.constant.now.variables is.0 is.1 (trees_at c.args.source.base.now.table c.type_arguments.new.args)
    (pairs_at c.type_arguments.new.table.types c.in-Some.pairs.items) taken c.instance-found.new.budget
    (substitute (pairs_at c.type_arguments.new.table.types c.deref.result.now) (type_at c.type_arguments.new.table c.args.constant.now.generic.0))
    c.instance-found.new.table found c.requires.budget c.requires.level
    (λ i. substitute (pairs_at c.type_arguments.new.table.types (c.deref.ensures.value i)) (held i)) made)

pub returns-in_err-pairs-clause-keeps : goal.returns-in_err-pairs-clause-keeps
returns-in_err-pairs-clause-keeps c = c.type_arguments.ensures.keeps

pub returns-in_default-clause-keeps : goal.returns-in_default-clause-keeps
returns-in_default-clause-keeps c = c.type_arguments.ensures.keeps

pub returns-clause-keeps : goal.returns-clause-keeps
returns-clause-keeps c = Keeps-trans c.type_arguments.ensures.keeps c.instance-found.ensures.keeps

pub returns-clause-args : goal.returns-clause-args
returns-clause-args c = OnOk-always _ c.instance-found.result c.in_ok-pairs.ensures.args

pub instance-found-requires-clause-pairs : goal.instance-found-requires-clause-pairs
instance-found-requires-clause-pairs c =
    subst (ArePairsKnown c.type_arguments.new.table.types) (sym c.deref.ensures.value)
    (subst (λ o. IfSome o (λ (pairs : Vec (Name × TypeId) Global). ArePairsKnown c.type_arguments.new.table.types pairs.items)) c.in-Some.is
    c.in_ok-pairs.ensures.known)

pub returns-clause-budget : goal.returns-clause-budget
returns-clause-budget c = c.instance-found.ensures.budget
