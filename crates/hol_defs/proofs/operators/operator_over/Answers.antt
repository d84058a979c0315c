use Rattle.std.proofs.Common.{ap, sym, subst, ◌∙◌}
use Rattle.hol_spec.specs.Types.{operator, types_of}
use Rattle.hol_type.specs.Tables as type
use Rattle.hol_type.specs.TableLaws.{Holds-tree_at}
use Rattle.hol_term.specs.TableLaws.{Keeps-trans}
use Rattle.hol_defs.proofs.operators.operator_over.Goals as goal

pub returns-in_err-push_variables-clause-keeps : goal.returns-in_err-push_variables-clause-keeps
returns-in_err-push_variables-clause-keeps c = c.in_err-push_variables.ensures.keeps

pub ty_op-requires : goal.ty_op-requires
ty_op-requires c = subst (type.AreKnown c.push_variables.new.table.types) (sym c.deref.ensures.value) c.in_ok-push_variables.ensures.known

pub returns-in_default-clause-keeps : goal.returns-in_default-clause-keeps
returns-in_default-clause-keeps c = Keeps-trans c.in_ok-push_variables.ensures.keeps c.in_default.ensures.keeps

pub returns-clause-made : goal.returns-clause-made
returns-clause-made c =
    Holds-tree_at c.ty_op.new.self.types c.in-Ok.part.0 (operator c.args.op.now (types_of (type.types_at c.push_variables.new.table.types c.deref.result.now)))
    c.in-Ok.ensures.made ∙ ap (λ l. operator c.args.op.now (types_of l))
    (ap (type.types_at c.push_variables.new.table.types) c.deref.ensures.value ∙ c.in_ok-push_variables.ensures.made)

pub returns-clause-keeps : goal.returns-clause-keeps
returns-clause-keeps c = Keeps-trans c.in_ok-push_variables.ensures.keeps c.in-Ok.ensures.keeps
