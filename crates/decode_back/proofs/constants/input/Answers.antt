use Rattle.std.proofs.Common.{sym, subst, ◌∙◌}
use Rattle.hol_spec.specs.Types.{variable}
use Rattle.hol_spec.specs.ClosedForm.{ClosedType}
use Rattle.hol_type.specs.Tables.{Holds}
use Rattle.hol_term.specs.TableLaws.{Keeps-refl}
use Rattle.lp_term.specs.Tables.{tree_at}
use Rattle.holide_sig.specs.Modules.{declarations_of}
use Rattle.decode_back.proofs.ConstantLemmas.{input-found}
use Rattle.decode_back.proofs.constants.input.Goals as goal

pub returns-in-Ok-clause-found : goal.returns-in-Ok-clause-found
returns-in-Ok-clause-found c = (
  ClosedType.parameter 0,
  input-found (declarations_of c.args.source.now) c.args.symbol c.in-Some.name (tree_at c.args.source.now.table c.symbol_type.result.0) c.is_input_type.result
      (sym c.in-Some.is ∙ c.in_ok-name.ensures) c.symbol_type.ensures.is c.is_input_type.ensures c.if-not-is_input_type.false,
  subst (λ n. Holds c.ty_var.new.self.types c.in-Ok.generic.0 (variable n)) c.in_ok-variable.ensures c.in-Ok.ensures.made,
)

pub returns-in-Ok-clause-keeps : goal.returns-in-Ok-clause-keeps
returns-in-Ok-clause-keeps c = c.ty_var.ensures.keeps

pub returns-in-Err-clause-keeps : goal.returns-in-Err-clause-keeps
returns-in-Err-clause-keeps c = c.ty_var.ensures.keeps

pub returns-in_err-name-clause-keeps : goal.returns-in_err-name-clause-keeps
returns-in_err-name-clause-keeps c = Keeps-refl c.args.table.now

pub returns-in_default-clause-keeps : goal.returns-in_default-clause-keeps
returns-in_default-clause-keeps c = Keeps-refl c.args.table.now

pub returns-then-not-is_input_type-clause-keeps : goal.returns-then-not-is_input_type-clause-keeps
returns-then-not-is_input_type-clause-keeps c = Keeps-refl c.args.table.now

pub returns-in_err-variable-clause-keeps : goal.returns-in_err-variable-clause-keeps
returns-in_err-variable-clause-keeps c = Keeps-refl c.args.table.now
