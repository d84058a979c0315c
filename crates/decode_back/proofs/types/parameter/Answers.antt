use Rattle.std.proofs.Common.{sym, subst, arith}
use Rattle.hol_spec.specs.Types.{variable}
use Rattle.hol_spec.specs.ClosedForm.{ClosedTypes}
use Rattle.hol_type.specs.Tables.{Holds}
use Rattle.hol_term.specs.TableLaws.{Keeps-refl}
use Rattle.decode_back.specs.Walks.{at_place}
use Rattle.decode_back.proofs.TypeWalk.{variable-none, variable-found}
use Rattle.decode_back.proofs.types.parameter.Goals as goal

pub returns-then-variable-depth-clause-decoded : goal.returns-then-variable-depth-clause-decoded
returns-then-variable-depth-clause-decoded c d =
    variable-none d (at_place c.args.place) c.args.level c.args.variable c.depth-depth.result (sym c.depth-depth.ensures)
    (λ l m. omega (arith, l, c.if-variable-depth.true)) ClosedTypes.none

pub returns-in-Ok-clause-decoded : goal.returns-in-Ok-clause-decoded
returns-in-Ok-clause-decoded c d =
    variable-found d (at_place c.args.place) c.args.level c.args.variable c.depth-depth.result (sym c.depth-depth.ensures) c.if-variable-depth.false
    c.if-number-place.false c.ty_var.new.self c.in-Ok.made
    (subst (λ n. Holds c.ty_var.new.self.types c.in-Ok.made.0 (variable n)) c.in_ok-name.ensures c.in-Ok.ensures.made)

pub returns-then-variable-depth-clause-keeps : goal.returns-then-variable-depth-clause-keeps
returns-then-variable-depth-clause-keeps c = Keeps-refl c.args.table.now

pub returns-then-number-place-clause-keeps : goal.returns-then-number-place-clause-keeps
returns-then-number-place-clause-keeps c = Keeps-refl c.args.table.now

pub returns-in_err-name-clause-keeps : goal.returns-in_err-name-clause-keeps
returns-in_err-name-clause-keeps c = Keeps-refl c.args.table.now

pub returns-in-Ok-clause-keeps : goal.returns-in-Ok-clause-keeps
returns-in-Ok-clause-keeps c = c.ty_var.ensures.keeps

pub returns-clause-keeps : goal.returns-clause-keeps
returns-clause-keeps c = c.ty_var.ensures.keeps
