use Rattle.std.proofs.Common.{arith, sym, ◌∙◌}
use Rattle.std.proofs.lemmas.Bool.{eqb-true, OnTrue_at}
use Rattle.lp_kernel.proofs.Filled.{where-true, filled-same, filled-variable, filled-further}
use Rattle.lp_kernel.proofs.spines.+filling.Goals as goal

pub is_filled-returns-then-is_closed_under : goal.is_filled-returns-then-is_closed_under
is_filled-returns-then-is_closed_under t c =
    where-true c.eq.result _
    (λ e. filled-same c.args.base.now.table c.args.b c.args.k c.args.f c.args.found (c.if-is_closed_under.ensures.closed (omega arith))
    (eqb-true c.args.b.0 c.args.found.0 (sym c.eq.ensures ∙ e)))

pub is_filled-returns-in-Argument : goal.is_filled-returns-in-Argument
is_filled-returns-in-Argument t c =
    where-true c.eq-in-Argument.result _
    (λ e. filled-variable c.args.base.now.table c.args.b c.args.k c.args.f c.args.found c.in-Argument.x c.in-Var.n c.in-Var.ensures.is
    c.in-Argument.ensures.1 (eqb-true c.in-Argument.x.0 c.args.found.0 (sym c.eq-in-Argument.ensures ∙ e)))

pub is_filled-returns-in-Variable : goal.is_filled-returns-in-Variable
is_filled-returns-in-Variable t c =
    where-true c.is_variable.result _
    (λ e. filled-further c.args.base.now.table c.args.b c.args.k c.args.f c.args.found c.in-Var.n c.in-Variable.m c.in-Var.ensures.is c.in-Variable.ensures
    (OnTrue_at e c.is_variable.ensures))
