use Rattle.std.proofs.Common.{sym, ◌∙◌}
use Rattle.common.specs.declared.faults.Fault.TheVariants.{Refused}
use Rattle.common.specs.declared.faults.Kind.TheVariants.{VarInHyps}
use Rattle.hol_rules.proofs.FunctionEnds.{abs_thm-ends, abs_thm-free, left_term, left_at_typed, right_is}
use Rattle.hol_rules.proofs.Concluded.{Grows-refl, Grows-trans, refuses, fails-row, refused, stopped}
use Rattle.hol_rules.proofs.Ends.{ended}
use Rattle.hol_rules.proofs.proof.Proof.abs_thm_where.Goals as goal

pub returns-then-free : goal.returns-then-free
returns-then-free c =
    refuses (Grows-refl c.args.self.now) _ (Refused VarInHyps)
    (abs_thm-free c.args.self.now c.args.one c.in_ok-sides.sides c.in_ok-sides.ensures.sides c.args.var.now c.requires.variable
    (sym c.if-free.true ∙ c.requires.free))

pub equation-requires-clause-left : goal.equation-requires-clause-left
equation-requires-clause-left c = left_term c.args.self.now c.args.one c.in_ok-sides.sides c.in_ok-sides.ensures.sides c.args.var.now c.requires.variable
    c.abstraction.new.self c.abstraction-2.new.self c.abstraction.ensures.grows c.abstraction-2.ensures.grows c.in_ok-left.left c.in_ok-right.right
    c.in_ok-left.ensures.made c.in_ok-right.ensures.made

pub equation-requires-clause-right : goal.equation-requires-clause-right
equation-requires-clause-right c =
    (right_is c.args.self.now c.args.one c.in_ok-sides.sides c.in_ok-sides.ensures.sides c.args.var.now c.requires.variable c.abstraction.new.self
    c.abstraction-2.new.self c.abstraction.ensures.grows c.abstraction-2.ensures.grows c.in_ok-left.left c.in_ok-right.right c.in_ok-left.ensures.made
    c.in_ok-right.ensures.made).known

pub conclude-requires-clause-follows : goal.conclude-requires-clause-follows
conclude-requires-clause-follows c =
    (abs_thm-ends c.args.self.now c.args.one c.in_ok-sides.sides c.in_ok-sides.ensures.sides c.args.var.now c.requires.variable c.abstraction.new.self
    c.abstraction-2.new.self c.abstraction.ensures.grows c.abstraction-2.ensures.grows c.in_ok-left.left c.in_ok-right.right c.in_ok-left.ensures.made
    c.in_ok-right.ensures.made
    c.is_proof.ensures c.requires.one (sym c.if-free.false ∙ c.requires.free) c.equation.new.self c.equation.ensures.grows c.in_ok-concl.concl
    c.in_ok-concl.ensures.made c.in_ok-hyps.hyps c.in_ok-hyps.ensures _
    (λ i. record { name = c.in_ok-name.ensures.cases i; ty = c.args.var.now.ty })).follows

pub returns : goal.returns
returns c =
    ended (abs_thm-ends c.args.self.now c.args.one c.in_ok-sides.sides c.in_ok-sides.ensures.sides c.args.var.now c.requires.variable c.abstraction.new.self
    c.abstraction-2.new.self c.abstraction.ensures.grows c.abstraction-2.ensures.grows c.in_ok-left.left c.in_ok-right.right c.in_ok-left.ensures.made
    c.in_ok-right.ensures.made
    c.is_proof.ensures c.requires.one (sym c.if-free.false ∙ c.requires.free) c.equation.new.self c.equation.ensures.grows c.in_ok-concl.concl
    c.in_ok-concl.ensures.made c.in_ok-hyps.hyps c.in_ok-hyps.ensures _ (λ i. record { name = c.in_ok-name.ensures.cases i; ty = c.args.var.now.ty }))
    c.conclude.new.self c.conclude.result c.conclude.ensures

pub returns-in_err-right : goal.returns-in_err-right
returns-in_err-right c = stopped (Grows-trans c.abstraction.ensures.grows c.abstraction-2.ensures.grows) _ c.from_residual-in_err-right.result
    c.from_residual-in_err-right.ensures.1

pub returns-in_err-concl : goal.returns-in_err-concl
returns-in_err-concl c = stopped (Grows-trans (Grows-trans c.abstraction.ensures.grows c.abstraction-2.ensures.grows) c.equation.ensures.grows) _
    c.from_residual-in_err-concl.result c.from_residual-in_err-concl.ensures.1

pub returns-in_err-hyps : goal.returns-in_err-hyps
returns-in_err-hyps c = stopped (Grows-trans (Grows-trans c.abstraction.ensures.grows c.abstraction-2.ensures.grows) c.equation.ensures.grows) _
    c.from_residual-in_err-hyps.result c.from_residual-in_err-hyps.ensures.1

pub returns-in_err-name : goal.returns-in_err-name
returns-in_err-name c = stopped (Grows-trans (Grows-trans c.abstraction.ensures.grows c.abstraction-2.ensures.grows) c.equation.ensures.grows) _
    c.from_residual-in_err-name.result c.from_residual-in_err-name.ensures.1

pub conclude-requires-clause-sequent : goal.conclude-requires-clause-sequent
conclude-requires-clause-sequent c = (
  c.in_ok-hyps.ensures.known,
  (c.in_ok-concl.ensures.made _
      (left_at_typed c.args.self.now c.args.one c.in_ok-sides.sides c.in_ok-sides.ensures.sides c.args.var.now c.requires.variable c.abstraction.new.self
      c.abstraction-2.new.self c.abstraction.ensures.grows c.abstraction-2.ensures.grows c.in_ok-left.left c.in_ok-right.right c.in_ok-left.ensures.made
      c.in_ok-right.ensures.made)).known,
)

pub returns-in_err-sides : goal.returns-in_err-sides
returns-in_err-sides c = refused (Grows-refl c.args.self.now) _ c.from_residual.result c.in_err-sides.field-0.0 c.from_residual.ensures.1
    (fails-row _ _ _ c.in_err-sides.ensures.refused)

pub returns-in_err-left : goal.returns-in_err-left
returns-in_err-left c = stopped c.abstraction.ensures.grows _ c.from_residual-in_err-left.result c.from_residual-in_err-left.ensures.1
