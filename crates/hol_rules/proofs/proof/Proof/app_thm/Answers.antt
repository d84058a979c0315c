use Rattle.std.proofs.Common.{sym, ◌∙◌}
use Rattle.common.specs.declared.faults.Fault.TheVariants.{Refused}
use Rattle.common.specs.declared.faults.Kind.TheVariants.{TypeMismatch}
use Rattle.hol_rules.proofs.FunctionEnds.{app_thm-ends, app_thm-mismatch, first_term, first_at_typed, number-grown}
use Rattle.hol_rules.proofs.Concluded.{Grows-trans, refuses, Grows-refl, fails-row, refused, stopped}
use Rattle.hol_rules.proofs.Ends.{ended, step-grown}
use Rattle.hol_rules.proofs.proof.Proof.app_thm.Goals as goal

pub returns-then-not-is_typed : goal.returns-then-not-is_typed
returns-then-not-is_typed c = refuses c.application.ensures.grows _ (Refused TypeMismatch)
    (app_thm-mismatch c.args.self.now c.args.one c.args.two c.in_ok-functions.functions c.in_ok-arguments.arguments c.in_ok-functions.ensures.sides
    c.in_ok-arguments.ensures.sides c.application.new.self c.application.ensures.grows c.in_ok-left.left c.in_ok-left.ensures.made
    (sym c.is_typed.ensures ∙ c.if-not-is_typed.true))

pub equation-requires-clause-left : goal.equation-requires-clause-left
equation-requires-clause-left c = first_term c.args.self.now c.args.one c.args.two c.in_ok-functions.functions c.in_ok-arguments.arguments
    c.in_ok-functions.ensures.sides c.in_ok-arguments.ensures.sides c.application.new.self c.application.ensures.grows c.in_ok-left.left
    c.in_ok-left.ensures.made (sym c.is_typed.ensures ∙ c.if-not-is_typed.false) c.application-2.new.self c.application-2.ensures.grows

pub conclude-requires-clause-follows : goal.conclude-requires-clause-follows
conclude-requires-clause-follows c =
    (app_thm-ends c.args.self.now c.args.one c.args.two c.in_ok-functions.functions c.in_ok-arguments.arguments c.in_ok-functions.ensures.sides
    c.in_ok-arguments.ensures.sides c.application.new.self c.application.ensures.grows c.in_ok-left.left c.in_ok-left.ensures.made c.application-2.new.self
    c.application-2.ensures.grows c.in_ok-right.right c.in_ok-right.ensures.made
    c.is_proof.ensures c.requires.one c.requires.two (sym c.is_typed.ensures ∙ c.if-not-is_typed.false) c.equation.new.self c.equation.ensures.grows
    c.in_ok-concl.concl c.in_ok-concl.ensures.made c.in_ok-hyps.hyps c.in_ok-hyps.ensures).follows

pub returns : goal.returns
returns c =
    ended (app_thm-ends c.args.self.now c.args.one c.args.two c.in_ok-functions.functions c.in_ok-arguments.arguments c.in_ok-functions.ensures.sides
    c.in_ok-arguments.ensures.sides c.application.new.self c.application.ensures.grows c.in_ok-left.left c.in_ok-left.ensures.made c.application-2.new.self
    c.application-2.ensures.grows c.in_ok-right.right c.in_ok-right.ensures.made
    c.is_proof.ensures c.requires.one c.requires.two (sym c.is_typed.ensures ∙ c.if-not-is_typed.false) c.equation.new.self c.equation.ensures.grows
    c.in_ok-concl.concl c.in_ok-concl.ensures.made c.in_ok-hyps.hyps c.in_ok-hyps.ensures)
    c.conclude.new.self c.conclude.result c.conclude.ensures

pub returns-in_err-hyps : goal.returns-in_err-hyps
returns-in_err-hyps c = stopped (Grows-trans (Grows-trans c.application.ensures.grows c.application-2.ensures.grows) c.equation.ensures.grows) _
    c.from_residual-in_err-hyps.result c.from_residual-in_err-hyps.ensures.1

pub conclude-requires-clause-sequent : goal.conclude-requires-clause-sequent
conclude-requires-clause-sequent c =
    let t = first_at_typed c.args.self.now c.args.one c.args.two c.in_ok-functions.functions c.in_ok-arguments.arguments c.in_ok-functions.ensures.sides
    c.in_ok-arguments.ensures.sides c.application.new.self c.application.ensures.grows c.in_ok-left.left c.in_ok-left.ensures.made
    (sym c.is_typed.ensures ∙ c.if-not-is_typed.false) c.application-2.new.self c.application-2.ensures.grows in
    (c.in_ok-hyps.ensures.known, (c.in_ok-concl.ensures.made t.0 t.1).known)

pub returns-in_err-functions : goal.returns-in_err-functions
returns-in_err-functions c = refused (Grows-refl c.args.self.now) _ c.from_residual.result c.in_err-functions.field-0.0 c.from_residual.ensures.1
    (fails-row _ _ _ c.in_err-functions.ensures.refused)

pub returns-in_err-arguments : goal.returns-in_err-arguments
returns-in_err-arguments c = refused (Grows-refl c.args.self.now) _ c.from_residual-in_err-arguments.result c.in_err-arguments.field-0.0
    c.from_residual-in_err-arguments.ensures.1 (rw c.in_ok-functions.ensures.sides.parts (fails-row _ _ _ c.in_err-arguments.ensures.refused))

pub returns-in_err-left : goal.returns-in_err-left
returns-in_err-left c = stopped c.application.ensures.grows _ c.from_residual-in_err-left.result c.from_residual-in_err-left.ensures.1

pub returns-in_err-right : goal.returns-in_err-right
returns-in_err-right c = stopped (Grows-trans c.application.ensures.grows c.application-2.ensures.grows) _ c.from_residual-in_err-right.result
    c.from_residual-in_err-right.ensures.1

pub returns-in_err-concl : goal.returns-in_err-concl
returns-in_err-concl c = stopped (Grows-trans (Grows-trans c.application.ensures.grows c.application-2.ensures.grows) c.equation.ensures.grows) _
    c.from_residual-in_err-concl.result c.from_residual-in_err-concl.ensures.1

pub application-requires-clause-function : goal.application-requires-clause-function
application-requires-clause-function c = c.in_ok-functions.ensures.sides.left.known

pub application-requires-clause-argument : goal.application-requires-clause-argument
application-requires-clause-argument c = c.in_ok-arguments.ensures.sides.left.known

pub is_typed-requires : goal.is_typed-requires
is_typed-requires c = c.in_ok-left.ensures.made.known

pub application-requires-2-clause-function : goal.application-requires-2-clause-function
application-requires-2-clause-function c = (number-grown c.application.ensures.grows c.in_ok-functions.ensures.sides.right).known

pub application-requires-2-clause-argument : goal.application-requires-2-clause-argument
application-requires-2-clause-argument c = (number-grown c.application.ensures.grows c.in_ok-arguments.ensures.sides.right).known

pub equation-requires-clause-right : goal.equation-requires-clause-right
equation-requires-clause-right c = c.in_ok-right.ensures.made.known

pub joined-requires-clause-one : goal.joined-requires-clause-one
joined-requires-clause-one c = step-grown (Grows-trans (Grows-trans c.application.ensures.grows c.application-2.ensures.grows) c.equation.ensures.grows)
    c.args.one c.requires.one

pub joined-requires-clause-two : goal.joined-requires-clause-two
joined-requires-clause-two c = step-grown (Grows-trans (Grows-trans c.application.ensures.grows c.application-2.ensures.grows) c.equation.ensures.grows)
    c.args.two c.requires.two
