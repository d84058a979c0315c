use Rattle.hol_rules.proofs.Ends.{sym-ends, ended, right_side-term, right_side-typed, step-grown}
use Rattle.hol_rules.proofs.Concluded.{Grows-refl, fails-row, refused, stopped}
use Rattle.hol_rules.proofs.proof.Proof.sym.Goals as goal

pub conclude-requires-clause-follows : goal.conclude-requires-clause-follows
conclude-requires-clause-follows c =
    (sym-ends c.args.self.now c.is_proof.ensures c.args.one c.requires c.in_ok-sides.sides c.in_ok-sides.ensures.sides c.equation.new.self
    c.equation.ensures.grows c.in_ok-concl.concl c.in_ok-concl.ensures.made c.in_ok-hyps.hyps c.in_ok-hyps.ensures).follows

pub returns : goal.returns
returns c =
    ended (sym-ends c.args.self.now c.is_proof.ensures c.args.one c.requires c.in_ok-sides.sides c.in_ok-sides.ensures.sides c.equation.new.self
    c.equation.ensures.grows c.in_ok-concl.concl c.in_ok-concl.ensures.made c.in_ok-hyps.hyps c.in_ok-hyps.ensures)
    c.conclude.new.self c.conclude.result c.conclude.ensures

pub returns-in_err-sides : goal.returns-in_err-sides
returns-in_err-sides c = refused (Grows-refl c.args.self.now) _ c.from_residual.result c.in_err-sides.field-0.0 c.from_residual.ensures.1
    (fails-row _ _ _ c.in_err-sides.ensures.refused)

pub returns-in_err-concl : goal.returns-in_err-concl
returns-in_err-concl c = stopped c.equation.ensures.grows _ c.from_residual-in_err-concl.result c.from_residual-in_err-concl.ensures.1

pub returns-in_err-hyps : goal.returns-in_err-hyps
returns-in_err-hyps c = stopped c.equation.ensures.grows _ c.from_residual-in_err-hyps.result c.from_residual-in_err-hyps.ensures.1

pub equation-requires-clause-left : goal.equation-requires-clause-left
equation-requires-clause-left c = right_side-term c.args.self.now c.args.one c.in_ok-sides.sides c.in_ok-sides.ensures.sides

pub equation-requires-clause-right : goal.equation-requires-clause-right
equation-requires-clause-right c = c.in_ok-sides.ensures.sides.left.known

pub hyps-requires : goal.hyps-requires
hyps-requires c = step-grown c.equation.ensures.grows c.args.one c.requires

pub conclude-requires-clause-sequent : goal.conclude-requires-clause-sequent
conclude-requires-clause-sequent c = (
  c.in_ok-hyps.ensures.known,
  (c.in_ok-concl.ensures.made _ (right_side-typed c.args.self.now c.args.one c.in_ok-sides.sides c.in_ok-sides.ensures.sides)).known,
)
