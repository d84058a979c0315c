use Rattle.std.proofs.Common.{◌≡◌, arith}
use Rattle.common.specs.declared.faults.Fault.TheVariants.{Refused}
use Rattle.common.specs.declared.faults.Kind.TheVariants.{NotAlike}
use Rattle.hol_rules.proofs.Concluded.{Grows-refl, refuses, fails-row, refused, stopped}
use Rattle.hol_rules.proofs.Ends.{trans-ends, trans-apart, ended, left_side-term, left_side-typed, step-grown}
use Rattle.hol_rules.proofs.proof.Proof.trans.Goals as goal

pub returns-then-ne : goal.returns-then-ne
returns-then-ne c =
    let n : c.in_ok-second.second.left.0 ≡ c.in_ok-first.first.right.0 → ⊥ = grind arith in
    refuses (Grows-refl c.args.self.now) _ (Refused NotAlike)
    (trans-apart c.args.self.now c.is_proof.ensures c.args.one c.requires.one c.in_ok-first.first c.in_ok-first.ensures.sides c.args.two c.requires.two
    c.in_ok-second.second c.in_ok-second.ensures.sides c.sides.ensures.distinct n)

pub conclude-requires-clause-follows : goal.conclude-requires-clause-follows
conclude-requires-clause-follows c =
    let e : c.in_ok-second.second.left.0 ≡ c.in_ok-first.first.right.0 = grind arith in
    (trans-ends c.args.self.now c.is_proof.ensures c.args.one c.requires.one c.in_ok-first.first c.in_ok-first.ensures.sides c.args.two c.requires.two
    c.in_ok-second.second c.in_ok-second.ensures.sides e c.equation.new.self c.equation.ensures.grows c.in_ok-concl.concl c.in_ok-concl.ensures.made
    c.in_ok-hyps.hyps c.in_ok-hyps.ensures).follows

pub returns : goal.returns
returns c =
    let e : c.in_ok-second.second.left.0 ≡ c.in_ok-first.first.right.0 = grind arith in
    ended (trans-ends c.args.self.now c.is_proof.ensures c.args.one c.requires.one c.in_ok-first.first c.in_ok-first.ensures.sides c.args.two c.requires.two
    c.in_ok-second.second c.in_ok-second.ensures.sides e c.equation.new.self c.equation.ensures.grows c.in_ok-concl.concl c.in_ok-concl.ensures.made
    c.in_ok-hyps.hyps c.in_ok-hyps.ensures)
    c.conclude.new.self c.conclude.result c.conclude.ensures

pub returns-in_err-first : goal.returns-in_err-first
returns-in_err-first c = refused (Grows-refl c.args.self.now) _ c.from_residual.result c.in_err-first.field-0.0 c.from_residual.ensures.1
    (fails-row _ _ _ c.in_err-first.ensures.refused)

pub returns-in_err-second : goal.returns-in_err-second
returns-in_err-second c = refused (Grows-refl c.args.self.now) _ c.from_residual-in_err-second.result c.in_err-second.field-0.0
    c.from_residual-in_err-second.ensures.1 (rw c.in_ok-first.ensures.sides.parts (fails-row _ _ _ c.in_err-second.ensures.refused))

pub returns-in_err-concl : goal.returns-in_err-concl
returns-in_err-concl c = stopped c.equation.ensures.grows _ c.from_residual-in_err-concl.result c.from_residual-in_err-concl.ensures.1

pub returns-in_err-hyps : goal.returns-in_err-hyps
returns-in_err-hyps c = stopped c.equation.ensures.grows _ c.from_residual-in_err-hyps.result c.from_residual-in_err-hyps.ensures.1

pub equation-requires-clause-left : goal.equation-requires-clause-left
equation-requires-clause-left c = left_side-term c.args.self.now c.args.one c.in_ok-first.first c.in_ok-first.ensures.sides

pub equation-requires-clause-right : goal.equation-requires-clause-right
equation-requires-clause-right c = c.in_ok-second.ensures.sides.right.known

pub joined-requires-clause-one : goal.joined-requires-clause-one
joined-requires-clause-one c = step-grown c.equation.ensures.grows c.args.one c.requires.one

pub joined-requires-clause-two : goal.joined-requires-clause-two
joined-requires-clause-two c = step-grown c.equation.ensures.grows c.args.two c.requires.two

pub conclude-requires-clause-sequent : goal.conclude-requires-clause-sequent
conclude-requires-clause-sequent c = (
  c.in_ok-hyps.ensures.known,
  (c.in_ok-concl.ensures.made _ (left_side-typed c.args.self.now c.args.one c.in_ok-first.first c.in_ok-first.ensures.sides)).known,
)
