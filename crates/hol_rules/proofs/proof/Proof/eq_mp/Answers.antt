use Rattle.std.proofs.Common.{◌≡◌, arith}
use Rattle.common.specs.declared.faults.Fault.TheVariants.{Refused}
use Rattle.common.specs.declared.faults.Kind.TheVariants.{NotAlike}
use Rattle.hol_rules.proofs.Concluded.{Grows-refl, refuses, fails-row, refused, stopped}
use Rattle.hol_rules.proofs.Ends.{eq_mp-ends, eq_mp-apart, ended}
use Rattle.hol_rules.proofs.proof.Proof.eq_mp.Goals as goal

pub returns-then-ne : goal.returns-then-ne
returns-then-ne c =
    let n : c.concl.result.0 ≡ c.in_ok-sides.sides.left.0 → ⊥ = grind arith in
    refuses (Grows-refl c.args.self.now) _ (Refused NotAlike)
    (eq_mp-apart c.args.self.now c.is_proof.ensures c.args.one c.requires.one c.in_ok-sides.sides c.in_ok-sides.ensures.sides c.args.two c.requires.two
    c.sides.ensures.distinct c.concl.result c.concl.ensures.is n)

pub conclude-requires-clause-follows : goal.conclude-requires-clause-follows
conclude-requires-clause-follows c =
    let e : c.concl.result.0 ≡ c.in_ok-sides.sides.left.0 = grind arith in
    (eq_mp-ends c.args.self.now c.is_proof.ensures c.args.one c.requires.one c.in_ok-sides.sides c.in_ok-sides.ensures.sides c.args.two c.requires.two
    c.concl.result c.concl.ensures.is e c.in_ok-hyps.hyps c.in_ok-hyps.ensures).follows

pub returns : goal.returns
returns c =
    let e : c.concl.result.0 ≡ c.in_ok-sides.sides.left.0 = grind arith in
    ended (eq_mp-ends c.args.self.now c.is_proof.ensures c.args.one c.requires.one c.in_ok-sides.sides c.in_ok-sides.ensures.sides c.args.two c.requires.two
    c.concl.result c.concl.ensures.is e c.in_ok-hyps.hyps c.in_ok-hyps.ensures) c.conclude.new.self c.conclude.result c.conclude.ensures

pub returns-in_err-sides : goal.returns-in_err-sides
returns-in_err-sides c = refused (Grows-refl c.args.self.now) _ c.from_residual.result c.in_err-sides.field-0.0 c.from_residual.ensures.1
    (fails-row _ _ _ c.in_err-sides.ensures.refused)

pub returns-in_err-hyps : goal.returns-in_err-hyps
returns-in_err-hyps c = stopped (Grows-refl c.args.self.now) _ c.from_residual-in_err-hyps.result c.from_residual-in_err-hyps.ensures.1

pub conclude-requires-clause-sequent : goal.conclude-requires-clause-sequent
conclude-requires-clause-sequent c = (c.in_ok-hyps.ensures.known, c.in_ok-sides.ensures.sides.right.known)
