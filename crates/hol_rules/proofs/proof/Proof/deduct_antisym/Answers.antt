use Rattle.hol_rules.proofs.HypothesisEnds.{deduct_antisym-ends}
use Rattle.hol_rules.proofs.Ends.{ended, step-grown}
use Rattle.hol_rules.proofs.Concluded.{stopped}
use Rattle.hol_rules.proofs.SideLaws.{number_term}
use Rattle.std.proofs.Common.{sym, subst}
use Rattle.hol_spec.specs.Terms.{HasType}
use Rattle.hol_spec.specs.Primitives.{bool}
use Rattle.hol_rules.proofs.proof.Proof.deduct_antisym.Goals as goal

pub equation-requires-clause-left : goal.equation-requires-clause-left
equation-requires-clause-left c = number_term c.args.self.now.trees c.concl-p.result _ bool c.concl-p.ensures.is c.concl-p.ensures.typed

pub equation-requires-clause-right : goal.equation-requires-clause-right
equation-requires-clause-right c = c.concl-q.ensures.is.known

pub apart-requires-clause-one : goal.apart-requires-clause-one
apart-requires-clause-one c = step-grown c.equation.ensures.grows c.args.one c.requires.one

pub apart-requires-clause-two : goal.apart-requires-clause-two
apart-requires-clause-two c = step-grown c.equation.ensures.grows c.args.two c.requires.two

pub conclude-requires-clause-sequent : goal.conclude-requires-clause-sequent
conclude-requires-clause-sequent c =
    (c.in_ok-hyps.ensures.known, (c.in_ok-concl.ensures.made bool (subst (λ t. HasType t bool) (sym c.concl-p.ensures.is.is) c.concl-p.ensures.typed)).known)

pub conclude-requires-clause-follows : goal.conclude-requires-clause-follows
conclude-requires-clause-follows c =
    (deduct_antisym-ends c.args.self.now c.args.one c.args.two c.requires.one c.requires.two c.concl-p.result c.concl-q.result c.concl-p.ensures.is
    c.concl-p.ensures.typed c.concl-q.ensures.is
    c.equation.new.self c.equation.ensures.grows c.in_ok-concl.concl c.in_ok-concl.ensures.made c.in_ok-hyps.hyps c.in_ok-hyps.ensures).follows

pub returns : goal.returns
returns c =
    ended (deduct_antisym-ends c.args.self.now c.args.one c.args.two c.requires.one c.requires.two c.concl-p.result c.concl-q.result c.concl-p.ensures.is
    c.concl-p.ensures.typed c.concl-q.ensures.is
    c.equation.new.self c.equation.ensures.grows c.in_ok-concl.concl c.in_ok-concl.ensures.made c.in_ok-hyps.hyps c.in_ok-hyps.ensures)
    c.conclude.new.self c.conclude.result c.conclude.ensures

pub returns-in_err-concl : goal.returns-in_err-concl
returns-in_err-concl c = stopped c.equation.ensures.grows _ c.from_residual.result c.from_residual.ensures.1

pub returns-in_err-hyps : goal.returns-in_err-hyps
returns-in_err-hyps c = stopped c.equation.ensures.grows _ c.from_residual-in_err-hyps.result c.from_residual-in_err-hyps.ensures.1
