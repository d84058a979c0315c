use Rattle.std.proofs.Common.{◌≡◌, None, sym, subst, IfErr, OnOk}
use Rattle.hol_defs.specs.Faults.{operator_fault, Refuses}
use Rattle.hol_term.specs.Tables.{term_at}
use Rattle.hol_rules.specs.Laws.{named_by}
use Rattle.hol_rules.proofs.proof.Proof.judge_type.Goals as goal

pub returns-clause-fits : goal.returns-clause-fits
returns-clause-fits c =
    let names = named_by c.args.names in
    let f = term_at c.self.inside.terms c.args.predicate.0 in
    rw (← c.self.view_is) (subst (λ ss. OnOk c.judge_op.result (operator_fault ss names f ≡ None)) (sym c.self.invariant.symbols_taken) c.judge_op.ensures.fits)

pub returns-clause-refusal : goal.returns-clause-refusal
returns-clause-refusal c =
    let names = named_by c.args.names in
    let f = term_at c.self.inside.terms c.args.predicate.0 in
    rw (← c.self.view_is)
    (subst (λ ss. IfErr c.judge_op.result (λ fault. Refuses fault (operator_fault ss names f))) (sym c.self.invariant.symbols_taken)
    c.judge_op.ensures.refusal)
