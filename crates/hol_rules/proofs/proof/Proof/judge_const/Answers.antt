use Rattle.std.proofs.Common.{◌≡◌, None, sym, subst, IfErr, OnOk}
use Rattle.hol_defs.specs.Faults.{constant_fault, Refuses}
use Rattle.hol_term.specs.Tables.{term_at}
use Rattle.hol_rules.specs.Views.{made_view}
use Rattle.hol_rules.proofs.ConstantEnds.{const-refuses}
use Rattle.hol_rules.proofs.proof.Proof.judge_const.Goals as goal

pub returns-clause-fits : goal.returns-clause-fits
returns-clause-fits c =
    let t = term_at c.self.inside.terms c.args.t.0 in
    rw (← c.self.view_is)
    (subst (λ ss. OnOk c.judge_const.result (constant_fault ss c.args.name.now t ≡ None)) (sym c.self.invariant.symbols_taken) c.judge_const.ensures.fits)

pub returns-clause-refused : goal.returns-clause-refused
returns-clause-refused c =
    let t = term_at c.self.inside.terms c.args.t.0 in
    let h = rw (← c.self.view_is) at c.requires in
    rw (← c.self.view_is) (
    const-refuses (made_view c.self.inside.terms c.self.inside.symbols c.self.inside.steps.items c.self.inside.made.items) c.args.name.now t h
    c.judge_const.result
    (subst (λ ss. IfErr c.judge_const.result (λ fault. Refuses fault (constant_fault ss c.args.name.now t))) (sym c.self.invariant.symbols_taken)
    c.judge_const.ensures.refusal)
    )
