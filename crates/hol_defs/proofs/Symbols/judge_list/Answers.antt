use Rattle.std.proofs.Common.{◌≡◌, sym, subst, ◌∙◌, None}
use Rattle.std.specs.Prelude.{OnOk, IfErr}
use Rattle.hol_defs.specs.Faults.{Refuses}
use Rattle.hol_defs.specs.Lists.{pairs_at, sequent_at}
use Rattle.hol_defs.specs.Symbols.{symbols_at}
use Rattle.hol_defs.proofs.ListFaults.{list_fault-new, list_fault-taken}
use Rattle.hol_defs.proofs.Symbols.judge_list.Goals as goal

pub returns-then-has_taken-clause-refusal : goal.returns-then-has_taken-clause-refusal
returns-then-has_taken-clause-refusal c =
    let trees = c.args.table.now in
    list_fault-taken (symbols_at trees c.args.self.now) (pairs_at trees c.args.pairs.now) (sequent_at trees c.args.hyps.now c.args.concl)
    (sym c.has_taken.ensures ∙ c.if-has_taken.true)

pub returns-clause-defined : goal.returns-clause-defined
returns-clause-defined c = c.judge_definitions-terms.ensures.defined

pub returns-clause-fits : goal.returns-clause-fits
returns-clause-fits c =
    let trees = c.args.table.now in
    let new = list_fault-new (symbols_at trees c.args.self.now) (pairs_at trees c.args.pairs.now) (sequent_at trees c.args.hyps.now c.args.concl)
    (sym c.has_taken.ensures ∙ c.if-has_taken.false) in
    subst (λ f. OnOk c.judge_definitions-terms.result (f ≡ None)) (sym new) c.judge_definitions-terms.ensures.fits

pub returns-clause-refusal : goal.returns-clause-refusal
returns-clause-refusal c =
    let trees = c.args.table.now in
    let new = list_fault-new (symbols_at trees c.args.self.now) (pairs_at trees c.args.pairs.now) (sequent_at trees c.args.hyps.now c.args.concl)
    (sym c.has_taken.ensures ∙ c.if-has_taken.false) in
    subst (λ f. IfErr c.judge_definitions-terms.result (λ fault. Refuses fault f)) (sym new) c.judge_definitions-terms.ensures.refusal
