use Rattle.std.proofs.Common.{sym, subst, ◌∙◌}
use Rattle.hol_spec.specs.Sequents.{IsSequent}
use Rattle.hol_spec.specs.Proofs.{sequent_at}
use Rattle.hol_defs.specs.Faults.{Refuses}
use Rattle.hol_defs.specs.Lists.{pairs_at}
use Rattle.hol_rules.specs.Views.{made_view}
use Rattle.hol_rules.proofs.ListConditions.{list-fails}
use Rattle.hol_rules.proofs.ListTaken.{hyps-terms, concl-term, list-judged}
use Rattle.hol_rules.proofs.RuleSteps.{said}
use Rattle.hol_rules.proofs.proof.Proof.judge_list.Goals as goal
use Rattle.hol_rules.proofs.proof.Proof.judge_list.Goals.{in-Ok, in-Err}

pub judge_list-requires-clause-hyps : goal.judge_list-requires-clause-hyps
judge_list-requires-clause-hyps c =
    let typed = subst IsSequent (sym c.sequent-sequent.ensures.is) (said c.args.self.now.made c.is_proof.ensures c.args.one c.requires.one) in
    let h = rw (← c.self.view_is) at typed in
    rw c.ids.ensures.numbers (hyps-terms c.self.inside.terms c.sequent-sequent.result.now h)

pub judge_list-requires-clause-concl : goal.judge_list-requires-clause-concl
judge_list-requires-clause-concl c =
    let typed = subst IsSequent (sym c.sequent-sequent.ensures.is) (said c.args.self.now.made c.is_proof.ensures c.args.one c.requires.one) in
    let h = rw (← c.self.view_is) at typed in
    concl-term c.self.inside.terms c.sequent-sequent.result.now h

pub returns-clause-fits : goal.returns-clause-fits
returns-clause-fits c =
    let trees = c.self.inside.terms in
    let made = made_view trees c.self.inside.symbols c.self.inside.steps.items c.self.inside.made.items in
    let is = rw (← c.self.view_is) at c.sequent-sequent.ensures.is in
    elim c.match-judge_list.branch [
      | in-Ok w ↦ rw (w.result-is, ← c.self.view_is) (
          list-judged trees c.self.inside.symbols made c.args.pairs.now c.sequent-sequent.result.now c.ids.result.now (sequent_at made c.args.one)
          c.self.invariant.symbols_taken c.ids.ensures.numbers is ∙ w.in-Ok.ensures.fits
          )
      | in-Err w ↦ rw w.result-is tt
    ]

pub returns-clause-refused : goal.returns-clause-refused
returns-clause-refused c =
    let trees = c.self.inside.terms in
    let made = made_view trees c.self.inside.symbols c.self.inside.steps.items c.self.inside.made.items in
    let is = rw (← c.self.view_is) at c.sequent-sequent.ensures.is in
    elim c.match-judge_list.branch [
      | in-Ok w ↦ rw w.result-is tt
      | in-Err w ↦ rw (w.result-is, ← c.self.view_is) (
          list-fails made (pairs_at trees c.args.pairs.now) c.args.one w.in-Err.fault
          (subst (Refuses w.in-Err.fault)
          (sym (list-judged trees c.self.inside.symbols made c.args.pairs.now c.sequent-sequent.result.now c.ids.result.now (sequent_at made c.args.one)
          c.self.invariant.symbols_taken c.ids.ensures.numbers is)) w.in-Err.ensures.refusal)
          )
    ]
