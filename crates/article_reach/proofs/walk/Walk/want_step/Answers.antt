use Rattle.std.proofs.Common.{◌≡◌, ◌++◌, sym, ap, ap₂, subst, ◌∙◌}
use Rattle.std.proofs.lemmas.Result.{on_ok_weaker}
use Rattle.hol_rules.specs.Views.{step_at, parameters_view}
use Rattle.sequent.specs.Sequents as numbers
use Rattle.article_lines.specs.EarlierPremises.{premises-earlier}
use Rattle.article_reach.proofs.StepSequents.{step-sequent}
use Rattle.article_reach.specs.Found.{given_found, sequent_found, steps_found, step_found}
use Rattle.article_reach.specs.Looked.{AreSteps, WalksOn}
use Rattle.article_reach.proofs.Wanted.{trans-WalksOn}
use Rattle.article_reach.proofs.walk.Walk.want_step.Goals as goal

pub want_steps-requires-clause-ids : goal.want_steps-requires-clause-ids
want_steps-requires-clause-ids c =
    let p = c.args.proof.now in subst (AreSteps p) (sym c.premises.ensures) (premises-earlier p.made c.args.id _ c.is_proof.ensures c.requires.id)

pub returns : goal.returns
returns c = on_ok_weaker c.want_sequent.result
    (λ walks.
    let p = c.args.proof.now in
    let id = c.args.id in
    let steps = steps_found c.premises.result.now in
    let given = given_found (parameters_view p.trees c.params.result.now) in
    let said = sequent_found (numbers.sequent_at p.trees c.sequent.result.now) in
    let same : steps ++ (given ++ said) ≡ step_found (step_at p.made id) =
    ap₂ (λ fs gs. fs ++ gs) (ap steps_found c.premises.ensures)
    (ap₂ (λ fs gs. fs ++ gs) (ap given_found c.params.ensures.is) (ap sequent_found (c.sequent.ensures.is ∙ sym (step-sequent p.made id)))) in
    subst (λ fs. WalksOn p fs c.args.self.now c.want_sequent.new.self) same
    (trans-WalksOn p steps (given ++ said) c.args.self.now c.want_steps.new.self c.want_sequent.new.self c.want_steps.ensures.walks
    (trans-WalksOn p given said c.want_steps.new.self c.want_given.new.self c.want_sequent.new.self c.in_ok-want_given.ensures walks)))
    c.want_sequent.ensures
