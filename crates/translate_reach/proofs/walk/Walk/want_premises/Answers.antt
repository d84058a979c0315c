use Rattle.std.proofs.Common.{◌≡◌, ◌++◌, drop, sym, ap, subst, ◌∙◌}
use Rattle.std.proofs.lemmas.Result.{on_ok_weaker}
use Rattle.translate_spec.specs.Reach.{given_keys}
use Rattle.hol_rules.specs.Views.{step_at, parameters_view}
use Rattle.translate_reach.specs.MadeItems.{made_items, numbers_of, step_keys, AreSteps, WantsOf}
use Rattle.translate_reach.proofs.Walked.{Wants-trans}
use Rattle.translate_reach.proofs.Wanted.{premises-AreSteps, drop-AreSteps, rest-is, proof-idle, proof-all}
use Rattle.translate_reach.proofs.walk.Walk.want_premises.Goals as goal

pub want_steps-requires-clause-ids : goal.want_steps-requires-clause-ids
want_steps-requires-clause-ids c =
    let p = c.args.proof.now in
    let steps = subst (AreSteps p) (sym c.premises-premises.ensures) (premises-AreSteps p c.is_proof.ensures c.args.id c.requires.id) in
    subst (AreSteps p) (sym (rest-is c.premises-premises.result.now)) (drop-AreSteps p c.premises-premises.result.now steps)

pub want_steps-requires-2-clause-ids : goal.want_steps-requires-2-clause-ids
want_steps-requires-2-clause-ids c =
    let p = c.args.proof.now in subst (AreSteps p) (sym c.premises-premises.ensures) (premises-AreSteps p c.is_proof.ensures c.args.id c.requires.id)

pub returns-then-is_idle-clause-wants : goal.returns-then-is_idle-clause-wants
returns-then-is_idle-clause-wants c =
    let p = c.args.proof.now in
    let keys = ap (step_keys p) (rest-is c.premises-premises.result.now ∙ ap (drop 1) c.premises-premises.ensures)
    ∙ sym (proof-idle (numbers_of (made_items p.made)) p.made c.args.id (sym c.is_idle.ensures ∙ c.if-is_idle.true)) in
    subst (λ ks. WantsOf p ks c.args.self.now c.want_steps.new.self) keys c.want_steps.ensures.wants

pub returns-clause-wants : goal.returns-clause-wants
returns-clause-wants c = on_ok_weaker c.want_given.result
    (λ wants.
    let p = c.args.proof.now in
    let premises = c.premises-premises.result.now in
    let given = given_keys (parameters_view p.trees c.params.result.now) in
    let keys : step_keys p premises ++ given ≡ step_keys p (step_at p.made c.args.id).premises ++ given_keys (step_at p.made c.args.id).parameters =
    λ i. step_keys p (c.premises-premises.ensures i) ++ given_keys (c.params.ensures.is i) in
    subst (λ ks. WantsOf p ks c.args.self.now c.want_given.new.self)
    (keys ∙ sym (proof-all (numbers_of (made_items p.made)) p.made c.args.id (sym c.is_idle.ensures ∙ c.if-is_idle.false)))
    (Wants-trans p.trees (made_items p.made) (step_keys p premises) given c.args.self.now c.want_steps-2.new.self c.want_given.new.self
    c.want_steps-2.ensures.wants wants))
    c.want_given.ensures.wants
