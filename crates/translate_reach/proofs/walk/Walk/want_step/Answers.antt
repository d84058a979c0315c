use Rattle.std.proofs.Common.{◌≡◌, ◌++◌, sym, ap, subst, ◌∙◌}
use Rattle.std.proofs.lemmas.Result.{on_ok_weaker}
use Rattle.hol_rules.specs.Views.{step_at}
use Rattle.translate_spec.specs.Reach.{sequent_keys}
use Rattle.translate_spec.specs.Rows.{has_row}
use Rattle.sequent.specs.Sequents as numbers
use Rattle.translate_reach.specs.MadeItems.{made_items, numbers_of, proof_keys, WantsOf}
use Rattle.translate_reach.proofs.Walked.{Wants-trans}
use Rattle.translate_reach.proofs.Wanted.{needs-proved, needs-unproved, step-sequent}
use Rattle.translate_reach.proofs.walk.Walk.want_step.Goals as goal

pub returns-then-has_proof-clause-wants : goal.returns-then-has_proof-clause-wants
returns-then-has_proof-clause-wants c = on_ok_weaker c.want_premises.result
    (λ wants.
    let p = c.args.proof.now in
    let id = c.args.id in
    let said = sequent_keys (numbers.sequent_at p.trees c.sequent.result.now) in
    let same = c.sequent.ensures.is ∙ sym (step-sequent p.made id) in
    let row : has_row (step_at p.made id).kind ≡ _ = sym (c.has_proof.ensures ∙ ap has_row c.kind.ensures) ∙ c.if-has_proof.true in
    let keys = ap (λ s. sequent_keys s ++ proof_keys p id) same ∙ sym (needs-proved (numbers_of (made_items p.made)) p.made id row) in
    subst (λ ks. WantsOf p ks c.args.self.now c.want_premises.new.self) keys
    (Wants-trans p.trees (made_items p.made) said (proof_keys p id) c.args.self.now c.want_sequent.new.self c.want_premises.new.self
    c.in_ok-want_sequent.ensures.wants wants))
    c.want_premises.ensures.wants

pub returns-else-has_proof-clause-wants : goal.returns-else-has_proof-clause-wants
returns-else-has_proof-clause-wants c =
    let p = c.args.proof.now in
    let id = c.args.id in
    let same = c.sequent.ensures.is ∙ sym (step-sequent p.made id) in
    let row : has_row (step_at p.made id).kind ≡ _ = sym (c.has_proof.ensures ∙ ap has_row c.kind.ensures) ∙ c.if-has_proof.false in
    subst (λ ks. WantsOf p ks c.args.self.now c.want_sequent.new.self)
    (ap sequent_keys same ∙ sym (needs-unproved (numbers_of (made_items p.made)) p.made id row)) c.in_ok-want_sequent.ensures.wants
