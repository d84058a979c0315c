use Rattle.std.proofs.Common.{[], ◌∷◌, ◌++◌, map, refl, sym, ap, subst, ◌∙◌, append_assoc}
use Rattle.std.proofs.lemmas.Result.{on_ok_weaker}
use Rattle.translate_reach.specs.declared.walk.Task.TheVariants as task
use Rattle.translate_reach.specs.MadeItems.{made_items, WantsOf}
use Rattle.translate_reach.specs.declared.walk.Walk.{Walk}
use Rattle.translate_reach.specs.Walks.{with_terms}
use Rattle.translate_reach.proofs.Walked.{gains-IsWalk, gains-Wants}
use Rattle.translate_reach.proofs.Wanted.{terms-keys, terms-known, no-marks}
use Rattle.translate_reach.proofs.walk.Walk.want_sequent.Goals as goal

pub returns-clause-walk : goal.returns-clause-walk
returns-clause-walk c = on_ok_weaker c.push_terms.result
    (λ put.
    let p = c.args.proof.now in
    let w = c.args.self.now in
    let s = c.args.sequent.now in
    let v : Walk = record { marks = w.marks; types = w.types; terms = w.terms; tasks = c.push_terms.new.tasks } in
    let more = map task.Term s.hyps ++ task.Term s.concl ∷ [] in
    let tasks = put ∙ ap (λ l. with_terms l c.push.new.self) c.ids.ensures.numbers ∙ ap (λ l. map task.Term s.hyps ++ l) c.in_ok-push.ensures.pushed
    ∙ sym (append_assoc (map task.Term s.hyps) (task.Term s.concl ∷ []) w.tasks) in
    gains-IsWalk p.trees (made_items p.made) w v [] more c.requires.walk
    (no-marks p.trees (made_items p.made) w v more (terms-known p.trees s.hyps s.concl c.requires.known.0 c.requires.known.1) refl refl refl tasks))
    c.push_terms.ensures

pub returns-clause-wants : goal.returns-clause-wants
returns-clause-wants c = on_ok_weaker c.push_terms.result
    (λ put.
    let p = c.args.proof.now in
    let w = c.args.self.now in
    let s = c.args.sequent.now in
    let v : Walk = record { marks = w.marks; types = w.types; terms = w.terms; tasks = c.push_terms.new.tasks } in
    let more = map task.Term s.hyps ++ task.Term s.concl ∷ [] in
    let tasks = put ∙ ap (λ l. with_terms l c.push.new.self) c.ids.ensures.numbers ∙ ap (λ l. map task.Term s.hyps ++ l) c.in_ok-push.ensures.pushed
    ∙ sym (append_assoc (map task.Term s.hyps) (task.Term s.concl ∷ []) w.tasks) in
    subst (λ ks. WantsOf p ks w v) (terms-keys p.trees s.hyps s.concl)
    (gains-Wants p.trees (made_items p.made) w v [] more c.requires.walk
    (no-marks p.trees (made_items p.made) w v more (terms-known p.trees s.hyps s.concl c.requires.known.0 c.requires.known.1) refl refl refl tasks)))
    c.push_terms.ensures
