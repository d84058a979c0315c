use Rattle.std.proofs.Common.{[], ◌∷◌, ◌++◌, map, refl, sym, ap, subst, ◌∙◌, append_assoc}
use Rattle.std.proofs.lemmas.Result.{on_ok_weaker}
use Rattle.article_reach.specs.declared.walk.Task.TheVariants as task
use Rattle.article_reach.specs.declared.walk.Walk.{Walk}
use Rattle.article_reach.specs.Looked.{WalksOn}
use Rattle.article_reach.specs.Walks.{with_terms}
use Rattle.article_reach.proofs.Parts.{marks-none}
use Rattle.article_reach.proofs.Wanted.{gains-WalksOn, terms-found, terms-known}
use Rattle.article_reach.proofs.walk.Walk.want_sequent.Goals as goal

pub returns : goal.returns
returns c = on_ok_weaker c.push_terms.result
    (λ put.
    let p = c.args.proof.now in
    let w = c.args.self.now in
    let s = c.args.sequent.now in
    let v : Walk = record w { tasks = c.push_terms.new.tasks } in
    let more = map task.Term s.hyps ++ task.Term s.concl ∷ [] in
    let tasks = put ∙ ap (λ l. with_terms l c.push.new.self) c.ids.ensures.numbers ∙ ap (λ l. map task.Term s.hyps ++ l) c.in_ok-push.ensures.pushed
    ∙ sym (append_assoc (map task.Term s.hyps) (task.Term s.concl ∷ []) w.tasks) in
    subst (λ fs. WalksOn p fs w v) (terms-found p.trees s.hyps s.concl)
    (gains-WalksOn p w v [] more c.requires.walk (marks-none p.trees _ w v refl refl refl refl)
    (terms-known p.trees s.hyps s.concl c.requires.known.0 c.requires.known.1) refl refl tasks))
    c.push_terms.ensures
