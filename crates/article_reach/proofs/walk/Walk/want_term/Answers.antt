use Rattle.std.proofs.Common.{[], ◌∷◌, refl, subst}
use Rattle.std.proofs.lemmas.List.{append-nil}
use Rattle.std.proofs.lemmas.Result.{on_ok_weaker}
use Rattle.hol_term.specs.Tables.{term_at}
use Rattle.article_reach.specs.declared.walk.Task.TheVariants as task
use Rattle.article_reach.specs.declared.walk.Walk.{Walk}
use Rattle.article_reach.specs.Found.{term_found}
use Rattle.article_reach.specs.Looked.{WalksOn}
use Rattle.article_reach.proofs.Parts.{marks-none}
use Rattle.article_reach.proofs.Wanted.{gains-WalksOn}
use Rattle.article_reach.proofs.walk.Walk.want_term.Goals as goal

pub returns : goal.returns
returns c = on_ok_weaker c.push.result
    (λ put.
    let p = c.args.proof.now in
    let w = c.args.self.now in
    let v : Walk = record w { tasks = c.push.new.self } in
    subst (λ fs. WalksOn p fs w v) (append-nil (term_found (term_at p.trees c.args.term.0)))
    (gains-WalksOn p w v [] (task.Term c.args.term ∷ []) c.requires.walk (marks-none p.trees _ w v refl refl refl refl) (c.requires.known, tt {0}) refl refl
    put))
    c.push.ensures.pushed
