use Rattle.std.proofs.Common.{[], ◌∷◌, refl, ap, subst}
use Rattle.std.proofs.lemmas.List.{append-nil}
use Rattle.std.proofs.lemmas.Result.{on_ok_weaker}
use Rattle.hol_term.specs.Tables.{type_at}
use Rattle.article_reach.specs.declared.walk.Task.TheVariants as task
use Rattle.article_reach.specs.declared.walk.Walk.{Walk}
use Rattle.article_reach.specs.Found.{Found, type_found}
use Rattle.article_reach.specs.Looked.{WalksOn}
use Rattle.article_reach.proofs.Parts.{marks-variable}
use Rattle.article_reach.proofs.Wanted.{gains-WalksOn}
use Rattle.article_reach.proofs.walk.Walk.want_variable.Goals as goal

pub returns : goal.returns
returns c = on_ok_weaker c.push.result
    (λ put.
    let p = c.args.proof.now in
    let w = c.args.self.now in
    let x = c.args.variable.now in
    let v : Walk = record w { numbers = c.note_variable.new.numbers; tasks = c.push.new.self } in
    subst (λ fs. WalksOn p fs w v) (ap (λ l. Found.named x.name ∷ l) (append-nil (type_found (type_at p.trees x.ty.0))))
    (gains-WalksOn p w v (Found.named x.name ∷ []) (task.Type x.ty ∷ []) c.requires.walk
    (marks-variable p.trees _ w v x.name refl refl refl c.in_ok-note_variable.ensures) (c.requires.known, tt {0}) refl refl put))
    c.push.ensures.pushed
