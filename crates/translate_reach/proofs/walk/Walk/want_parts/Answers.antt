use Rattle.std.proofs.Common.{[], ◌∷◌, refl}
use Rattle.std.proofs.lemmas.Result.{on_ok_weaker}
use Rattle.translate_reach.specs.declared.walk.Task.TheVariants as task
use Rattle.translate_reach.specs.declared.walk.Walk.{Walk}
use Rattle.translate_reach.specs.MadeItems.{made_items}
use Rattle.translate_reach.proofs.Walked.{gains-IsWalk}
use Rattle.translate_reach.proofs.Wanted.{no-marks}
use Rattle.translate_reach.proofs.walk.Walk.want_parts.Goals as goal

pub returns-in-Term-clause-walk : goal.returns-in-Term-clause-walk
returns-in-Term-clause-walk c = on_ok_weaker c.push.result
    (λ put.
    let p = c.args.proof.now in
    let w = c.args.self.now in
    let v : Walk = record { marks = w.marks; types = w.types; terms = w.terms; tasks = c.push.new.self } in
    let more = task.Term c.in-Term.id ∷ [] in
    gains-IsWalk p.trees (made_items p.made) w v [] more c.requires.walk
    (no-marks p.trees (made_items p.made) w v more (rw c.in-Term.is at c.requires.known, tt {0}) refl refl refl put))
    c.push.ensures.pushed
