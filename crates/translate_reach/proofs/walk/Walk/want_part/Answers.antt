use Rattle.std.proofs.Common.{[], ◌∷◌, ◌++◌, refl, ap, subst}
use Rattle.std.proofs.lemmas.List.{append-nil}
use Rattle.std.proofs.lemmas.Result.{on_ok_weaker}
use Rattle.hol_type.specs.Tables.{tree_at}
use Rattle.translate_spec.specs.Reach.{type_keys}
use Rattle.translate_reach.specs.declared.walk.Task.TheVariants as task
use Rattle.translate_reach.specs.declared.walk.Walk.{Walk}
use Rattle.translate_reach.specs.MadeItems.{made_items, step_keys, WantsOf}
use Rattle.translate_reach.proofs.Walked.{gains-IsWalk, gains-Wants, Wants-trans}
use Rattle.translate_reach.proofs.Wanted.{no-marks}
use Rattle.translate_reach.proofs.walk.Walk.want_part.Goals as goal

pub returns-clause-walk : goal.returns-clause-walk
returns-clause-walk c = on_ok_weaker c.push.result
    (λ put.
    let p = c.args.proof.now in
    let w = c.want_steps.new.self in
    let v : Walk = record { marks = w.marks; types = w.types; terms = w.terms; tasks = c.push.new.self } in
    let more = task.Type c.args.ty ∷ [] in
    gains-IsWalk p.trees (made_items p.made) w v [] more c.want_steps.ensures.walk
    (no-marks p.trees (made_items p.made) w v more (c.requires.known.1, tt {0}) refl refl refl put))
    c.push.ensures.pushed

pub returns-clause-wants : goal.returns-clause-wants
returns-clause-wants c = on_ok_weaker c.push.result
    (λ put.
    let p = c.args.proof.now in
    let w = c.want_steps.new.self in
    let v : Walk = record { marks = w.marks; types = w.types; terms = w.terms; tasks = c.push.new.self } in
    let more = task.Type c.args.ty ∷ [] in
    let gains = no-marks p.trees (made_items p.made) w v more (c.requires.known.1, tt {0}) refl refl refl put in
    let own = step_keys p (c.args.premise ∷ []) in
    let types = type_keys (tree_at p.trees.types c.args.ty.0) in
    subst (λ ks. WantsOf p ks c.args.self.now v) (ap (λ l. own ++ l) (append-nil types))
    (Wants-trans p.trees (made_items p.made) own (types ++ []) c.args.self.now w v c.want_steps.ensures.wants
    (gains-Wants p.trees (made_items p.made) w v [] more c.want_steps.ensures.walk gains)))
    c.push.ensures.pushed
