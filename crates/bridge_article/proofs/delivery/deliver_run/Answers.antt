use Rattle.std.proofs.Common.{[], refl, subst}
use Rattle.article_spec.specs.Run.{accepted_state}
use Rattle.article_spec.specs.State.{last_version}
use Rattle.article_write_spec.specs.Article.{article as article_of}
use Rattle.bridge_spec.specs.declared.status.Status.TheVariants.{Done}
use Rattle.bridge_article.specs.Runs.{IsWritablePlan}
use Rattle.bridge_article.proofs.RunAnswers.{run_of-state}
use Rattle.bridge_article.proofs.delivery.deliver_run.Goals as goal

pub returns-in-Ok-clause-delivered : goal.returns-in-Ok-clause-delivered
returns-in-Ok-clause-delivered g c =
    let machine = c.args.machine.now in
    let proof = c.proof-proof.result.now in
    let run = run_of-state proof c.assumptions.result.now c.exports.result.now machine c.proof-proof.ensures c.assumptions.ensures.numbers
    c.exports.ensures.numbers in
    let planned : IsWritablePlan proof (last_version machine.place) (accepted_state machine) c.in-Ok.plan =
    subst (λ version. IsWritablePlan proof version (accepted_state machine) c.in-Ok.plan) c.version.ensures
    (subst (λ run. IsWritablePlan proof c.version.result run c.in-Ok.plan) run c.in-Ok.ensures.planned) in
    record {
      answer = Done;
      out_text = article_of (last_version machine.place) (accepted_state machine);
      note_text = [];
      answers = (planned.writable, refl, refl);
      delivered = c.deliver_article.ensures.delivered (last_version machine.place) (accepted_state machine) planned;
    }
