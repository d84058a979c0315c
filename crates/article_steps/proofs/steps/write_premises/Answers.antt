use Rattle.std.proofs.Common.{ap}
use Rattle.hol_rules.specs.Views.{step_at}
use Rattle.article_write_spec.specs.Drafts.{write_each}
use Rattle.article_write_spec.specs.WrittenSteps.{write_premise}
use Rattle.article_lines.specs.EarlierPremises.{premises-earlier, premises-room}
use Rattle.article_steps.proofs.EachLaws.{adds-same}
use Rattle.article_steps.proofs.steps.write_premises.Goals as goal

pub refer_to_all-requires : goal.refer_to_all-requires
refer_to_all-requires g c =
    premises-room _ _ c.premises.result.now _ c.premises.ensures c.requires.count
    (premises-earlier c.args.proof.now.made c.args.id _ c.is_proof.ensures c.requires.step)

pub returns : goal.returns
returns g c = λ room o.
    adds-same c.args.proof.now.trees (write_each write_premise c.premises.result.now)
    (write_each write_premise (step_at c.args.proof.now.made c.args.id).premises) _ _ _ _ _ _ _ _
    (λ d. ap (λ is. write_each write_premise is d) c.premises.ensures) (c.refer_to_all.ensures c.args.proof.now.trees room o)
