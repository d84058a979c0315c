use Rattle.std.proofs.Common.{sym, subst, ap}
use Rattle.hol_term.specs.Tables.{Trees}
use Rattle.hol_rules.specs.Views.{parameters_view, step_at}
use Rattle.article_write_spec.specs.WrittenSteps.{write_given}
use Rattle.article_steps.specs.Given.{AreClosed}
use Rattle.article_steps.proofs.AddsLaws.{adds-moved}
use Rattle.article_steps.proofs.ClosedSteps.{given-closed}
use Rattle.article_steps.proofs.EachLaws.{adds-same}
use Rattle.article_steps.proofs.steps.write_parameters.Goals as goal

pub write_given-requires-clause-closed : goal.write_given-requires-clause-closed
write_given-requires-clause-closed g c =
    subst (λ (t : Trees). AreClosed (parameters_view t c.params.result.now)) (sym c.terms.ensures)
    (subst AreClosed (sym c.params.ensures.is) (given-closed c.args.source.proof.now.made c.args.id c.is_proof.ensures c.requires.step))

pub returns : goal.returns
returns g c =
    adds-same c.args.source.proof.now.trees (write_given c.args.source.number (parameters_view c.args.source.proof.now.trees c.params.result.now))
    (write_given c.args.source.number (step_at c.args.source.proof.now.made c.args.id).parameters) _ _ _ _ _ _ _ _
    (λ d. ap (λ p. write_given c.args.source.number p d) c.params.ensures.is)
    (adds-moved c.args.source.proof.now.trees c.terms.result.now (λ t. write_given c.args.source.number (parameters_view t c.params.result.now)) _ _ _ _ _ _ _ _
    c.terms.ensures c.write_given.ensures)
