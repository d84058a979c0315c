use Rattle.hol_term.specs.Tables.{term_at, terms_at}
use Rattle.article_spec.specs.RuleSteps.{restate_step}
use Rattle.stack_machine.proofs.Inferred.{Concludes-IsStore, rule-infers}
use Rattle.stack_machine.proofs.store.Store.restate.Goals as goal

pub invariant_of-self : goal.invariant_of-self
invariant_of-self c = Concludes-IsStore c.restate.ensures c.self.invariant

pub returns : goal.returns
returns c = rule-infers c.self.invariant c.self.view_is
    (λ m. restate_step m.run.made c.args.one (terms_at m.trees c.args.hyps.now) (term_at m.trees c.args.concl.0)) c.restate.ensures
