use Rattle.std.proofs.Common.{arith}
use Rattle.std.proofs.lemmas.List.{drop_all}
use Rattle.translate_proof.specs.Environments.{Ready}
use Rattle.translate_proof.proofs.AddLaws.{adds-begin, adds-next, adds-end}
use Rattle.translate_term.specs.GrowLaws.{Grows-refl, Grows-trans}
use Rattle.translate_proof.proofs.ListSteps.{drop-item}
use Rattle.translate_proof.proofs.scope.Environment.add_type_variables.Goals as goal

pub loop-name-init : goal.loop-name-init
loop-name-init c = record { grows = Grows-refl _; adds = λ given trees. adds-begin given.scope.types _ _ }

pub loop-name-preserved : goal.loop-name-preserved
loop-name-preserved c = record {
  grows = Grows-trans c.loop-name.invariant.grows c.add_type_variable.ensures.grows;
  adds = λ given trees.
      adds-next given.scope.types _ (Ready given c.loop-name.target trees c.args.self.now c.loop-name.args.items) _ _ _ _ _
      (drop-item c.args.names.now c.loop-name.name-index c.name-item.result c.name-item.is c.loop-name-test.true)
      (λ made h. c.in_ok-add_type_variable.ensures.ready given trees made h) (c.loop-name.invariant.adds given trees);
}

pub returns-in_err-add_type_variable-clause-grows : goal.returns-in_err-add_type_variable-clause-grows
returns-in_err-add_type_variable-clause-grows c = Grows-trans c.loop-name.invariant.grows c.add_type_variable.ensures.grows

pub returns-clause-ready : goal.returns-clause-ready
returns-clause-ready c = λ given trees made h.
    adds-end given.scope.types _ (Ready given c.loop-name.target trees c.args.self.now c.loop-name.args.items) _ _
    (drop_all c.loop-name.name-index c.args.names.now (omega (arith, c.loop-name-test.false))) (c.loop-name.invariant.adds given trees) made h
