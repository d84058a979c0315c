use Rattle.std.proofs.Common.{ap, subst, arith}
use Rattle.std.proofs.lemmas.List.{drop_all}
use Rattle.std.specs.List.{AllByRecursion}
use Rattle.hol_spec.specs.Terms.{Variable}
use Rattle.hol_term.specs.Subterms.{HaveTypes, variables_of}
use Rattle.translate_term.specs.Told.{TellsType}
use Rattle.translate_proof.specs.Constants.{scope_with}
use Rattle.translate_proof.specs.Environments.{Ready}
use Rattle.translate_proof.proofs.AddLaws.{adds-begin, adds-next, adds-end, All-drop}
use Rattle.translate_term.specs.GrowLaws.{Grows-refl, Grows-trans}
use Rattle.translate_proof.proofs.ListSteps.{drop-item}
use Rattle.translate_proof.proofs.PlaceLaws.{HaveTypes-drop}
use Rattle.translate_proof.specs.EnvironmentLaws.{Represents-Grows}
use Rattle.translate_proof.proofs.ground.Ground.add_constants.Goals as goal

pub add_constant-requires-clause-variable : goal.add_constant-requires-clause-variable
add_constant-requires-clause-variable c =
    let split = drop-item c.args.variables.now c.loop-variable.variable-index c.variable-item.result c.variable-item.is c.loop-variable-test.true in
    (subst (HaveTypes c.args.self.proof.now.trees) split
    (HaveTypes-drop c.args.self.proof.now.trees c.loop-variable.variable-index c.args.variables.now c.requires.variables)).0

pub add_constant-requires-clause-told : goal.add_constant-requires-clause-told
add_constant-requires-clause-told c =
    let split = drop-item c.args.variables.now c.loop-variable.variable-index c.variable-item.result c.variable-item.is c.loop-variable-test.true in
    let given = c.requires.told.0 in
    let trees = c.args.self.proof.now.trees in
    let P = λ (v : Variable). TellsType given.declarations given.symbols v.1 in (
      given,
      Represents-Grows c.loop-variable.invariant.grows given trees c.args.self.env.now c.requires.told.1,
      c.requires.told.2,
      (subst (λ l. AllByRecursion P (variables_of trees l)) split (All-drop P trees c.loop-variable.variable-index c.args.variables.now c.requires.told.3)).0,
    )

pub loop-variable-init : goal.loop-variable-init
loop-variable-init c = record
    { grows = Grows-refl _; adds = λ given constants told. adds-begin (scope_with given c.args.self.proof.now.trees c.args.pairs.now).terms _ _ }

pub loop-variable-preserved : goal.loop-variable-preserved
loop-variable-preserved c =
    let split = drop-item c.args.variables.now c.loop-variable.variable-index c.variable-item.result c.variable-item.is c.loop-variable-test.true in
    let trees = c.args.self.proof.now.trees in
    record {
      grows = Grows-trans c.loop-variable.invariant.grows c.add_constant.ensures.grows;
      adds = λ given constants told.
          let P = λ (v : Variable). TellsType given.declarations given.symbols v.1 in
          adds-next (scope_with given trees c.args.pairs.now).terms _ (Ready given c.loop-variable.target trees c.args.self.env.now c.loop-variable.args.items)
          _ _ _ _ _ (ap (variables_of trees) split)
          (λ made h. c.in_ok-add_constant.ensures.ready given made h constants
          ((subst (λ l. AllByRecursion P (variables_of trees l)) split (All-drop P trees c.loop-variable.variable-index c.args.variables.now told)).0))
          (c.loop-variable.invariant.adds given constants told);
    }

pub returns-in_err-add_constant-clause-grows : goal.returns-in_err-add_constant-clause-grows
returns-in_err-add_constant-clause-grows c = Grows-trans c.loop-variable.invariant.grows c.add_constant.ensures.grows

pub returns-clause-ready : goal.returns-clause-ready
returns-clause-ready c = λ given made h constants told.
    let trees = c.args.self.proof.now.trees in
    adds-end (scope_with given trees c.args.pairs.now).terms _ (Ready given c.loop-variable.target trees c.args.self.env.now c.loop-variable.args.items) _ _
    (ap (variables_of trees) (drop_all c.loop-variable.variable-index c.args.variables.now (omega (arith, c.loop-variable-test.false))))
    (c.loop-variable.invariant.adds given constants told) made h
