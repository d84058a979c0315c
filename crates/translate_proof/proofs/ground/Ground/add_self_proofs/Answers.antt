use Rattle.std.proofs.Common.{ap, subst, arith}
use Rattle.std.proofs.lemmas.List.{drop_all, drop_more}
use Rattle.std.specs.List.{AllByRecursion}
use Rattle.hol_term.specs.Tables.{terms_at, AreKnown}
use Rattle.translate_spec.specs.ProofTrees.{self_proof}
use Rattle.translate_term.specs.Told.{TellsTerm}
use Rattle.translate_proof.specs.Constants.{IsEquationFormula}
use Rattle.translate_proof.specs.Environments.{Ready}
use Rattle.translate_proof.proofs.AddLaws.{adds-begin, adds-next, adds-end}
use Rattle.translate_term.specs.GrowLaws.{Grows-refl, Grows-trans}
use Rattle.translate_proof.proofs.ListSteps.{terms-drop}
use Rattle.translate_proof.proofs.PlaceLaws.{AreKnown-drop}
use Rattle.translate_proof.specs.EnvironmentLaws.{Represents-Grows}
use Rattle.translate_proof.proofs.ground.Ground.add_self_proofs.Goals as goal

pub add_self_proof-requires-clause-hyp : goal.add_self_proof-requires-clause-hyp
add_self_proof-requires-clause-hyp c =
    let split = drop_more c.args.hyps.now c.loop-hyp.hyp-index (record { 0 = 0 }) c.loop-hyp-test.true in
    (subst (AreKnown c.args.self.proof.now.trees) split (AreKnown-drop c.args.self.proof.now.trees c.loop-hyp.hyp-index c.args.hyps.now c.requires.hyps)).0

pub add_self_proof-requires-clause-equation : goal.add_self_proof-requires-clause-equation
add_self_proof-requires-clause-equation c =
    let trees = c.args.self.proof.now.trees in
    let split = drop_more c.args.hyps.now c.loop-hyp.hyp-index (record { 0 = 0 }) c.loop-hyp-test.true in
    (subst (λ l. AllByRecursion IsEquationFormula (terms_at trees l)) split
    (terms-drop IsEquationFormula trees c.loop-hyp.hyp-index c.args.hyps.now c.requires.equations)).0

pub add_self_proof-requires-clause-told : goal.add_self_proof-requires-clause-told
add_self_proof-requires-clause-told c =
    let trees = c.args.self.proof.now.trees in
    let given = c.requires.told.0 in
    let P = TellsTerm given.declarations given.symbols in
    let split = drop_more c.args.hyps.now c.loop-hyp.hyp-index (record { 0 = 0 }) c.loop-hyp-test.true in (
      given,
      Represents-Grows c.loop-hyp.invariant.grows given trees c.args.self.env.now c.requires.told.1,
      (subst (λ l. AllByRecursion P (terms_at trees l)) split (terms-drop P trees c.loop-hyp.hyp-index c.args.hyps.now c.requires.told.2)).0,
    )

pub loop-hyp-init : goal.loop-hyp-init
loop-hyp-init c = record { grows = Grows-refl _; adds = λ given told. adds-begin (self_proof given.symbols given.scope) _ _ }

pub loop-hyp-preserved : goal.loop-hyp-preserved
loop-hyp-preserved c =
    let trees = c.args.self.proof.now.trees in
    let split = drop_more c.args.hyps.now c.loop-hyp.hyp-index (record { 0 = 0 }) c.loop-hyp-test.true in
    record {
      grows = Grows-trans c.loop-hyp.invariant.grows c.add_self_proof.ensures.grows;
      adds = λ given told.
          let P = TellsTerm given.declarations given.symbols in
          adds-next (self_proof given.symbols given.scope) _ (Ready given c.loop-hyp.target trees c.args.self.env.now c.loop-hyp.args.items) _ _ _ _ _
          (ap (terms_at trees) split)
          (λ made h. c.in_ok-add_self_proof.ensures.ready given made h
          ((subst (λ l. AllByRecursion P (terms_at trees l)) split (terms-drop P trees c.loop-hyp.hyp-index c.args.hyps.now told)).0))
          (c.loop-hyp.invariant.adds given told);
    }

pub returns-in_err-add_self_proof-clause-grows : goal.returns-in_err-add_self_proof-clause-grows
returns-in_err-add_self_proof-clause-grows c = Grows-trans c.loop-hyp.invariant.grows c.add_self_proof.ensures.grows

pub returns-clause-ready : goal.returns-clause-ready
returns-clause-ready c = λ given made h told.
    let trees = c.args.self.proof.now.trees in
    adds-end (self_proof given.symbols given.scope) _ (Ready given c.loop-hyp.target trees c.args.self.env.now c.loop-hyp.args.items) _ _
    (ap (terms_at trees) (drop_all c.loop-hyp.hyp-index c.args.hyps.now (omega (arith, c.loop-hyp-test.false)))) (c.loop-hyp.invariant.adds given told) made h
