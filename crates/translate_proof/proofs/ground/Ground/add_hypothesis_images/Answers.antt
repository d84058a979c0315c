use Rattle.std.proofs.Common.{ap, subst, arith, ◌∷◌, [], ◌++◌}
use Rattle.std.proofs.lemmas.List.{drop_all, drop_more}
use Rattle.std.specs.List.{AllByRecursion}
use Rattle.hol_spec.specs.Lists.{IsIn}
use Rattle.hol_spec.specs.Terms.{Term}
use Rattle.hol_spec.specs.TermSubstitution.{sub}
use Rattle.hol_term.specs.Tables.{terms_at, AreKnown}
use Rattle.translate_spec.specs.Scopes.{images}
use Rattle.translate_proof.specs.Environments.{Ready}
use Rattle.translate_proof.specs.Images.{type_pairs, term_pairs}
use Rattle.translate_proof.proofs.AddLaws.{adds-begin, adds-next, adds-end}
use Rattle.translate_term.specs.GrowLaws.{Grows-refl, Grows-trans}
use Rattle.translate_proof.proofs.ListSteps.{terms-drop}
use Rattle.translate_proof.proofs.PlaceLaws.{AreKnown-drop}
use Rattle.translate_proof.proofs.ground.Ground.add_hypothesis_images.Goals as goal

pub own_hypothesis-requires-clause-hyp : goal.own_hypothesis-requires-clause-hyp
own_hypothesis-requires-clause-hyp c =
    let split = drop_more c.args.hyps.now c.loop-hyp.hyp-index (record { 0 = 0 }) c.loop-hyp-test.true in
    rw c.terms.ensures
    ((subst (AreKnown c.args.self.proof.now.trees) split
    (AreKnown-drop c.args.self.proof.now.trees c.loop-hyp.hyp-index c.args.hyps.now c.requires.hyps)).0)

pub own_hypothesis-requires-clause-there : goal.own_hypothesis-requires-clause-there
own_hypothesis-requires-clause-there c =
    let trees = c.args.self.proof.now.trees in
    let split = drop_more c.args.hyps.now c.loop-hyp.hyp-index (record { 0 = 0 }) c.loop-hyp-test.true in
    let P = λ (h : Term). IsIn (terms_at trees c.args.own.now) (sub (type_pairs trees c.args.put.now) (term_pairs trees c.args.put.now) h) in
    rw c.terms.ensures ((subst (λ l. AllByRecursion P (terms_at trees l)) split (terms-drop P trees c.loop-hyp.hyp-index c.args.hyps.now c.requires.there)).0)

pub loop-hyp-init : goal.loop-hyp-init
loop-hyp-init c = record {
  grows = Grows-refl _;
  adds =
      λ given. adds-begin (images given.symbols (type_pairs c.args.self.proof.now.trees c.args.put.now) (term_pairs c.args.self.proof.now.trees c.args.put.now)
      given.scope).proofs _ _;
}

pub loop-hyp-preserved : goal.loop-hyp-preserved
loop-hyp-preserved c =
    let trees = c.args.self.proof.now.trees in
    let split = drop_more c.args.hyps.now c.loop-hyp.hyp-index (record { 0 = 0 }) c.loop-hyp-test.true in
    let known = rw c.terms.ensures at c.in_ok-made.ensures.known in
    let is = rw c.terms.ensures at c.in_ok-made.ensures.is in
    record {
      grows = Grows-trans c.loop-hyp.invariant.grows c.add_hypothesis.ensures.grows;
      adds = λ given.
          adds-next (images given.symbols (type_pairs trees c.args.put.now) (term_pairs trees c.args.put.now) given.scope).proofs _
          (Ready given c.loop-hyp.target trees c.args.self.env.now c.loop-hyp.args.items) _ _ _ _ _ (ap (terms_at trees) split)
          (λ made h. subst
          (λ t. Ready given c.add_hypothesis.new.target trees c.args.self.env.now c.add_hypothesis.new.args.items (made ++ given.scope.proofs t ∷ [])) is
          (c.in_ok-add_hypothesis.ensures.ready given trees made h known)) (c.loop-hyp.invariant.adds given);
    }

pub returns-in_err-add_hypothesis-clause-grows : goal.returns-in_err-add_hypothesis-clause-grows
returns-in_err-add_hypothesis-clause-grows c = Grows-trans c.loop-hyp.invariant.grows c.add_hypothesis.ensures.grows

pub returns-clause-ready : goal.returns-clause-ready
returns-clause-ready c = λ given made h.
    let trees = c.args.self.proof.now.trees in
    adds-end (images given.symbols (type_pairs trees c.args.put.now) (term_pairs trees c.args.put.now) given.scope).proofs _
    (Ready given c.loop-hyp.target trees c.args.self.env.now c.loop-hyp.args.items) _ _
    (ap (terms_at trees) (drop_all c.loop-hyp.hyp-index c.args.hyps.now (omega (arith, c.loop-hyp-test.false)))) (c.loop-hyp.invariant.adds given) made h
