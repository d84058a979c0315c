use Rattle.std.proofs.Common.{ap, subst, arith}
use Rattle.std.proofs.lemmas.List.{drop_all, drop_more}
use Rattle.hol_term.specs.Tables.{terms_at, AreKnown}
use Rattle.translate_term.specs.GrowLaws.{Grows-refl, Grows-trans}
use Rattle.translate_proof.specs.Environments.{Ready}
use Rattle.translate_proof.specs.ProvedHypotheses.{proof_with}
use Rattle.translate_proof.proofs.AddLaws.{adds-begin, adds-next, adds-end}
use Rattle.translate_proof.proofs.PlaceLaws.{AreKnown-drop}
use Rattle.translate_proof.proofs.ProvedLaws.{IsPut-Grows}
use Rattle.translate_proof.proofs.StandTrees.{Ready-more}
use Rattle.translate_proof.proofs.scope.Environment.add_hypotheses.Goals as goal

pub loop-id-init : goal.loop-id-init
loop-id-init c = record { grows = Grows-refl _; adds = λ given trees x known put. adds-begin (proof_with trees c.args.proved x given.scope.proofs) _ _ }

pub loop-id-preserved : goal.loop-id-preserved
loop-id-preserved c =
    let split = drop_more c.args.hyps.now c.loop-id.id-index (record { 0 = 0 }) c.loop-id-test.true in
    record {
      grows = Grows-trans c.loop-id.invariant.grows c.proof_with.ensures.grows;
      adds = λ given trees x known put.
          let own = (subst (AreKnown trees) split (AreKnown-drop trees c.loop-id.id-index c.args.hyps.now known)).0 in
          let put_here = IsPut-Grows c.loop-id.invariant.grows trees c.args.proved x put in
          adds-next (proof_with trees c.args.proved x given.scope.proofs) _ (Ready given c.loop-id.target trees c.args.self.now c.loop-id.args.items) _ _ _ _ _
          (ap (terms_at trees) split)
          (λ made h.
          Ready-more c.proof_with.ensures.grows given trees c.args.self.now c.loop-id.args.items _ made c.in_ok-tree.tree _
          (c.in_ok-tree.ensures.made given trees x h.stands own put_here) c.in_ok-push.ensures.items h)
          (c.loop-id.invariant.adds given trees x known put);
    }

pub returns-in_err-tree-clause-grows : goal.returns-in_err-tree-clause-grows
returns-in_err-tree-clause-grows c = Grows-trans c.loop-id.invariant.grows c.proof_with.ensures.grows

pub returns-in_err-push-clause-grows : goal.returns-in_err-push-clause-grows
returns-in_err-push-clause-grows c = Grows-trans c.loop-id.invariant.grows c.proof_with.ensures.grows

pub returns-clause-ready : goal.returns-clause-ready
returns-clause-ready c = λ given trees x made h known put.
    adds-end (proof_with trees c.args.proved x given.scope.proofs) _ (Ready given c.loop-id.target trees c.args.self.now c.loop-id.args.items) _ _
    (ap (terms_at trees) (drop_all c.loop-id.id-index c.args.hyps.now (omega (arith, c.loop-id-test.false)))) (c.loop-id.invariant.adds given trees x known put)
    made h
