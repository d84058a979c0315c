use Rattle.std.proofs.Common.{ap, subst, arith}
use Rattle.std.proofs.lemmas.List.{drop_all, drop_more}
use Rattle.hol_spec.specs.Terms.{term_eq}
use Rattle.hol_term.specs.Tables.{terms_at, AreKnown}
use Rattle.translate_proof.specs.Environments.{TellProofs}
use Rattle.lp_term.specs.TableLaws.{Keeps-refl, Keeps-trans}
use Rattle.translate_proof.proofs.PlaceLaws.{places-begin, places-next, places-end, AreKnown-drop}
use Rattle.translate_proof.proofs.TellLaws.{TellProofs-set}
use Rattle.translate_proof.specs.EnvironmentLaws.{TellProofs-Keeps}
use Rattle.translate_proof.proofs.scope.place_proofs.Goals as goal

pub loop-id-preserved : goal.loop-id-preserved
loop-id-preserved c =
    let keeps = c.in_ok-tree.ensures.keeps in
    let split = drop_more c.args.hyps.now c.loop-id.id-index (record { 0 = 0 }) c.loop-id-test.true in
    record {
      keeps = Keeps-trans c.loop-id.invariant.keeps keeps;
      places = λ trees other one have. rw c.in_ok-set_proof.ensures (
          places-next term_eq (λ ts es scope. TellProofs trees ts es other scope) _ c.loop-id.table _ _ c.loop-id.proofs _ _ _ _ _ _ c.loop-id.place
          _ (ap (terms_at trees) split)
          c.saturating_sub-place.ensures
          (λ scope h.
          let own = (subst (AreKnown trees) split (AreKnown-drop trees c.loop-id.id-index c.args.hyps.now have)).0 in
          TellProofs-set trees one _ _ c.in_ok-tree.tree _ c.loop-id.proofs other scope own c.in_ok-tree.ensures.made
          (TellProofs-Keeps keeps trees c.loop-id.proofs other scope h))
          (c.loop-id.invariant.places trees other one have));
    }

pub loop-id-init : goal.loop-id-init
loop-id-init c = record {
  keeps = Keeps-refl _;
  places =
      λ trees other one have. places-begin term_eq (λ ts es scope. TellProofs trees ts es other scope) _ _ _ _;
}

pub returns-in_err-tree-clause-keeps : goal.returns-in_err-tree-clause-keeps
returns-in_err-tree-clause-keeps c = Keeps-trans c.loop-id.invariant.keeps c.node.ensures.keeps

pub returns-in_err-set_proof-clause-keeps : goal.returns-in_err-set_proof-clause-keeps
returns-in_err-set_proof-clause-keeps c = Keeps-trans c.loop-id.invariant.keeps c.node.ensures.keeps

pub returns-clause-proofs : goal.returns-clause-proofs
returns-clause-proofs c = λ trees other scope one have h.
    places-end term_eq (λ ts es f. TellProofs trees ts es other f) _ _ _ _ _ _ _ _
    (ap (terms_at trees) (drop_all c.loop-id.id-index c.args.hyps.now (omega (arith, c.loop-id-test.false))))
    (c.loop-id.invariant.places trees other one have) scope h
