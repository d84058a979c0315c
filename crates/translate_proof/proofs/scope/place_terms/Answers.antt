use Rattle.std.proofs.Common.{ap, subst, arith}
use Rattle.std.proofs.lemmas.List.{drop_all}
use Rattle.hol_spec.specs.Terms.{variable_eq}
use Rattle.hol_term.specs.Subterms.{HaveTypes, variables_of}
use Rattle.translate_proof.specs.Environments.{TellTerms}
use Rattle.translate_proof.proofs.ListSteps.{drop-item}
use Rattle.lp_term.specs.TableLaws.{Keeps-refl, Keeps-trans}
use Rattle.translate_proof.proofs.PlaceLaws.{places-begin, places-next, places-end, HaveTypes-drop}
use Rattle.translate_proof.proofs.TellLaws.{TellTerms-set}
use Rattle.translate_proof.specs.EnvironmentLaws.{TellTerms-Keeps}
use Rattle.translate_proof.proofs.scope.place_terms.Goals as goal

pub loop-variable-preserved : goal.loop-variable-preserved
loop-variable-preserved c =
    let keeps = c.in_ok-tree.ensures.keeps in
    let split = drop-item c.args.variables.now c.loop-variable.variable-index c.variable-item.result c.variable-item.is c.loop-variable-test.true in
    record {
      keeps = Keeps-trans c.loop-variable.invariant.keeps keeps;
      places = λ trees other one have. rw c.in_ok-set_term.ensures (
          places-next variable_eq (λ ts es scope. TellTerms trees.types ts es other scope) _ c.loop-variable.table _ _ c.loop-variable.terms _ _ _ _
          _ _ c.loop-variable.place _ (ap (variables_of trees) split)
          c.saturating_sub-place.ensures
          (λ scope h.
          let own = (subst (HaveTypes trees) split (HaveTypes-drop trees c.loop-variable.variable-index c.args.variables.now have)).0 in
          TellTerms-set trees.types one _ c.variable-item.result c.in_ok-tree.tree _ c.loop-variable.terms other scope own c.in_ok-tree.ensures.made
          (TellTerms-Keeps keeps trees.types c.loop-variable.terms other scope h))
          (c.loop-variable.invariant.places trees other one have));
    }

pub loop-variable-init : goal.loop-variable-init
loop-variable-init c = record {
  keeps = Keeps-refl _;
  places =
      λ trees other one have. places-begin variable_eq (λ ts es scope. TellTerms trees.types ts es other scope) _ _ _ _;
}

pub returns-in_err-tree-clause-keeps : goal.returns-in_err-tree-clause-keeps
returns-in_err-tree-clause-keeps c = Keeps-trans c.loop-variable.invariant.keeps c.node.ensures.keeps

pub returns-in_err-set_term-clause-keeps : goal.returns-in_err-set_term-clause-keeps
returns-in_err-set_term-clause-keeps c = Keeps-trans c.loop-variable.invariant.keeps c.node.ensures.keeps

pub returns-clause-terms : goal.returns-clause-terms
returns-clause-terms c = λ trees other scope one have h.
    places-end variable_eq (λ ts es f. TellTerms trees.types ts es other f) _ _ _ _ _ _ _ _
    (ap (variables_of trees) (drop_all c.loop-variable.variable-index c.args.variables.now (omega (arith, c.loop-variable-test.false))))
    (c.loop-variable.invariant.places trees other one have) scope h
