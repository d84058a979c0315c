use Rattle.std.proofs.Common.{◌∙◌, ap, refl, subst, sym, Some}
use Rattle.std.proofs.lemmas.Result.{IfOk-weaker}
use Rattle.hol_spec.specs.Proofs.{sequent_at}
use Rattle.hol_spec.specs.Sequents.{Sequent}
use Rattle.holide_sig.specs.Modules.{declarations_of}
use Rattle.lp_spec.specs.Modules.{proof_of}
use Rattle.lp_term.specs.TableLaws.{Holds-tree_at, Holds-within}
use Rattle.translate_spec.specs.Scopes.{scope_of, term_tree}
use Rattle.translate_term.specs.GrowLaws.{Grows-trans, Grows-table}
use Rattle.translate_proof.specs.Environments.{IsTold}
use Rattle.translate_proof.specs.StepSequents.{step-IsSequent}
use Rattle.translate_rule.specs.Steps.{given_at}
use Rattle.translate_rule.proofs.StatementLaws.{conclusion-told}
use Rattle.translate_rule.proofs.statement.conclusion.Goals as goal

pub term-requires-clause-told : goal.term-requires-clause-told
term-requires-clause-told c =
    let k = c.args.step.ground.proof.now in
    let s = sequent_at k.made c.args.step.id in
    let given = given_at (declarations_of c.args.target.now) c.requires.told.0 s in (
      given,
      c.requires.step.stands given.declarations c.requires.told.0 refl,
      subst (IsTold given) (sym (ap (λ (t : Sequent). t.conclusion) c.sequent.ensures.is))
          (conclusion-told given s (step-IsSequent k.made c.is_proof.ensures c.args.step.id c.requires.step.id) c.requires.told.1),
    )

pub family-requires : goal.family-requires
family-requires c =
    let k = c.args.step.ground.proof.now in
    let s = sequent_at k.made c.args.step.id in
    let given = given_at (declarations_of c.args.target.now) c.requires.told.0 s in
    Holds-within _ c.in_ok-formula.formula.0 _
    (c.in_ok-formula.ensures.made given (c.requires.step.stands given.declarations c.requires.told.0 refl)
    (subst (IsTold given) (sym (ap (λ (t : Sequent). t.conclusion) c.sequent.ensures.is))
    (conclusion-told given s (step-IsSequent k.made c.is_proof.ensures c.args.step.id c.requires.step.id) c.requires.told.1)))

pub returns-clause-made : goal.returns-clause-made
returns-clause-made c =
    let k = c.args.step.ground.proof.now in
    let s = sequent_at k.made c.args.step.id in
    let same = ap (λ (t : Sequent). t.conclusion) c.sequent.ensures.is in
    IfOk-weaker c.family.result _ _
    (λ r h tables told.
    let given = given_at (declarations_of c.args.target.now) tables s in
    h
    ∙ ap (λ t. Some (proof_of t))
    (Holds-tree_at _ c.in_ok-formula.formula.0 _
    (c.in_ok-formula.ensures.made given (c.requires.step.stands given.declarations tables refl)
    (subst (IsTold given) (sym same) (conclusion-told given s (step-IsSequent k.made c.is_proof.ensures c.args.step.id c.requires.step.id) told)))
    ∙ ap (term_tree tables (scope_of tables s)) same))
    c.family.ensures.made

pub returns-clause-grows : goal.returns-clause-grows
returns-clause-grows c = Grows-trans c.in_ok-formula.ensures.grows (Grows-table _ _ c.family.ensures.keeps)
