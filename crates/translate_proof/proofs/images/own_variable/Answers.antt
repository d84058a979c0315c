use Rattle.std.proofs.Common.{◌∙◌, sym, ap, subst}
use Rattle.hol_spec.specs.Terms.{variable_eq}
use Rattle.hol_laws.specs.TermLaws.{variable_eq-Decides}
use Rattle.hol_term.specs.Subterms.{HaveTypes, variables_of}
use Rattle.hol_rules.specs.Views.{variable_view}
use Rattle.translate_proof.specs.Images.{retyped}
use Rattle.translate_proof.proofs.ListSteps.{drop-item}
use Rattle.translate_proof.proofs.MatchLaws.{in-rest}
use Rattle.translate_proof.proofs.PlaceLaws.{HaveTypes-drop}
use Rattle.translate_proof.proofs.images.own_variable.Goals as goal

pub becomes-requires-clause-own : goal.becomes-requires-clause-own
becomes-requires-clause-own c =
    let split = drop-item c.args.own.now c.loop-one.one-index c.one-item.result c.one-item.is c.loop-one-test.true in
    (subst (HaveTypes c.args.table.now) split (HaveTypes-drop c.args.table.now c.loop-one.one-index c.args.own.now c.requires.own)).0

pub returns-then-branch-clause-is : goal.returns-then-branch-clause-is
returns-then-branch-clause-is c =
    sym ((variable_eq-Decides (retyped c.args.table.now c.args.put.now c.args.variable.now.name c.args.variable.now.ty)
    (variable_view c.args.table.now c.one-item.result)).0 (sym c.in_ok-becomes.ensures ∙ c.if-branch.true))

pub returns-then-branch-clause-known : goal.returns-then-branch-clause-known
returns-then-branch-clause-known c =
    let split = drop-item c.args.own.now c.loop-one.one-index c.one-item.result c.one-item.is c.loop-one-test.true in
    (subst (HaveTypes c.args.table.now) split (HaveTypes-drop c.args.table.now c.loop-one.one-index c.args.own.now c.requires.own)).0

pub loop-one-preserved : goal.loop-one-preserved
loop-one-preserved c =
    let split = drop-item c.args.own.now c.loop-one.one-index c.one-item.result c.one-item.is c.loop-one-test.true in
    in-rest variable_eq variable_eq-Decides (retyped c.args.table.now c.args.put.now c.args.variable.now.name c.args.variable.now.ty)
    (variable_view c.args.table.now c.one-item.result) _ _ (ap (variables_of c.args.table.now) split) (sym c.if-branch.false ∙ c.in_ok-becomes.ensures)
    c.loop-one.invariant
