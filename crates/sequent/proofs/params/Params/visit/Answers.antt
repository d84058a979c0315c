use Rattle.std.proofs.Common.{ap, sym, subst, ◌∙◌}
use Rattle.std.proofs.lemmas.Result.{IfOk-weaker}
use Rattle.hol_spec.specs.Lists.{union}
use Rattle.hol_laws.specs.ListLaws.{union-distinct}
use Rattle.hol_spec.specs.NameEquality.{name_eq}
use Rattle.hol_laws.specs.NameEqualityLaws.{name_eq-Decides}
use Rattle.hol_spec.specs.Terms.{variable_eq, free_places, type_variable_places}
use Rattle.hol_laws.specs.TermLaws.{variable_eq-Decides}
use Rattle.hol_term.specs.Subterms.{variables_of, HaveTypes}
use Rattle.hol_term.specs.Tables.{term_at}
use Rattle.sequent.proofs.ParamLaws.{HaveTypes-union, variables_of-union}
use Rattle.sequent.proofs.params.Params.visit.Goals as goal

pub returns-clause-type_vars : goal.returns-clause-type_vars
returns-clause-type_vars c =
    let found = type_variable_places (term_at c.args.table.now c.args.id.0) in
    IfOk-weaker c.unite-2.result _ _
    (λ _ _. c.in_ok-unite.ensures.united ∙ ap (union name_eq c.args.self.now.type_vars) (c.deref.ensures.value ∙ c.in_ok-names.ensures)
    ∙ union-distinct name_eq name_eq-Decides found c.args.self.now.type_vars)
    c.unite-2.ensures.united

pub returns-clause-free_vars : goal.returns-clause-free_vars
returns-clause-free_vars c =
    let trees = c.args.table.now in
    let old = c.args.self.now.free_vars in
    let found = c.in_ok-free_vars.field-0.items in
    IfOk-weaker c.unite-2.result _ _
    (λ _ e h. ap (variables_of trees) e
    ∙ variables_of-union trees c.free_vars.ensures.one_each old found h c.in_ok-free_vars.ensures.known
    ∙ ap (union variable_eq (variables_of trees old)) c.in_ok-free_vars.ensures.variables
    ∙ union-distinct variable_eq variable_eq-Decides (free_places (term_at trees c.args.id.0)) (variables_of trees old))
    c.unite-2.ensures.united

pub returns-clause-known : goal.returns-clause-known
returns-clause-known c =
    let trees = c.args.table.now in
    IfOk-weaker c.unite-2.result _ _
    (λ _ e h. subst (HaveTypes trees) (sym e)
    (HaveTypes-union trees c.args.self.now.free_vars c.in_ok-free_vars.field-0.items h c.in_ok-free_vars.ensures.known))
    c.unite-2.ensures.united
