use Rattle.std.proofs.Common.{arith, [], ◌∷◌, sym, ap, ◌∙◌, subst}
use Rattle.std.specs.Prelude.{Some}
use Rattle.std.specs.Option.{option_map}
use Rattle.std.proofs.lemmas.Option.{slice_get_within}
use Rattle.std.proofs.lemmas.Result.{IfOk-weaker}
use Rattle.hol_spec.specs.Primitives.{function}
use Rattle.hol_type.specs.TableLaws as type_law
use Rattle.hol_term.specs.Scopes.{list_in}
use Rattle.hol_term.specs.Tables.{IsTypeNumber}
use Rattle.hol_term.specs.TableLaws.{Keeps-refl, Keeps-trans}
use Rattle.hol_term.specs.Typing.{type_in}
use Rattle.hol_term.proofs.ScopeLaws.{Some-list_in}
use Rattle.hol_term.proofs.Seated.{AreTypings-none, AreTypings-adds}
use Rattle.hol_term.proofs.TermTable.abstraction_inferred.Goals as goal

pub enter-requires : goal.enter-requires
enter-requires c = rw c.requires.scopes (omega arith)

pub inferred-requires-clause-root : goal.inferred-requires-clause-root
inferred-requires-clause-root c = (c.requires.body, slice_get_within _ _ _ c.in_ok-scope.ensures.entered)

pub inferred-requires-clause-typings : goal.inferred-requires-clause-typings
inferred-requires-clause-typings c =
    let outer = list_in c.args.typings.now.scopes 0 in
    let none = ap (λ ls. list_in ls 0) c.requires.scopes in
    AreTypings-adds c.args.self.now c.args.typings.now.scopes c.enter.new.self c.args.typings.now.found (c.args.ty ∷ outer) (Keeps-refl c.args.self.now)
    c.in_ok-scope.ensures.keeps c.in_ok-scope.ensures.adds (rw none (c.requires.ty, tt))
    (AreTypings-none c.args.self.now c.args.typings.now.scopes c.args.typings.now.found c.requires.scopes c.requires.found)

pub abstracted-requires-clause-ty : goal.abstracted-requires-clause-ty
abstracted-requires-clause-ty c = omega (arith, c.requires.ty, c.inferred.ensures.keeps.types.longer)

pub abstracted-requires-clause-body : goal.abstracted-requires-clause-body
abstracted-requires-clause-body c = (type_in c.args.self.now (list_in c.enter.new.self c.in_ok-scope.scope.0) c.args.body.0, c.in_ok-codomain.ensures.typed)

pub returns-clause-typed : goal.returns-clause-typed
returns-clause-typed c =
    let none = ap (λ ls. list_in ls 0) c.requires.scopes in
    let list = c.in_ok-scope.ensures.entered ∙ ap (λ l. Some (c.args.ty ∷ l)) none in
    let same = Some-list_in c.enter.new.self c.in_ok-scope.scope.0 (c.args.ty ∷ []) list in
    let found = type_in c.args.self.now (c.args.ty ∷ []) c.args.body.0 in
    let body = subst (λ bs. IsTypeNumber c.inferred.new.self.types c.in_ok-codomain.codomain (type_in c.args.self.now bs c.args.body.0)) same
    c.in_ok-codomain.ensures.typed in
    IfOk-weaker c.abstracted.result _ _
    (λ made h. subst (λ a. IsTypeNumber c.abstracted.new.self.types made (option_map (function a) found))
    (sym (type_law.tree_at-Stays c.inferred.ensures.keeps.types.stays c.args.ty.0 c.requires.ty)) (h found body))
    c.abstracted.ensures.typed

pub returns-clause-terms : goal.returns-clause-terms
returns-clause-terms c = c.abstracted.ensures.terms ∙ c.inferred.ensures.terms

pub returns-clause-keeps : goal.returns-clause-keeps
returns-clause-keeps c = Keeps-trans c.inferred.ensures.keeps c.abstracted.ensures.keeps
