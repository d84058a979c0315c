use Rattle.std.proofs.Common.{◌++◌, sym, ap, ap₂, subst, ◌∙◌}
use Rattle.std.proofs.lemmas.Result.{on_ok_weaker}
use Rattle.hol_rules.specs.Views.{parameters_view}
use Rattle.article_reach.specs.Found.{given_found}
use Rattle.article_reach.specs.FoundPairs.{types_put, terms_put, constants_put}
use Rattle.article_reach.specs.Looked.{WalksOn}
use Rattle.article_reach.proofs.Wanted.{types-put, terms-put, constants-put}
use Rattle.article_reach.proofs.walk.Walk.want_given.Goals as goal

pub returns-in-Subst : goal.returns-in-Subst
returns-in-Subst c = on_ok_weaker c.want_put.result
    (λ walks.
    let trees = c.args.proof.now.trees in
    let put = c.in-Subst.put in
    let types = rw c.get-put.ensures at c.deref.ensures.value in
    let terms = rw c.get-put.ensures at c.deref-in-Subst.ensures.value in
    subst (λ fs. WalksOn c.args.proof.now fs c.args.self.now c.want_put.new.self)
    (ap₂ (λ a b. types_put trees a ++ terms_put trees b) types terms ∙ ap₂ (λ a b. a ++ b) (types-put trees put.types.items) (terms-put trees put.terms.items)
    ∙ ap (λ g. given_found (parameters_view trees g)) (sym c.in-Subst.is)) walks)
    c.want_put.ensures

pub returns-in-List : goal.returns-in-List
returns-in-List c = on_ok_weaker c.want_constants.result
    (λ walks.
    let trees = c.args.proof.now.trees in
    subst (λ fs. WalksOn c.args.proof.now fs c.args.self.now c.want_constants.new.self)
    (ap (constants_put trees) c.deref-in-List.ensures.value ∙ constants-put trees c.in-List.pairs.items
    ∙ ap (λ g. given_found (parameters_view trees g)) (sym c.in-List.is)) walks)
    c.want_constants.ensures
