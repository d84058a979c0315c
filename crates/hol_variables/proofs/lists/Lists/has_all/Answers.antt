use Rattle.std.proofs.Common.{◌≡◌, true, subst, sym, ◌∙◌}
use Rattle.std.specs.Prelude.{nat_eq}
use Rattle.std.specs.List.{list_all}
use Rattle.std.proofs.lemmas.Bool.{eqb-true}
use Rattle.hol_spec.specs.Lists.{is_in}
use Rattle.hol_variables.specs.Lists.{list_in}
use Rattle.hol_variables.proofs.Unions.{all_in-own}
use Rattle.hol_variables.proofs.lists.Lists.has_all.Goals as goal

pub returns-then-eq-clause-all : goal.returns-then-eq-clause-all
returns-then-eq-clause-all c =
    let ls = c.args.self.now in
    let first = c.args.first.0 in
    let same = eqb-true first c.args.second.0 (sym c.eq.ensures ∙ c.if-eq.true) in
    c.if-eq.true ∙ sym (subst (λ n. list_all (λ m. is_in nat_eq m (list_in ls first)) (list_in ls n) ≡ true) same (all_in-own (list_in ls first)))
