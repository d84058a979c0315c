use Rattle.std.proofs.Common.{Some, ap, sym, ◌∙◌}
use Rattle.std.specs.Prelude.{nat_eq}
use Rattle.hol_spec.specs.Lists.{union}
use Rattle.hol_variables.specs.Lists.{list_in}
use Rattle.hol_variables.proofs.Unions.{list_in-Some, union-all_in, union-none}
use Rattle.hol_variables.proofs.lists.Lists.united.Goals as goal

pub returns-then-has_all-clause-united : goal.returns-then-has_all-clause-united
returns-then-has_all-clause-united c =
    let ls = c.args.self.now in
    list_in-Some ls c.args.first.0 c.requires.first
    ∙ ap Some (sym (union-all_in (list_in ls c.args.second.0) (list_in ls c.args.first.0) (sym c.has_all.ensures.all ∙ c.if-has_all.true)))

pub returns-then-is_empty-clause-united : goal.returns-then-is_empty-clause-united
returns-then-is_empty-clause-united c =
    let ls = c.args.self.now in
    let second = list_in ls c.args.second.0 in
    list_in-Some ls c.args.second.0 c.requires.second
    ∙ ap Some (sym (ap (λ l. union nat_eq l second) (c.is_empty.ensures c.if-is_empty.true) ∙ union-none second c.has_all.ensures.no_repeats))
