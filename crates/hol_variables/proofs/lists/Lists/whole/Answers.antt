use Rattle.std.proofs.Common.{sym, ◌∙◌}
use Rattle.std.specs.Prelude.{nat_eq}
use Rattle.std.proofs.Math.Path.{ap₂}
use Rattle.hol_spec.specs.Lists.{union}
use Rattle.hol_variables.proofs.Unions.{list_in-is, union-none}
use Rattle.hol_variables.proofs.lists.Lists.whole.Goals as goal

pub returns : goal.returns
returns c =
    let ls = c.args.self.now in
    let first = ap₂ (union nat_eq) c.new-whole.ensures.empty c.numbers.ensures.numbers ∙ union-none c.list.result.now c.numbers.ensures.no_repeats
    ∙ sym (list_in-is ls c.args.first.0 c.list.result.now c.list.ensures) in
    let second = c.numbers-2.ensures.numbers ∙ sym (list_in-is ls c.args.second.0 c.list-2.result.now c.list-2.ensures) in
    c.in_ok-unite-2.ensures.united ∙ ap₂ (union nat_eq) (c.in_ok-unite.ensures.united ∙ first) second
