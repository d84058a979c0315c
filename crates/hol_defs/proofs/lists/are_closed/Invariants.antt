use Rattle.std.proofs.Common.{◌≡◌, map, drop}
use Rattle.std.specs.List.{list_all}
use Rattle.hol_spec.specs.Defining.{is_closed}
use Rattle.hol_defs.specs.Lists.{equation_at}
use Rattle.hol_defs.proofs.lists.are_closed.Given as goal

abbrev pub invariant-loop-equation : goal.invariant-loop-equation
invariant-loop-equation l = list_all (λ e. is_closed e.1) (map (equation_at l.table) (drop l.equation-index l.equations)) ≡ list_all (λ e. is_closed e.1)
    (map (equation_at l.table) l.equations)
