use Rattle.std.proofs.Common.{◌≡◌, map, drop}
use Rattle.std.specs.List.{list_all}
use Rattle.hol_spec.specs.Defining.{has_type_variables_of}
use Rattle.hol_defs.specs.Lists.{equation_at}
use Rattle.hol_defs.proofs.lists.have_own_variables.Given as goal

abbrev pub invariant-loop-equation : goal.invariant-loop-equation
invariant-loop-equation l =
    list_all (λ e. has_type_variables_of e.0.1 e.1) (map (equation_at l.table) (drop l.equation-index l.equations))
    ≡ list_all (λ e. has_type_variables_of e.0.1 e.1) (map (equation_at l.table) l.equations)
