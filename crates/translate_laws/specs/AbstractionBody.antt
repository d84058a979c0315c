-- The body of absThm is typed: the premise stands under the binder, whose variable is free in it.
use Rattle.std.proofs.Common.{◌≡◌, false}
use Rattle.std.specs.List.{AllByRecursion}
use Rattle.hol_spec.specs.Terms.{Term, Variable, variable_eq, free_places}

-- v is not free in a term
abbrev pub IsFresh : Variable → Term → Type 0
IsFresh v h = AllByRecursion (λ w. variable_eq w v ≡ false) (free_places h)
