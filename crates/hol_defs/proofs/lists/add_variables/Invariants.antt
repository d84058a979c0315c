use Rattle.std.proofs.Common.{◌≡◌, [], map, take}
use Rattle.hol_spec.specs.Lists.{union}
use Rattle.hol_defs.specs.Lists.{same_variable}
use Rattle.hol_defs.proofs.lists.add_variables.Given as goal

abbrev pub invariant-loop-pair : goal.invariant-loop-pair
invariant-loop-pair l = l.set ≡ union same_variable [] (map (λ p. p.1) (take l.pair-index l.pairs))
