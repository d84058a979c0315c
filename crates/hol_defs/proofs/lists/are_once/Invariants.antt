use Rattle.std.proofs.Common.{◌≡◌, [], map, take}
use Rattle.hol_spec.specs.Lists.{union}
use Rattle.hol_spec.specs.NameEquality.{name_eq}
use Rattle.hol_defs.proofs.lists.are_once.Given as goal

abbrev pub invariant-loop-pair : goal.invariant-loop-pair
invariant-loop-pair l = l.names ≡ union name_eq [] (map (λ p. p.0) (take l.pair-index l.pairs))
