use Rattle.std.proofs.Common.{◌≡◌}
use Rattle.hol_spec.specs.Lists.{union}
use Rattle.hol_spec.specs.NameEquality.{name_eq}
use Rattle.hol_defs.proofs.tables.NameSet.unite.Given as goal

abbrev pub invariant-loop-name : goal.invariant-loop-name
invariant-loop-name l = l.self ≡ union name_eq l.fn.self l.yielded
