use Rattle.std.proofs.Common.{◌≡◌}
use Rattle.std.specs.Prelude.{drop}
use Rattle.hol_spec.specs.Lists.{union}
use Rattle.hol_spec.specs.NameEquality.{name_eq}
use Rattle.hol_term.proofs.names.Names.unite.Given as goal

abbrev pub invariant-loop-name : goal.invariant-loop-name
invariant-loop-name l = union name_eq l.self (drop l.name-index l.found) ≡ union name_eq l.fn.self l.found
