-- The fault of a text by the kind that the program answers.
use Rattle.lp_spec.specs.ReadingFaults as reading
use Rattle.lp_spec.specs.declared.fault_kind.DkKind.{DkKind}
use Rattle.lp_spec.specs.declared.fault_kind.DkKind.TheVariants as kind

-- the fault for which a kind stands
abbrev pub fault_of : DkKind → reading.Fault
fault_of kind.NoPrelude = reading.NoPrelude
fault_of kind.BadText = reading.BadText
fault_of (kind.UnknownName name) = reading.UnknownName name
fault_of (kind.NameTwice name) = reading.NameTwice name
fault_of kind.DkTooDeep = reading.DkTooDeep
fault_of kind.DkTooLong = reading.DkTooLong
