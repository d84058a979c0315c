-- Calls that are counted, of which listed ones are to fail.
use Rattle.std.specs.Prelude.{ℕ, Bool, nat_eq, List}
use Rattle.std.specs.List.{list_any}
use Rattle.bridge_base.specs.Outside.{next_count}

-- how many calls were made, the numbers of those that are to fail, counted from 1, and how many failed
pub record Calls : Type 0 where
  pub made : ℕ
  pub failing : List ℕ
  pub faults : ℕ

-- whether the next call is one that is to fail
abbrev pub is_listed : Calls → Bool
is_listed calls = list_any (λ number. nat_eq number (next_count calls.made)) calls.failing

-- after one more call, which did not fail
abbrev pub passed : Calls → Calls
passed calls = record { made = next_count calls.made; failing = calls.failing; faults = calls.faults }

-- after one more call, which failed
abbrev pub failed : Calls → Calls
failed calls = record { made = next_count calls.made; failing = calls.failing; faults = next_count calls.faults }
