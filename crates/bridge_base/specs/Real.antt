-- What contracts see of real files: whether one is begun, and how many calls failed.
use Rattle.std.specs.Prelude.{ℕ, Bool}

pub record RealShelf : Type 0 where
  pub begun : Bool
  pub faults : ℕ
