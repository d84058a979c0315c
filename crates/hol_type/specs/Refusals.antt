-- When something of a size and a depth is refused: where it passes the limit of size, and else where it passes that of depth.
-- Source: the limits are this bridge's own.
use Rattle.std.specs.Prelude.{ℕ, ◌<◌, ◌≤◌}
use Rattle.hol_spec.specs.Types.{HolType}
use Rattle.hol_spec.specs.Limits.{greatest_size, greatest_depth, type_size, type_depth}
use Rattle.common.specs.declared.faults.Fault.{Fault}
use Rattle.common.specs.declared.faults.Fault.TheVariants.{Refused, Memory}
use Rattle.common.specs.declared.faults.Kind.{Kind}
use Rattle.common.specs.declared.faults.Kind.TheVariants.{TooLarge, TooDeep}

-- the limit that is named is the first that the size and the depth pass
abbrev pub PassesLimit : Kind → ℕ → ℕ → Type 0
PassesLimit TooLarge size depth = greatest_size < size
PassesLimit TooDeep size depth = (size ≤ greatest_size) × (greatest_depth < depth)
PassesLimit _ size depth = ⊥

-- a fault of what would have this size and depth: it passes the limit that is named, or memory ran out
abbrev pub Refuses : Fault → ℕ → ℕ → Type 0
Refuses (Refused kind) size depth = PassesLimit kind size depth
Refuses Memory size depth = Unit {0}

-- a fault of a call that would make this type
abbrev pub RefusesType : Fault → HolType → Type 0
RefusesType fault t = Refuses fault (type_size t) (type_depth t)
