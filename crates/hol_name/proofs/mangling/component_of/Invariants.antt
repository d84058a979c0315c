use Rattle.std.proofs.Common.{◌≡◌, ◌≤◌, length}
use Rattle.hol_spec.specs.Mangling.{mangled_before, AreBytes}
use Rattle.hol_name.proofs.mangling.component_of.Given as goal

abbrev pub invariant-loop-byte : goal.invariant-loop-byte
invariant-loop-byte l = record { read : l.text ≡ mangled_before l.bytes.items l.rest; bytes : AreBytes l.bytes.items; shorter : length l.rest ≤ length l.text }

abbrev pub decreases-loop-byte : goal.decreases-loop-byte
decreases-loop-byte l = length l.rest
