use Rattle.std.specs.Prelude.{◌≡◌, ◌++◌}
use Rattle.hol_spec.specs.Mangling.{mangled}
use Rattle.hol_text.proofs.names.add_mangled.Given as goal

abbrev pub invariant-loop-byte : goal.invariant-loop-byte
invariant-loop-byte l = l.text.items ++ l.byte-iterator ≡ l.fn.text.items ++ mangled l.name
