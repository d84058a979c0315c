use Rattle.std.proofs.Common.{◌≡◌, drop}
use Rattle.std.specs.Map.{lookup}
use Rattle.std.specs.Str.{bytes_eq}
use Rattle.bridge_base.specs.Opened.{as_files}
use Rattle.bridge_base.proofs.folder.place_of.Given as goal

abbrev pub invariant-loop-place : goal.invariant-loop-place
invariant-loop-place l = lookup (bytes_eq l.name) (as_files l.entries) ≡ lookup (bytes_eq l.name) (as_files (drop l.place l.entries))
