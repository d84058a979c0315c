use Rattle.std.proofs.Common.{◌≡◌, drop}
use Rattle.decode_spec.specs.Decode.{behind}
use Rattle.decode_back.proofs.symbols.rest_behind.Given as goal

abbrev pub invariant-loop-byte : goal.invariant-loop-byte
invariant-loop-byte l = behind l.front l.text ≡ behind (drop l.byte-index l.front) l.rest
