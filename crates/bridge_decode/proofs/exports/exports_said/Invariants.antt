use Rattle.std.specs.Prelude.{drop}
use Rattle.holide_sig.specs.Modules.{declarations_of}
use Rattle.bridge_spec.specs.FileExports.{SayBefore}
use Rattle.bridge_decode.proofs.Lines.{Continues}
use Rattle.bridge_decode.proofs.exports.exports_said.Given as goal

abbrev pub invariant-loop-i : goal.invariant-loop-i
invariant-loop-i l = Continues (declarations_of l.source) (drop l.i (declarations_of l.source)) l.text.items × SayBefore (declarations_of l.source) l.i
