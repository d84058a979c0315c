use Rattle.std.proofs.Common.{ap, ◌∙◌}
use Rattle.hol_spec.specs.Proofs.{symbols_of}
use Rattle.stack_machine.proofs.machine.Machine.symbols.Goals as goal

pub returns : goal.returns
returns c = record { symbols = (c.proof.result.now.trees, c.symbols.ensures.known, c.symbols.ensures.are ∙ ap symbols_of c.proof.ensures) }
