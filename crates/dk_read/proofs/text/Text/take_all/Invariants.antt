use Rattle.std.proofs.Common.{◌≡◌, ◌+◌, length}
use Rattle.lp_spec.specs.ReadingFaults as reading
use Rattle.lp_term.specs.Tables.{Keeps}
use Rattle.dk_read.specs.States.{IsReading}
use Rattle.dk_read.specs.Texts.{inside}
use Rattle.dk_read.proofs.text.Text.take_all.Given as goal

abbrev pub invariant-loop-rest : goal.invariant-loop-rest
invariant-loop-rest l = record {
  sound : IsReading l.self.parser;
  keeps : Keeps l.fn.self.parser.module.table l.self.parser.module.table;
  taken : reading.read_bytes (inside l.self) l.rest ≡ reading.read_bytes (inside l.fn.self) l.fn.piece;
  place : l.self.place + length l.rest ≡ l.fn.self.place + length l.fn.piece;
}

abbrev pub decreases-loop-rest : goal.decreases-loop-rest
decreases-loop-rest l = length l.rest
