-- A reader whose table is lent to it.
use Rattle.std.specs.Prelude.{List}
use Rattle.lp_spec.specs.Trees.{Tree}
use Rattle.dk_read.specs.declared.sharing.SharingReader.{SharingReader}
use Rattle.dk_read.specs.States.{IsReading}
use Rattle.dk_read.specs.Readers.{Reading}
use Rattle.dk_read.specs.Sharing.{with_table, reading_of}

-- what the reader has come to, where it is lent this table
abbrev pub reading_over : SharingReader → List Tree → Reading
reading_over r trees = reading_of (with_table r.text trees)

-- it can go on where it is lent this table
abbrev pub IsGoingOver : SharingReader → List Tree → Type 0
IsGoingOver r trees = IsReading (with_table r.text trees).parser
