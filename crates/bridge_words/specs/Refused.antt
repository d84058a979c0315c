-- What is answered where the words have no matches.
use Rattle.std.specs.Prelude.{Option, None, Result, Ok, Err}
use Rattle.clap.specs.declared.error.kind.ErrorKind.{ErrorKind}
use Rattle.clap.specs.declared.error.kind.ErrorKind.TheVariants.{OutOfMemory}
use Rattle.common.specs.declared.faults.Memory.{Memory}
use Rattle.bridge_words.specs.declared.form.Form.{Form}

-- want of memory, or else no form
abbrev pub refused : ErrorKind → Result (Option Form) Memory
refused OutOfMemory = Err (record {})
refused _ = Ok None
