-- What a process is given as its command line, and what its number tells.
use Rattle.std.specs.Prelude.{ℕ, ◌≡◌, ◌⊎◌, List, take, Option, None, Result, Ok, Err, String}
use Rattle.std.specs.Vec.Iter.{into_iter_items, into_iter_len}
use Rattle.std.specs.declared.alloc.Global.{Global}
use Rattle.std.specs.declared.vec.IntoIter.{IntoIter}
use Rattle.std.specs.declared.io.Error.{Error}
use Rattle.std.specs.declared.io.ErrorKind.{ErrorKind}
use Rattle.std.specs.declared.io.ErrorKind.TheVariants.{InvalidData}
use Rattle.bridge_answer.specs.declared.answer.Answer.{Answer}
use Rattle.bridge_answer.specs.declared.answer.Answer.TheVariants as answer
use Rattle.bridge_spec.specs.Calls.{Call, form_in}
use Rattle.bridge_spec.specs.Forms.{Form}
use Rattle.bridge_spec.specs.Promises.{Promise}
use Rattle.bridge_spec.specs.Texts.{status_number}
use Rattle.bridge_spec.specs.declared.status.Status.{Status}
use Rattle.bridge_spec.specs.declared.status.Status.TheVariants.{WriteFault}

abbrev pub Words : Type 0
Words = IntoIter (String Global) Global

-- the words that are still to come
abbrev pub words_of : Words → List (String Global)
words_of words = take (into_iter_len words) (into_iter_items words)

-- the form of the words of a command line; none, where the system doesn't give them
abbrev pub form_given : Result Words Error → Option Form
form_given (Ok words) = form_in (words_of words)
form_given (Err error) = None

-- What is to be answered where the system doesn't give the words: a word that is not UTF-8 is in no form, and else memory was wanting.
abbrev pub without_words : ErrorKind → Answer
without_words InvalidData = answer.Usage
without_words _ = answer.Memory

-- this status, or a write fault, which replaced it
abbrev pub IsOrWriteFault : Status → Status → Type 0
IsOrWriteFault status result = (result ≡ status) ⊎ (result ≡ WriteFault)

-- the number of this status, or of a write fault, which replaced it
abbrev pub IsNumberOf : Status → ℕ → Type 0
IsNumberOf status number = (number ≡ status_number status) ⊎ (number ≡ status_number WriteFault)

-- the number of a status that keeps the promise of the call
pub record Ends (call : Call) (number : ℕ) : Type 0 where
  pub status : Status
  pub promise : Promise call status
  pub is : number ≡ status_number status
