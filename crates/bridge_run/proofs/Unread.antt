-- What is answered where the system doesn't give the words.
use Rattle.std.proofs.Common.{◌≡◌, ◌≤◌, inl, inr, ◌∙◌, ℕ, List, None, ap}
use Rattle.std.specs.declared.io.ErrorKind.{ErrorKind}
use Rattle.std.specs.declared.io.ErrorKind.TheVariants.{InvalidData}
use Rattle.bridge_answer.specs.AnswerTexts.{status_of, text_of, note_of}
use Rattle.bridge_laws.specs.FormPromises.{Performs-Promise}
use Rattle.bridge_answer.specs.Performed.{usage-Performs, memory-Performs}
use Rattle.bridge_spec.specs.Calls.{Sunk, Call}
use Rattle.bridge_spec.specs.Outputs.{Delivers}
use Rattle.bridge_spec.specs.Promises.{Promise}
use Rattle.bridge_spec.specs.Texts.{status_number}
use Rattle.bridge_spec.specs.declared.status.Status.{Status}
use Rattle.bridge_run.specs.CommandLine.{without_words, IsOrWriteFault, IsNumberOf}

-- Without words there is no form, and the answer that they are given keeps the promise of none.
pub without_words-Promise : (kind : ErrorKind) (call : Call) (result : Status) → call.form ≡ None
    → Delivers (status_of (without_words kind)) (text_of (without_words kind)) (note_of (without_words kind)) call.out call.note result
    → call.shelf.begun ≡ call.shelf.begun_before → call.shelf.told ≡ call.shelf.told_before
    → call.shelf.faults_before ≤ call.shelf.faults → call.out.faults_before ≤ call.out.faults → call.note.faults_before ≤ call.note.faults → Promise call result
without_words-Promise InvalidData call result none d begun told shelf_count out_count note_count =
    Performs-Promise call result (usage-Performs call result none d begun told shelf_count out_count note_count)
without_words-Promise _ call result none d begun told shelf_count out_count note_count =
    Performs-Promise call result (memory-Performs call result d begun told shelf_count out_count note_count)

-- What is delivered is its answer or a write fault.
pub delivered-IsOrWriteFault : (answer result : Status) (out_text note_text : List ℕ) (out note : Sunk) → Delivers answer out_text note_text out note result
    → IsOrWriteFault answer result
delivered-IsOrWriteFault answer result out_text note_text out note (inl d) = inl d.0
delivered-IsOrWriteFault answer result out_text note_text out note (inr d) = inr d.0

-- .. and so is its number.
pub status_number-IsNumberOf : (answer result : Status) (number : ℕ) → IsOrWriteFault answer result → number ≡ status_number result → IsNumberOf answer number
status_number-IsNumberOf answer result number (inl same) is = inl (is ∙ ap status_number same)
status_number-IsNumberOf answer result number (inr fault) is = inr (is ∙ ap status_number fault)
