-- What a call does comes of its outputs and of what the outside keeps.
use Rattle.std.proofs.Common.{◌≡◌, ◌≤◌, [], None, Some, refl, sym, subst, Option}
use Rattle.bridge_base.specs.Outside.{Begins}
use Rattle.bridge_spec.specs.Forms.{Form, verify, translate, check, show, decode, trial}
use Rattle.bridge_spec.specs.Texts.{usage_line, memory_line}
use Rattle.bridge_spec.specs.Calls.{Shelved, Call}
use Rattle.bridge_spec.specs.Answers.{FormAnswers}
use Rattle.bridge_spec.specs.Begun.{names_of}
use Rattle.bridge_spec.specs.Outputs.{Delivers, Outputs}
use Rattle.bridge_spec.specs.Promises.{Performs}
use Rattle.bridge_answer.specs.Beginning.{begins_none_of_same, begins_front_of_same}
use Rattle.bridge_spec.specs.declared.status.Status.{Status}
use Rattle.bridge_spec.specs.declared.status.Status.TheVariants.{Usage, Memory}

-- What a call does is its outputs, and what the outside keeps.
pub outputs-Performs : (call : Call) (result : Status) → Outputs call result → call.shelf.told ≡ call.shelf.told_before
    → call.shelf.faults_before ≤ call.shelf.faults → call.out.faults_before ≤ call.out.faults → call.note.faults_before ≤ call.note.faults
    → Performs call result
outputs-Performs call result h told shelf_count out_count note_count = record {
  outputs = h;
  told_kept = told;
  shelf_count = shelf_count;
  out_count = out_count;
  note_count = note_count;
}

-- Words that are no form: the usage line is delivered, and nothing else is done.
pub usage-Performs : (call : Call) (result : Status) → call.form ≡ None → Delivers Usage [] usage_line call.out call.note result
    → call.shelf.begun ≡ call.shelf.begun_before → call.shelf.told ≡ call.shelf.told_before
    → call.shelf.faults_before ≤ call.shelf.faults → call.out.faults_before ≤ call.out.faults → call.note.faults_before ≤ call.note.faults
    → Performs call result
usage-Performs call result none d begun =
    outputs-Performs call result (record {
      answer = Usage;
      out_text = [];
      note_text = usage_line;
      answers = subst (λ form. FormAnswers form call.shelf Usage [] usage_line) (sym none) (refl, refl);
      begins = subst (λ form. Begins call.shelf.begun_before (names_of form) call.shelf.begun) (sym none)
          (begins_none_of_same call.shelf.begun_before call.shelf.begun begun);
      delivered = d;
    })

-- Want of memory is an answer to any words.
memory-answers : (form : Option Form) (shelf : Shelved) → FormAnswers form shelf Memory [] memory_line
memory-answers None shelf = (refl, refl)
memory-answers (Some (verify share fast names)) shelf = (refl, refl)
memory-answers (Some (translate share names)) shelf = (refl, refl)
memory-answers (Some (check fast name budget)) shelf = (refl, refl)
memory-answers (Some (show names)) shelf = (refl, refl)
memory-answers (Some (decode name)) shelf = (refl, refl)
memory-answers (Some (trial n)) shelf = (refl, refl)
memory-answers (Some (Form.article names)) shelf = (refl, refl)

-- Where there is no memory for the words, that is told, and nothing else is done.
pub memory-Performs : (call : Call) (result : Status) → Delivers Memory [] memory_line call.out call.note result → call.shelf.begun ≡ call.shelf.begun_before
    → call.shelf.told ≡ call.shelf.told_before
    → call.shelf.faults_before ≤ call.shelf.faults → call.out.faults_before ≤ call.out.faults → call.note.faults_before ≤ call.note.faults
    → Performs call result
memory-Performs call result d begun =
    outputs-Performs call result (record {
      answer = Memory;
      out_text = [];
      note_text = memory_line;
      answers = memory-answers call.form call.shelf;
      begins = begins_front_of_same call.shelf.begun_before call.shelf.begun (names_of call.form) begun;
      delivered = d;
    })
