-- The texts of an answer.
use Rattle.std.specs.Prelude.{ℕ, List, []}
use Rattle.lp_spec.specs.FaultKinds.{fault_of}
use Rattle.bridge_spec.specs.Texts.{refusal_line, usage_line, read_fault_line, memory_line, dk_refusal_line, ill_typed_line, over_budget_line, not_sequent_line, unwritable_line}
use Rattle.bridge_spec.specs.declared.status.Status.{Status}
use Rattle.bridge_spec.specs.declared.status.Status.TheVariants as status
use Rattle.bridge_answer.specs.declared.answer.Answer.{Answer}
use Rattle.bridge_answer.specs.declared.answer.Answer.TheVariants.{Told, Refused, Usage, ReadFault, Memory, DkRefused, IllTyped, OverBudget, NotSequent, Unwritable}

-- the status of an answer
abbrev pub status_of : Answer → Status
status_of (Told text) = status.Done
status_of (Refused article line kind) = status.Refused article line kind
status_of Usage = status.Usage
status_of ReadFault = status.ReadFault
status_of Memory = status.Memory
status_of (DkRefused place kind) = status.DkRefused place kind
status_of (IllTyped i) = status.IllTyped i
status_of (OverBudget i) = status.OverBudget i
status_of (NotSequent i) = status.NotSequent i
status_of Unwritable = status.Unwritable

-- its text on standard output
abbrev pub text_of : Answer → List ℕ
text_of (Told text) = text.items
text_of _ = []

-- its text on standard error
abbrev pub note_of : Answer → List ℕ
note_of (Told text) = []
note_of (Refused article line kind) = refusal_line article line kind
note_of Usage = usage_line
note_of ReadFault = read_fault_line
note_of Memory = memory_line
note_of (DkRefused place kind) = dk_refusal_line place (fault_of kind)
note_of (IllTyped i) = ill_typed_line i
note_of (OverBudget i) = over_budget_line i
note_of (NotSequent i) = not_sequent_line i
note_of Unwritable = unwritable_line
