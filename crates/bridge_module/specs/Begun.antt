-- A call that began each of its files began them as it promises.
use Rattle.std.proofs.Common.{◌≤◌, ℕ, List, length, take, Option, sym, subst, arith}
use Rattle.std.proofs.Math.Seq.{take-length}
use Rattle.bridge_base.specs.Outside.{Begins, BeginsFront}
use Rattle.common.specs.declared.faults.Kind.{Kind}
use Rattle.bridge_spec.specs.Begun.{BeginsFiles}
use Rattle.bridge_spec.specs.declared.status.Status.{Status}
use Rattle.bridge_spec.specs.declared.status.Status.TheVariants as status

-- the whole is a front of itself
whole-BeginsFront : (before now : Option (List (List ℕ))) (names : List (List ℕ)) → Begins before names now → BeginsFront before names now
whole-BeginsFront before now names begun = (length names, omega arith, subst (λ ns. Begins before ns now) (sym (take-length names)) begun)

-- where all files were begun, that is what each answer but a refusal of an article asks for
pub whole-BeginsFiles : (Is : Status → Type 0) → ((article line : ℕ) (kind : Kind) → Is (status.Refused article line kind) → ⊥) → (answer : Status) → Is answer
    → (before now : Option (List (List ℕ))) (names : List (List ℕ)) → Begins before names now → BeginsFiles answer before names now
whole-BeginsFiles Is never (status.Refused article line kind) is before now names begun = absurd (never article line kind is)
whole-BeginsFiles Is never status.ReadFault is before now names begun = whole-BeginsFront before now names begun
whole-BeginsFiles Is never status.Memory is before now names begun = whole-BeginsFront before now names begun
whole-BeginsFiles Is never status.Done is before now names begun = begun
whole-BeginsFiles Is never status.Usage is before now names begun = begun
whole-BeginsFiles Is never status.WriteFault is before now names begun = begun
whole-BeginsFiles Is never (status.DkRefused place kind) is before now names begun = begun
whole-BeginsFiles Is never (status.IllTyped i) is before now names begun = begun
whole-BeginsFiles Is never (status.OverBudget i) is before now names begun = begun
whole-BeginsFiles Is never (status.NotSequent i) is before now names begun = begun
whole-BeginsFiles Is never status.Unwritable is before now names begun = begun
