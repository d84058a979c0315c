-- A check of a file that is told has at most one answer that is due, and what comes by another cause is not due.
use Rattle.std.proofs.Common.{◌≡◌, ◌<◌, ◌≤◌, ℕ, List, length, take, Option, None, Some, IsTrue, Bool, true, false, refl, sym, ap, ap₂, subst, ◌∙◌, arith, ⊎_elim}
use Rattle.std.specs.Prelude.{is_some, nat_le, if◌then◌else◌}
use Rattle.std.proofs.lemmas.Bool.{cases_lt}
use Rattle.std.proofs.lemmas.Grind.{common_steps}
use Rattle.std.proofs.lemmas.Option.{slice_get_within}
use Rattle.bridge_base.specs.Outside.{Files}
use Rattle.lp_spec.specs.Trees.{Tree}
use Rattle.lp_spec.specs.Modules.{Declaration}
use Rattle.lp_spec.specs.Reading.{Reads}
use Rattle.lp_spec.specs.ReadingFaults.{Fault, NoPrelude, BadText, UnknownName, NameTwice, DkTooDeep, DkTooLong, refusal, reads, refused, answer, answer_within, cut_at, read_bytes, unread}
use Rattle.lp_spec.specs.Faults.{IsLeastWithin}
use Rattle.lp_spec.specs.Check.{Found, No}
use Rattle.lp_check_laws.specs.CheckLaws.{Found-No}
use Rattle.lp_spec.specs.FastCheck.{CheckBy}
use Rattle.lp_fast_laws.specs.FastPrices.{check-at, one_check}
use Rattle.dk_laws.specs.ReadingLaws.{Reads-answer}
use Rattle.dk_laws.specs.LeastWithin.{least-answered}
use Rattle.lp_spec.specs.FaultKinds.{fault_of}
use Rattle.lp_spec.specs.declared.fault_kind.DkKind.{DkKind}
use Rattle.lp_spec.specs.declared.fault_kind.DkKind.TheVariants as kind
use Rattle.bridge_spec.specs.FileChecks.{max_file, ReadsAs, IsRefusedAt, IsAccepted, IsIllTyped, IsOverBudget}
use Rattle.bridge_spec.specs.Consequences.{IsDueOfCheck}
use Rattle.bridge_spec.specs.declared.status.Status.{Status}
use Rattle.bridge_spec.specs.declared.status.Status.TheVariants.{Done, Refused, Usage, ReadFault, WriteFault, Memory, DkRefused, IllTyped, OverBudget, NotSequent, Unwritable}

-- A declaration that passes doesn't fail.
pub not-both : (rechecks : Bool) (m : List Declaration) (i : ℕ) (t : Tree) (n k : ℕ) {X : Type 0} → CheckBy rechecks m i (Found t) n → CheckBy rechecks m i No k
    → X
not-both rechecks m i t n k c d = absurd (Found-No (one_check rechecks m i (Found t) No n k c d).0)

-- Two numbers are equal where neither is below the other.
pub neither-below : (i j : ℕ) → (i < j → ⊥) → (j < i → ⊥) → i ≡ j
neither-below i j f g = ⊎_elim (λ less. absurd (f less)) (λ no. ⊎_elim (λ less. absurd (g less)) (λ other. omega (arith, no, other)) (cases_lt j i))
    (cases_lt i j)

-- A text within the limit of files that reads as a module has it for its answer.
within-answer : (text : List ℕ) (m : List Declaration) (b : Bool) → nat_le (length text) max_file ≡ b → length text ≤ max_file → Reads text m
    → (if b then answer text else cut_at max_file (read_bytes unread (take max_file text))) ≡ reads m
within-answer text m true e within h = Reads-answer text m h
within-answer text m false e within h = absurd (grind (arith, common_steps, e, within))

Reads-within : (text : List ℕ) (m : List Declaration) → length text ≤ max_file → Reads text m → answer_within (Some max_file) text ≡ reads m
Reads-within text m within h = within-answer text m (nat_le (length text) max_file) refl within h

-- The kind of a fault.
kind_of : Fault → DkKind
kind_of NoPrelude = kind.NoPrelude
kind_of BadText = kind.BadText
kind_of (UnknownName name) = kind.UnknownName name
kind_of (NameTwice name) = kind.NameTwice name
kind_of DkTooDeep = kind.DkTooDeep
kind_of DkTooLong = kind.DkTooLong

kind_of-fault_of : (k : DkKind) → kind_of (fault_of k) ≡ k
unfolding kind_of
kind_of-fault_of kind.NoPrelude = refl
kind_of-fault_of kind.BadText = refl
kind_of-fault_of (kind.UnknownName name) = refl
kind_of-fault_of (kind.NameTwice name) = refl
kind_of-fault_of kind.DkTooDeep = refl
kind_of-fault_of kind.DkTooLong = refl

-- a text is refused at this byte, for this fault
abbrev pub IsTextRefused : List ℕ → ℕ → DkKind → Type 0
IsTextRefused text place kind = IsLeastWithin (Some max_file) text (refusal place (fault_of kind))

-- A text is refused at one byte, for one fault.
pub one_refusal : (text : List ℕ) (p q : ℕ) (k l : DkKind) → IsTextRefused text p k → IsTextRefused text q l → DkRefused p k ≡ DkRefused q l
one_refusal text p q k l h g =
    let answered = least-answered (Some max_file) text in
    let two : refused (refusal p (fault_of k)) ≡ refused (refusal q (fault_of l)) =
    sym (answered (refusal p (fault_of k)) h) ∙ answered (refusal q (fault_of l)) g in
    let same : refusal p (fault_of k) ≡ refusal q (fault_of l) = cc in
    let kinds : k ≡ l = sym (kind_of-fault_of k) ∙ ap (λ r. kind_of r.fault) same ∙ kind_of-fault_of l in
    ap₂ DkRefused (ap (λ r. r.place) same) kinds

-- A text is not both read and refused.
reads-or-refused : (text : List ℕ) (m : List Declaration) (p : ℕ) (k : DkKind) {X : Type 0} → length text ≤ max_file → Reads text m → IsTextRefused text p k → X
reads-or-refused text m p k within h g =
    let r = refusal p (fault_of k) in
    let two : reads m ≡ refused r = sym (Reads-within text m within h) ∙ least-answered (Some max_file) text r g in absurd (cc)

module _ (files : Files) (name : List ℕ) where
  -- A file that is told reads as one module, and is not refused.
  pub one_module : (m n : List Declaration) → ReadsAs (Some files) name m → ReadsAs (Some files) name n → m ≡ n
  one_module m n h g = sym (h.only n (subst (λ text. Reads text n) (g.read ∙ sym h.read) g.reads))

  pub read_or_refused : (m : List Declaration) (p : ℕ) (k : DkKind) {X : Type 0} → ReadsAs (Some files) name m → IsRefusedAt (Some files) name p k → X
  read_or_refused m p k h g = reads-or-refused h.text m p k h.within h.reads (subst (λ text. IsTextRefused text p k) (g.read ∙ sym h.read) g.refused)

  module _ (rechecks : Bool) (budget : ℕ) where
    accepted_due : (m : List Declaration) → IsAccepted rechecks (Some files) name m → (due : Status) → IsDueOfCheck rechecks (Some files) name budget due
        → Done ≡ due
    accepted_due m h Done d = refl
    accepted_due m h (DkRefused p k) d = read_or_refused m p k h.file d
    accepted_due m h (IllTyped i) d =
        let no = subst (λ n. CheckBy rechecks n i No d.no.price) (one_module d.m m d.file h.file) d.no.by in
        let at = check-at m i rechecks No d.no.price no in
        let passes = h.pass i (slice_get_within m i at.0 at.1) in
        not-both rechecks m i passes.found passes.price d.no.price passes.by no
    accepted_due m h (Refused article line kind) d = absurd d
    accepted_due m h Usage d = absurd d
    accepted_due m h ReadFault d = absurd d
    accepted_due m h WriteFault d = absurd d
    accepted_due m h Memory d = absurd d
    accepted_due m h (OverBudget i) d = absurd d
    accepted_due m h (NotSequent i) d = absurd d
    accepted_due m h Unwritable d = absurd d

    refused_due : (p : ℕ) (k : DkKind) → IsRefusedAt (Some files) name p k → (due : Status) → IsDueOfCheck rechecks (Some files) name budget due
        → DkRefused p k ≡ due
    refused_due p k h Done d = read_or_refused d.m p k d.file h
    refused_due p k h (DkRefused q l) d = one_refusal h.text p q k l h.refused (subst (λ text. IsTextRefused text q l) (d.read ∙ sym h.read) d.refused)
    refused_due p k h (IllTyped i) d = read_or_refused d.m p k d.file h
    refused_due p k h (Refused article line kind) d = absurd d
    refused_due p k h Usage d = absurd d
    refused_due p k h ReadFault d = absurd d
    refused_due p k h WriteFault d = absurd d
    refused_due p k h Memory d = absurd d
    refused_due p k h (OverBudget i) d = absurd d
    refused_due p k h (NotSequent i) d = absurd d
    refused_due p k h Unwritable d = absurd d

    ill_typed_due : (i : ℕ) → IsIllTyped rechecks (Some files) name i → (due : Status) → IsDueOfCheck rechecks (Some files) name budget due → IllTyped i ≡ due
    ill_typed_due i h Done d =
        let no = subst (λ n. CheckBy rechecks n i No h.price) (one_module h.m d.m h.file d.file) h.no in
        let at = check-at d.m i rechecks No h.price no in
        let passes = d.pass i (slice_get_within d.m i at.0 at.1) in
        not-both rechecks d.m i passes.0 passes.1.price h.price passes.1.by no
    ill_typed_due i h (DkRefused p k) d = read_or_refused h.m p k h.file d
    ill_typed_due i h (IllTyped j) d =
        let same = one_module d.m h.m d.file h.file in
        ap IllTyped (neither-below i j
        (λ less. let passes = d.before i less in not-both rechecks d.m i passes.0 passes.1.price h.price passes.1.by
        (subst (λ n. CheckBy rechecks n i No h.price) (sym same) h.no))
        (λ less. let passes = h.before j less in not-both rechecks h.m j passes.found passes.price d.no.price passes.by
        (subst (λ n. CheckBy rechecks n j No d.no.price) same d.no.by)))
    ill_typed_due i h (Refused article line kind) d = absurd d
    ill_typed_due i h Usage d = absurd d
    ill_typed_due i h ReadFault d = absurd d
    ill_typed_due i h WriteFault d = absurd d
    ill_typed_due i h Memory d = absurd d
    ill_typed_due i h (OverBudget j) d = absurd d
    ill_typed_due i h (NotSequent j) d = absurd d
    ill_typed_due i h Unwritable d = absurd d

    over_budget_due : (i : ℕ) → IsOverBudget rechecks (Some files) name budget i → (due : Status) → IsDueOfCheck rechecks (Some files) name budget due → ⊥
    over_budget_due i h Done d =
        let same = one_module d.m h.m d.file h.file in
        let passes = d.pass i (subst (λ n. i < length n) (sym same) h.is) in
        absurd (omega (
          arith,
          passes.1.within,
          h.over (Found passes.0) passes.1.price (subst (λ n. CheckBy rechecks n i (Found passes.0) passes.1.price) same passes.1.by),
        ))
    over_budget_due i h (DkRefused p k) d = read_or_refused h.m p k h.file d
    over_budget_due i h (IllTyped j) d =
        let same = one_module d.m h.m d.file h.file in
        let equal : i ≡ j = neither-below i j
        (λ less. let passes = d.before i less in absurd
        (omega (
          arith,
          passes.1.within,
          h.over (Found passes.0) passes.1.price
              (subst (λ n. CheckBy rechecks n i (Found passes.0) passes.1.price) same passes.1.by),
        )))
        (λ less. let passes = h.before j less in not-both rechecks h.m j passes.found passes.price d.no.price passes.by
        (subst (λ n. CheckBy rechecks n j No d.no.price) same d.no.by)) in
        absurd (omega (
          arith,
          d.no.within,
          h.over No d.no.price
              (subst (λ k. CheckBy rechecks h.m k No d.no.price) (sym equal) (subst (λ n. CheckBy rechecks n j No d.no.price) same d.no.by)),
        ))
    over_budget_due i h (Refused article line kind) d = absurd d
    over_budget_due i h Usage d = absurd d
    over_budget_due i h ReadFault d = absurd d
    over_budget_due i h WriteFault d = absurd d
    over_budget_due i h Memory d = absurd d
    over_budget_due i h (OverBudget j) d = absurd d
    over_budget_due i h (NotSequent j) d = absurd d
    over_budget_due i h Unwritable d = absurd d

-- Over a shelf that tells its files.
module _ (rechecks : Bool) (told : Option Files) (name : List ℕ) (budget : ℕ) (tells : IsTrue (is_some told)) where
  pub accepted-due : (m : List Declaration) → IsAccepted rechecks told name m → (due : Status) → IsDueOfCheck rechecks told name budget due → Done ≡ due
  accepted-due = by told tells
    where
      by : (o : Option Files) → IsTrue (is_some o) → (m : List Declaration) → IsAccepted rechecks o name m → (due : Status)
          → IsDueOfCheck rechecks o name budget due → Done ≡ due
      by None t = absurd (cc)
      by (Some files) t = accepted_due files name rechecks budget

  pub refused-due : (p : ℕ) (k : DkKind) → IsRefusedAt told name p k → (due : Status) → IsDueOfCheck rechecks told name budget due → DkRefused p k ≡ due
  refused-due = by told tells
    where
      by : (o : Option Files) → IsTrue (is_some o) → (p : ℕ) (k : DkKind) → IsRefusedAt o name p k → (due : Status) → IsDueOfCheck rechecks o name budget due
          → DkRefused p k ≡ due
      by None t = absurd (cc)
      by (Some files) t = refused_due files name rechecks budget

  pub ill_typed-due : (i : ℕ) → IsIllTyped rechecks told name i → (due : Status) → IsDueOfCheck rechecks told name budget due → IllTyped i ≡ due
  ill_typed-due = by told tells
    where
      by : (o : Option Files) → IsTrue (is_some o) → (i : ℕ) → IsIllTyped rechecks o name i → (due : Status) → IsDueOfCheck rechecks o name budget due
          → IllTyped i ≡ due
      by None t = absurd (cc)
      by (Some files) t = ill_typed_due files name rechecks budget

  pub over_budget-due : (i : ℕ) → IsOverBudget rechecks told name budget i → (due : Status) → IsDueOfCheck rechecks told name budget due → ⊥
  over_budget-due = by told tells
    where
      by : (o : Option Files) → IsTrue (is_some o) → (i : ℕ) → IsOverBudget rechecks o name budget i → (due : Status) → IsDueOfCheck rechecks o name budget due
          → ⊥
      by None t = absurd (cc)
      by (Some files) t = over_budget_due files name rechecks budget
