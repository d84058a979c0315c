-- A decoding of a file that is told has at most one answer that is due, and what comes by another cause is not due.
use Rattle.std.proofs.Common.{◌≡◌, ◌<◌, ℕ, zero, suc, List, [], ◌∷◌, Option, None, Some, IsTrue, Bool, true, false, refl, sym, ap, subst, ◌∙◌}
use Rattle.std.specs.Prelude.{is_some, slice_get, if◌then◌else◌}
use Rattle.bridge_base.specs.Outside.{Files}
use Rattle.hol_spec.specs.ClosedForm.{ClosedSequent}
use Rattle.lp_spec.specs.Modules.{Declaration}
use Rattle.translate_spec.specs.Enc.{Enc}
use Rattle.translate_spec.specs.Stands.{is_export_name}
use Rattle.lp_spec.specs.declared.fault_kind.DkKind.{DkKind}
use Rattle.bridge_spec.specs.FileChecks.{IsRefusedAt}
use Rattle.bridge_spec.specs.FileExports.{exports_of, AreDecoded, Says, SaysNothing, SayBefore, IsNotSequent}
use Rattle.bridge_spec.specs.Consequences.{IsDueOfDecode}
use Rattle.bridge_spec.specs.declared.status.Status.{Status}
use Rattle.bridge_spec.specs.declared.status.Status.TheVariants.{Done, Refused, Usage, ReadFault, WriteFault, Memory, DkRefused, IllTyped, OverBudget, NotSequent, Unwritable}
use Rattle.bridge_promise_laws.specs.OneDue.{neither-below, IsTextRefused, one_refusal, one_module, read_or_refused}

-- Of the declarations that are decoded, one that is an export says a closed sequent.
module _ (m : List Declaration) where
  chosen : (d : Declaration) (rest : List Declaration) (ss : List ClosedSequent) (b : Bool) → is_export_name d.name ≡ b
      → AreDecoded m (if b then d ∷ exports_of rest else exports_of rest) ss
      → (is_export_name d.name ≡ true → (s : ClosedSequent) × Enc m s d.ty) × ((tail : List ClosedSequent) × AreDecoded m (exports_of rest) tail)
  chosen d rest [] true e h = absurd h
  chosen d rest (s ∷ ss) true e h = (λ f. (s, h.0), (ss, h.1))
  chosen d rest ss false e h = (λ f. absurd (cc), (ss, h))

  AreDecoded-export : (ds : List Declaration) (ss : List ClosedSequent) → AreDecoded m (exports_of ds) ss → (i : ℕ) (d : Declaration) → slice_get ds i ≡ Some d
      → is_export_name d.name ≡ true
      → (s : ClosedSequent) × Enc m s d.ty
  AreDecoded-export [] ss h i d at export = absurd (cc)
  AreDecoded-export (c ∷ cs) ss h zero d at export =
      let same : c ≡ d = cc in
      subst (λ x. (s : ClosedSequent) × Enc m s x.ty) same ((chosen c cs ss (is_export_name c.name) refl h).0 (ap (λ x. is_export_name x.name) same ∙ export))
  AreDecoded-export (c ∷ cs) ss h (suc i) d at export =
      let rest = (chosen c cs ss (is_export_name c.name) refl h).1 in
      AreDecoded-export cs rest.0 rest.1 i d at export

  -- So no export says nothing.
  not_nothing : (ss : List ClosedSequent) (i : ℕ) {X : Type 0} → AreDecoded m (exports_of m) ss → SaysNothing m i → X
  not_nothing ss i h none = let said = AreDecoded-export m ss h i none.declaration none.at none.export in absurd (none.nothing said.0 said.1)

  -- Nor does one before the first that says nothing.
  not_before : (i j : ℕ) {X : Type 0} → i < j → SayBefore m j → SaysNothing m i → X
  not_before i j less before none = let said = before i none.declaration less none.at none.export in absurd (none.nothing said.0 said.1)

module _ (files : Files) (name : List ℕ) where
  decoded_due : (m : List Declaration) (ss : List ClosedSequent) → Says (Some files) name m ss → (due : Status) → IsDueOfDecode (Some files) name due
      → Done ≡ due
  decoded_due m ss h Done d = refl
  decoded_due m ss h (DkRefused p k) d = read_or_refused files name m p k h.file d
  decoded_due m ss h (NotSequent i) d = not_nothing m ss i h.decoded (subst (λ n. SaysNothing n i) (one_module files name d.m m d.file h.file) d.nothing)
  decoded_due m ss h (Refused article line kind) d = absurd d
  decoded_due m ss h Usage d = absurd d
  decoded_due m ss h ReadFault d = absurd d
  decoded_due m ss h WriteFault d = absurd d
  decoded_due m ss h Memory d = absurd d
  decoded_due m ss h (IllTyped i) d = absurd d
  decoded_due m ss h (OverBudget i) d = absurd d
  decoded_due m ss h Unwritable d = absurd d

  refused_due : (p : ℕ) (k : DkKind) → IsRefusedAt (Some files) name p k → (due : Status) → IsDueOfDecode (Some files) name due → DkRefused p k ≡ due
  refused_due p k h Done d = read_or_refused files name d.0 p k d.2.file h
  refused_due p k h (DkRefused q l) d = one_refusal h.text p q k l h.refused (subst (λ text. IsTextRefused text q l) (d.read ∙ sym h.read) d.refused)
  refused_due p k h (NotSequent i) d = read_or_refused files name d.m p k d.file h
  refused_due p k h (Refused article line kind) d = absurd d
  refused_due p k h Usage d = absurd d
  refused_due p k h ReadFault d = absurd d
  refused_due p k h WriteFault d = absurd d
  refused_due p k h Memory d = absurd d
  refused_due p k h (IllTyped i) d = absurd d
  refused_due p k h (OverBudget i) d = absurd d
  refused_due p k h Unwritable d = absurd d

  not_sequent_due : (i : ℕ) → IsNotSequent (Some files) name i → (due : Status) → IsDueOfDecode (Some files) name due → NotSequent i ≡ due
  not_sequent_due i h Done d = not_nothing d.0 d.1 i d.2.decoded (subst (λ n. SaysNothing n i) (one_module files name h.m d.0 h.file d.2.file) h.nothing)
  not_sequent_due i h (DkRefused p k) d = read_or_refused files name h.m p k h.file d
  not_sequent_due i h (NotSequent j) d =
      let same = one_module files name d.m h.m d.file h.file in
      ap NotSequent (neither-below i j
      (λ less. not_before h.m i j less (subst (λ n. SayBefore n j) same d.before) h.nothing)
      (λ less. not_before h.m j i less h.before (subst (λ n. SaysNothing n j) same d.nothing)))
  not_sequent_due i h (Refused article line kind) d = absurd d
  not_sequent_due i h Usage d = absurd d
  not_sequent_due i h ReadFault d = absurd d
  not_sequent_due i h WriteFault d = absurd d
  not_sequent_due i h Memory d = absurd d
  not_sequent_due i h (IllTyped j) d = absurd d
  not_sequent_due i h (OverBudget j) d = absurd d
  not_sequent_due i h Unwritable d = absurd d

-- Over a shelf that tells its files.
module _ (told : Option Files) (name : List ℕ) (tells : IsTrue (is_some told)) where
  pub decoded-due : (m : List Declaration) (ss : List ClosedSequent) → Says told name m ss → (due : Status) → IsDueOfDecode told name due → Done ≡ due
  decoded-due = by told tells
    where
      by : (o : Option Files) → IsTrue (is_some o) → (m : List Declaration) (ss : List ClosedSequent) → Says o name m ss → (due : Status)
          → IsDueOfDecode o name due → Done ≡ due
      by None t = absurd (cc)
      by (Some files) t = decoded_due files name

  pub refused-due : (p : ℕ) (k : DkKind) → IsRefusedAt told name p k → (due : Status) → IsDueOfDecode told name due → DkRefused p k ≡ due
  refused-due = by told tells
    where
      by : (o : Option Files) → IsTrue (is_some o) → (p : ℕ) (k : DkKind) → IsRefusedAt o name p k → (due : Status) → IsDueOfDecode o name due
          → DkRefused p k ≡ due
      by None t = absurd (cc)
      by (Some files) t = refused_due files name

  pub not_sequent-due : (i : ℕ) → IsNotSequent told name i → (due : Status) → IsDueOfDecode told name due → NotSequent i ≡ due
  not_sequent-due = by told tells
    where
      by : (o : Option Files) → IsTrue (is_some o) → (i : ℕ) → IsNotSequent o name i → (due : Status) → IsDueOfDecode o name due → NotSequent i ≡ due
      by None t = absurd (cc)
      by (Some files) t = not_sequent_due files name
