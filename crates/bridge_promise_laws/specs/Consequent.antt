-- What follows from the promise of a call comes of its outputs. Each form has the facts on its answers that this rests on.
use Rattle.std.proofs.Common.{◌≡◌, ◌≤◌, ◌⊎◌, inl, inr, ℕ, zero, suc, Bool, true, false, List, [], ◌∷◌, map, length, slice_get, Option, None, Some, IsTrue, refl, sym, ap, subst, ◌∙◌, arith}
use Rattle.std.specs.Prelude.{is_some, not}
use Rattle.std.specs.List.{AllByRecursion}
use Rattle.std.proofs.lemmas.Option.{same_Some}
use Rattle.std.proofs.lemmas.List.{append-nil}
use Rattle.bridge_base.specs.Outside.{Files, Gains, file}
use Rattle.common.specs.declared.faults.Kind.{Kind}
use Rattle.hol_spec.specs.Proofs.{Accepted}
use Rattle.hol_spec.specs.declared.Version.{Version}
use Rattle.lp_spec.specs.Modules.{Declaration}
use Rattle.lp_spec.specs.Reading.{Reads}
use Rattle.lp_spec.specs.Typing.{WellTyped}
use Rattle.lp_spec.specs.Weight.{bound}
use Rattle.lp_spec.specs.Check.{Found, No}
use Rattle.lp_spec.specs.FastCheck.{CheckBy}
use Rattle.lp_fast_laws.specs.FastPrices.{check-at, fast_passes}
use Rattle.article_spec.specs.Run.{Outcome, accepted, refused_at, Run}
use Rattle.bridge_spec.specs.Forms.{Form, verify, translate, check, show, decode, trial}
use Rattle.bridge_spec.specs.Headline.{Headline, ModuleStands}
use Rattle.bridge_spec.specs.Articles.{IsRetold}
use Rattle.bridge_laws.specs.Headlines.{declaration-at, each_run_carries}
use Rattle.bridge_spec.specs.Texts.{counts_of, five_lines, six_lines, shown_text, module_bounds, module_of, module_text}
use Rattle.bridge_spec.specs.Calls.{Shelved, Sunk, Call}
use Rattle.bridge_spec.specs.FileChecks.{ReadsAs, IsAccepted, IsIllTyped, EndsWithin}
use Rattle.bridge_spec.specs.Answers.{RunsTo, IsRunOf, FormArticle, HasArticle, ReadFailed, AnswersRun, FormAnswers}
use Rattle.bridge_spec.specs.Outputs.{Gained, Failed, Delivers, Outputs}
use Rattle.bridge_spec.specs.Consequences.{PassesWithin, ReadsWellTyped, IsAnswerOfRun, answer_of, IsDue, ReadWell, Aside, KeepsOut, WritesModule, HasModule, FormUnwritable, Consequences, EachPromiseBears}
use Rattle.bridge_spec.specs.declared.status.Status.{Status}
use Rattle.bridge_spec.specs.declared.status.Status.TheVariants.{Done, Refused, Usage, ReadFault, WriteFault, Memory, DkRefused, IllTyped, OverBudget, NotSequent, Unwritable}
use Rattle.bridge_promise_laws.specs.OneDue as checking
use Rattle.bridge_promise_laws.specs.OneDecoding as decoding
use Rattle.bridge_promise_laws.specs.OneRun.{RunsTo-unique}
use Rattle.bridge_promise_laws.specs.OneRun as running

-- What is asked of the answers of a form, before anything is written.
pub record AreAnswers (form : Option Form) (shelf : Shelved) : Type 0 where
  -- the answer is the one that is due
  pub exact : ReadWell shelf → (answer due : Status) (out note : List ℕ) → FormAnswers form shelf answer out note → IsDue form shelf.told_before due
      → Aside answer (answer ≡ due)
  -- only words that are no form are answered with Usage
  pub usage : (out note : List ℕ) → FormAnswers form shelf Usage out note → form ≡ None
  -- a read fault has its cause
  pub read_fault : (out note : List ℕ) → FormAnswers form shelf ReadFault out note → ReadFailed shelf
  -- a write fault is no answer before anything is written
  pub write_fault : (out note : List ℕ) → FormAnswers form shelf WriteFault out note → ⊥
  -- Unwritable has its cause
  pub unwritable : (out note : List ℕ) → FormAnswers form shelf Unwritable out note → FormUnwritable form shelf.told_before
  -- any answer but Done writes nothing to standard output
  pub quiet : (answer : Status) (out note : List ℕ) → FormAnswers form shelf answer out note → (answer ≡ Done → ⊥) → out ≡ []

-- What holds of every answer holds of each, want of memory and a failing write aside.
aside : (status : Status) (fact : Type 0) → fact → Aside status fact
aside Done fact h = h
aside (Refused article line kind) fact h = h
aside Usage fact h = h
aside ReadFault fact h = h
aside WriteFault fact h = tt
aside Memory fact h = tt
aside (DkRefused place kind) fact h = h
aside (IllTyped i) fact h = h
aside (OverBudget i) fact h = h
aside (NotSequent i) fact h = h
aside Unwritable fact h = h

-- No form: one answer, want of memory aside.
no_form-usage : (shelf : Shelved) (answer : Status) (out note : List ℕ) → FormAnswers None shelf answer out note → Aside answer (answer ≡ Usage)
no_form-usage shelf Done out note h = absurd h
no_form-usage shelf (Refused article line kind) out note h = absurd h
no_form-usage shelf Usage out note h = refl
no_form-usage shelf ReadFault out note h = absurd h
no_form-usage shelf WriteFault out note h = tt
no_form-usage shelf Memory out note h = tt
no_form-usage shelf (DkRefused place kind) out note h = absurd h
no_form-usage shelf (IllTyped i) out note h = absurd h
no_form-usage shelf (OverBudget i) out note h = absurd h
no_form-usage shelf (NotSequent i) out note h = absurd h
no_form-usage shelf Unwritable out note h = absurd h

no_form-quiet : (shelf : Shelved) (answer : Status) (out note : List ℕ) → FormAnswers None shelf answer out note → out ≡ []
no_form-quiet shelf Done out note h = absurd h
no_form-quiet shelf (Refused article line kind) out note h = absurd h
no_form-quiet shelf Usage out note h = h.0
no_form-quiet shelf ReadFault out note h = absurd h
no_form-quiet shelf WriteFault out note h = absurd h
no_form-quiet shelf Memory out note h = h.0
no_form-quiet shelf (DkRefused place kind) out note h = absurd h
no_form-quiet shelf (IllTyped i) out note h = absurd h
no_form-quiet shelf (OverBudget i) out note h = absurd h
no_form-quiet shelf (NotSequent i) out note h = absurd h
no_form-quiet shelf Unwritable out note h = absurd h

no_form-answers : (shelf : Shelved) → AreAnswers None shelf
no_form-answers shelf = record {
  exact = λ well answer due out note h d. subst (λ status. Aside answer (answer ≡ status)) (sym d) (no_form-usage shelf answer out note h);
  usage = λ out note h. refl;
  read_fault = λ out note h. absurd h;
  write_fault = λ out note h. h;
  unwritable = λ out note h. absurd h;
  quiet = λ answer out note h differs. no_form-quiet shelf answer out note h;
}

-- Files that are told have one outcome, so the answer that is due is that of it.
run-due : (told : Option Files) (names : List (List ℕ)) → IsTrue (is_some told) → (outcome : Outcome) → RunsTo told names outcome → (due : Status)
    → IsAnswerOfRun told names due → answer_of outcome ≡ due
run-due told names tells outcome r due d = ap answer_of (RunsTo-unique told names outcome d.outcome tells r d.runs) ∙ sym d.is

accepted-due : (told : Option Files) (names : List (List ℕ)) → IsTrue (is_some told) → (run : Accepted) → IsRunOf told names run → (due : Status)
    → IsAnswerOfRun told names due → Done ≡ due
accepted-due told names tells run r = run-due told names tells (accepted run) (record { texts = r.texts; read = r.read; runs = r.runs })

refused_run-due : (told : Option Files) (names : List (List ℕ)) → IsTrue (is_some told) → (article line : ℕ) (kind : Kind)
    → RunsTo told names (refused_at article line kind) → (due : Status) → IsAnswerOfRun told names due
    → Refused article line kind ≡ due
refused_run-due told names tells article line kind r = run-due told names tells (refused_at article line kind) r

-- A run of articles: the answer of the one outcome.
run-exact : (out_of note_of : Accepted → List ℕ) (names : List (List ℕ)) (shelf : Shelved) → ReadWell shelf → (answer due : Status) (out note : List ℕ)
    → AnswersRun out_of note_of names shelf answer out note
    → IsAnswerOfRun shelf.told_before names due → Aside answer (answer ≡ due)
run-exact out_of note_of names shelf well Done due out note h d = accepted-due shelf.told_before names well.tells h.0 h.1 due d
run-exact out_of note_of names shelf well (Refused article line kind) due out note h d =
    refused_run-due shelf.told_before names well.tells article line kind h.0 due d
run-exact out_of note_of names shelf well Usage due out note h d = absurd h
run-exact out_of note_of names shelf well ReadFault due out note h d = absurd (well.no_fault h.0)
run-exact out_of note_of names shelf well WriteFault due out note h d = tt
run-exact out_of note_of names shelf well Memory due out note h d = tt
run-exact out_of note_of names shelf well (DkRefused place kind) due out note h d = absurd h
run-exact out_of note_of names shelf well (IllTyped i) due out note h d = absurd h
run-exact out_of note_of names shelf well (OverBudget i) due out note h d = absurd h
run-exact out_of note_of names shelf well (NotSequent i) due out note h d = absurd h
run-exact out_of note_of names shelf well Unwritable due out note h d = absurd h

run-quiet : (out_of note_of : Accepted → List ℕ) (names : List (List ℕ)) (shelf : Shelved) (answer : Status) (out note : List ℕ)
    → AnswersRun out_of note_of names shelf answer out note → (answer ≡ Done → ⊥) → out ≡ []
run-quiet out_of note_of names shelf Done out note h differs = absurd (differs refl)
run-quiet out_of note_of names shelf (Refused article line kind) out note h differs = h.1.0
run-quiet out_of note_of names shelf Usage out note h differs = absurd h
run-quiet out_of note_of names shelf ReadFault out note h differs = h.1.0
run-quiet out_of note_of names shelf WriteFault out note h differs = absurd h
run-quiet out_of note_of names shelf Memory out note h differs = h.0
run-quiet out_of note_of names shelf (DkRefused place kind) out note h differs = absurd h
run-quiet out_of note_of names shelf (IllTyped i) out note h differs = absurd h
run-quiet out_of note_of names shelf (OverBudget i) out note h differs = absurd h
run-quiet out_of note_of names shelf (NotSequent i) out note h differs = absurd h
run-quiet out_of note_of names shelf Unwritable out note h differs = absurd h

verify-answers : (share fast : Bool) (names : List (List ℕ)) (shelf : Shelved) → AreAnswers (Some (verify share fast names)) shelf
verify-answers share fast names shelf = record {
  exact = run-exact (module_text share) (λ run. six_lines (counts_of share (length names) run)) names shelf;
  usage = λ out note h. absurd h;
  read_fault = λ out note h. h.0;
  write_fault = λ out note h. h;
  unwritable = λ out note h. absurd h;
  quiet = run-quiet (module_text share) (λ run. six_lines (counts_of share (length names) run)) names shelf;
}

translate-answers : (share : Bool) (names : List (List ℕ)) (shelf : Shelved) → AreAnswers (Some (translate share names)) shelf
translate-answers share names shelf = record {
  exact = run-exact (module_text share) (λ run. five_lines (counts_of share (length names) run)) names shelf;
  usage = λ out note h. absurd h;
  read_fault = λ out note h. h.0;
  write_fault = λ out note h. h;
  unwritable = λ out note h. absurd h;
  quiet = run-quiet (module_text share) (λ run. five_lines (counts_of share (length names) run)) names shelf;
}

show-answers : (names : List (List ℕ)) (shelf : Shelved) → AreAnswers (Some (show names)) shelf
show-answers names shelf = record {
  exact = run-exact shown_text (λ run. []) names shelf;
  usage = λ out note h. absurd h;
  read_fault = λ out note h. h.0;
  write_fault = λ out note h. h;
  unwritable = λ out note h. absurd h;
  quiet = run-quiet shown_text (λ run. []) names shelf;
}

-- `article`: files that are told have at most one answer that is due.
article-exact : (names : List (List ℕ)) (shelf : Shelved) → ReadWell shelf → (answer due : Status) (out note : List ℕ)
    → FormAnswers (Some (Form.article names)) shelf answer out note
    → IsDue (Some (Form.article names)) shelf.told_before due → Aside answer (answer ≡ due)
article-exact names shelf well Done due out note h d = running.written-due shelf.told_before names well.tells h.0 h.1 h.2 h.3 due d
article-exact names shelf well (Refused article line kind) due out note h d =
    running.refused_article-due shelf.told_before names well.tells article line kind h.0 due d
article-exact names shelf well Usage due out note h d = absurd h
article-exact names shelf well ReadFault due out note h d = absurd (well.no_fault h.0)
article-exact names shelf well WriteFault due out note h d = tt
article-exact names shelf well Memory due out note h d = tt
article-exact names shelf well (DkRefused place kind) due out note h d = absurd h
article-exact names shelf well (IllTyped i) due out note h d = absurd h
article-exact names shelf well (OverBudget i) due out note h d = absurd h
article-exact names shelf well (NotSequent i) due out note h d = absurd h
article-exact names shelf well Unwritable due out note h d = running.unwritable-due shelf.told_before names well.tells h.0 h.1 h.2 h.3 due d

article-quiet : (names : List (List ℕ)) (shelf : Shelved) (answer : Status) (out note : List ℕ) → FormAnswers (Some (Form.article names)) shelf answer out note
    → (answer ≡ Done → ⊥) → out ≡ []
article-quiet names shelf Done out note h differs = absurd (differs refl)
article-quiet names shelf (Refused article line kind) out note h differs = h.1.0
article-quiet names shelf Usage out note h differs = absurd h
article-quiet names shelf ReadFault out note h differs = h.1.0
article-quiet names shelf WriteFault out note h differs = absurd h
article-quiet names shelf Memory out note h differs = h.0
article-quiet names shelf (DkRefused place kind) out note h differs = absurd h
article-quiet names shelf (IllTyped i) out note h differs = absurd h
article-quiet names shelf (OverBudget i) out note h differs = absurd h
article-quiet names shelf (NotSequent i) out note h differs = absurd h
article-quiet names shelf Unwritable out note h differs = h.4.0

article-answers : (names : List (List ℕ)) (shelf : Shelved) → AreAnswers (Some (Form.article names)) shelf
article-answers names shelf = record {
  exact = article-exact names shelf;
  usage = λ out note h. absurd h;
  read_fault = λ out note h. h.0;
  write_fault = λ out note h. h;
  unwritable = λ out note h. (h.0, h.1, h.2, h.3);
  quiet = article-quiet names shelf;
}

-- `check`: a file that is told has at most one answer that is due, and one of another cause is not due.
check-exact : (fast : Bool) (name : List ℕ) (budget : ℕ) (shelf : Shelved) → ReadWell shelf → (answer due : Status) (out note : List ℕ)
    → FormAnswers (Some (check fast name budget)) shelf answer out note
    → IsDue (Some (check fast name budget)) shelf.told_before due → Aside answer (answer ≡ due)
check-exact fast name budget shelf well Done due out note h d = checking.accepted-due (not fast) shelf.told_before name budget well.tells h.0 h.1 due d
check-exact fast name budget shelf well (Refused article line kind) due out note h d = absurd h
check-exact fast name budget shelf well Usage due out note h d = absurd h
check-exact fast name budget shelf well ReadFault due out note h d = absurd (well.no_fault h.0)
check-exact fast name budget shelf well WriteFault due out note h d = tt
check-exact fast name budget shelf well Memory due out note h d = tt
check-exact fast name budget shelf well (DkRefused place kind) due out note h d =
    checking.refused-due (not fast) shelf.told_before name budget well.tells place kind h.0 due d
check-exact fast name budget shelf well (IllTyped i) due out note h d = checking.ill_typed-due (not fast) shelf.told_before name budget well.tells i h.0 due d
check-exact fast name budget shelf well (OverBudget i) due out note h d =
    absurd (checking.over_budget-due (not fast) shelf.told_before name budget well.tells i h.0 due d)
check-exact fast name budget shelf well (NotSequent i) due out note h d = absurd h
check-exact fast name budget shelf well Unwritable due out note h d = absurd h

check-quiet : (fast : Bool) (name : List ℕ) (budget : ℕ) (shelf : Shelved) (answer : Status) (out note : List ℕ)
    → FormAnswers (Some (check fast name budget)) shelf answer out note → (answer ≡ Done → ⊥) → out ≡ []
check-quiet fast name budget shelf Done out note h differs = absurd (differs refl)
check-quiet fast name budget shelf (Refused article line kind) out note h differs = absurd h
check-quiet fast name budget shelf Usage out note h differs = absurd h
check-quiet fast name budget shelf ReadFault out note h differs = h.1.0
check-quiet fast name budget shelf WriteFault out note h differs = absurd h
check-quiet fast name budget shelf Memory out note h differs = h.0
check-quiet fast name budget shelf (DkRefused place kind) out note h differs = h.1.0
check-quiet fast name budget shelf (IllTyped i) out note h differs = h.1.0
check-quiet fast name budget shelf (OverBudget i) out note h differs = h.1.0
check-quiet fast name budget shelf (NotSequent i) out note h differs = absurd h
check-quiet fast name budget shelf Unwritable out note h differs = absurd h

check-answers : (fast : Bool) (name : List ℕ) (budget : ℕ) (shelf : Shelved) → AreAnswers (Some (check fast name budget)) shelf
check-answers fast name budget shelf = record {
  exact = check-exact fast name budget shelf;
  usage = λ out note h. absurd h;
  read_fault = λ out note h. h.0;
  write_fault = λ out note h. h;
  unwritable = λ out note h. absurd h;
  quiet = check-quiet fast name budget shelf;
}

-- `decode`: a file that is told has at most one answer that is due.
decode-exact : (name : List ℕ) (shelf : Shelved) → ReadWell shelf → (answer due : Status) (out note : List ℕ)
    → FormAnswers (Some (decode name)) shelf answer out note
    → IsDue (Some (decode name)) shelf.told_before due → Aside answer (answer ≡ due)
decode-exact name shelf well Done due out note h d = decoding.decoded-due shelf.told_before name well.tells h.0 h.1 h.2 due d
decode-exact name shelf well (Refused article line kind) due out note h d = absurd h
decode-exact name shelf well Usage due out note h d = absurd h
decode-exact name shelf well ReadFault due out note h d = absurd (well.no_fault h.0)
decode-exact name shelf well WriteFault due out note h d = tt
decode-exact name shelf well Memory due out note h d = tt
decode-exact name shelf well (DkRefused place kind) due out note h d = decoding.refused-due shelf.told_before name well.tells place kind h.0 due d
decode-exact name shelf well (IllTyped i) due out note h d = absurd h
decode-exact name shelf well (OverBudget i) due out note h d = absurd h
decode-exact name shelf well (NotSequent i) due out note h d = decoding.not_sequent-due shelf.told_before name well.tells i h.0 due d
decode-exact name shelf well Unwritable due out note h d = absurd h

decode-quiet : (name : List ℕ) (shelf : Shelved) (answer : Status) (out note : List ℕ) → FormAnswers (Some (decode name)) shelf answer out note
    → (answer ≡ Done → ⊥) → out ≡ []
decode-quiet name shelf Done out note h differs = absurd (differs refl)
decode-quiet name shelf (Refused article line kind) out note h differs = absurd h
decode-quiet name shelf Usage out note h differs = absurd h
decode-quiet name shelf ReadFault out note h differs = h.1.0
decode-quiet name shelf WriteFault out note h differs = absurd h
decode-quiet name shelf Memory out note h differs = h.0
decode-quiet name shelf (DkRefused place kind) out note h differs = h.1.0
decode-quiet name shelf (IllTyped i) out note h differs = absurd h
decode-quiet name shelf (OverBudget i) out note h differs = absurd h
decode-quiet name shelf (NotSequent i) out note h differs = h.1.0
decode-quiet name shelf Unwritable out note h differs = absurd h

decode-answers : (name : List ℕ) (shelf : Shelved) → AreAnswers (Some (decode name)) shelf
decode-answers name shelf = record {
  exact = decode-exact name shelf;
  usage = λ out note h. absurd h;
  read_fault = λ out note h. h.0;
  write_fault = λ out note h. h;
  unwritable = λ out note h. absurd h;
  quiet = decode-quiet name shelf;
}

-- `trial`: done is the one answer that is due.
trial-done : (n : ℕ) (shelf : Shelved) (answer : Status) (out note : List ℕ) → FormAnswers (Some (trial n)) shelf answer out note → Aside answer (answer ≡ Done)
trial-done n shelf Done out note h = refl
trial-done n shelf (Refused article line kind) out note h = absurd h
trial-done n shelf Usage out note h = absurd h
trial-done n shelf ReadFault out note h = absurd h
trial-done n shelf WriteFault out note h = tt
trial-done n shelf Memory out note h = tt
trial-done n shelf (DkRefused place kind) out note h = absurd h
trial-done n shelf (IllTyped i) out note h = absurd h
trial-done n shelf (OverBudget i) out note h = absurd h
trial-done n shelf (NotSequent i) out note h = absurd h
trial-done n shelf Unwritable out note h = absurd h

trial-quiet : (n : ℕ) (shelf : Shelved) (answer : Status) (out note : List ℕ) → FormAnswers (Some (trial n)) shelf answer out note → (answer ≡ Done → ⊥)
    → out ≡ []
trial-quiet n shelf Done out note h differs = absurd (differs refl)
trial-quiet n shelf (Refused article line kind) out note h differs = absurd h
trial-quiet n shelf Usage out note h differs = absurd h
trial-quiet n shelf ReadFault out note h differs = absurd h
trial-quiet n shelf WriteFault out note h differs = absurd h
trial-quiet n shelf Memory out note h differs = h.0
trial-quiet n shelf (DkRefused place kind) out note h differs = absurd h
trial-quiet n shelf (IllTyped i) out note h differs = absurd h
trial-quiet n shelf (OverBudget i) out note h differs = absurd h
trial-quiet n shelf (NotSequent i) out note h differs = absurd h
trial-quiet n shelf Unwritable out note h differs = absurd h

trial-answers : (n : ℕ) (shelf : Shelved) → AreAnswers (Some (trial n)) shelf
trial-answers n shelf = record {
  exact = λ well answer due out note h d. subst (λ status. Aside answer (answer ≡ status)) (sym d) (trial-done n shelf answer out note h);
  usage = λ out note h. absurd h;
  read_fault = λ out note h. absurd h;
  write_fault = λ out note h. h;
  unwritable = λ out note h. absurd h;
  quiet = trial-quiet n shelf;
}

-- the answers of every form
each-answers : (form : Option Form) (shelf : Shelved) → AreAnswers form shelf
each-answers None shelf = no_form-answers shelf
each-answers (Some (verify share fast names)) shelf = verify-answers share fast names shelf
each-answers (Some (translate share names)) shelf = translate-answers share names shelf
each-answers (Some (check fast name budget)) shelf = check-answers fast name budget shelf
each-answers (Some (show names)) shelf = show-answers names shelf
each-answers (Some (decode name)) shelf = decode-answers name shelf
each-answers (Some (trial n)) shelf = trial-answers n shelf
each-answers (Some (Form.article names)) shelf = article-answers names shelf

-- The checker's law: what is accepted is well typed.
accepted-well_typed : (rechecks : Bool) (told : Option Files) (name : List ℕ) (files : Files) (m : List Declaration) → told ≡ Some files
    → IsAccepted rechecks told name m → ReadsWellTyped (file files name)
accepted-well_typed rechecks None name files m e h = absurd (cc)
accepted-well_typed rechecks (Some others) name files m e h =
    let same : others ≡ files = cc in
    subst (λ fs. ReadsWellTyped (file fs name)) same
    (subst ReadsWellTyped h.file.read (record { m = m; reads = h.file.reads; only = h.file.only; typed = h.typed }))

-- What holds of the answer holds of the result, a failing write aside.
delivered-Aside : (fact : Status → Type 0) (answer : Status) (out_text note_text : List ℕ) (out note : Sunk) (result : Status)
    → Delivers answer out_text note_text out note result
    → Aside answer (fact answer) → Aside result (fact result)
delivered-Aside fact answer out_text note_text out note result d h = elim d [
  | inl f ↦ subst (λ status. Aside status (fact status)) (sym f.0) h
  | inr f ↦ subst (λ status. Aside status (fact status)) (sym f.0) tt
]

-- A result that no failing write gives is the answer.
delivered-answer : (answer : Status) (out_text note_text : List ℕ) (out note : Sunk) (result : Status) → Delivers answer out_text note_text out note result
    → (result ≡ WriteFault → ⊥) → answer ≡ result
delivered-answer answer out_text note_text out note result d differs = elim d [
  | inl f ↦ sym f.0
  | inr f ↦ absurd (differs f.0)
]

-- A write fault has its cause.
delivered-Failed : (answer : Status) (out_text note_text : List ℕ) (out note : Sunk) (result : Status) → Delivers answer out_text note_text out note result
    → (answer ≡ WriteFault → ⊥) → result ≡ WriteFault → Failed out ⊎ Failed note
delivered-Failed answer out_text note_text out note result d differs e = elim d [
  | inl f ↦ absurd (differs (sym f.0 ∙ e))
  | inr f ↦ elim f.1 [
    | inl g ↦ inl g.0
    | inr g ↦ inr g.0
  ]
]

-- What gains nothing stays as it was.
gained-none : (a b : Option (List ℕ)) → Gains a [] b → b ≡ a
gained-none None None h = refl
gained-none (Some a) (Some b) h = ap Some (h ∙ append-nil a)
gained-none None (Some b) h = absurd h
gained-none (Some a) None h = absurd h

outputs-KeepsOut : (call : Call) (result : Status) → Outputs call result → KeepsOut result call.out
outputs-KeepsOut call result h = by_cases result h
  where
    same : (result : Status) → Outputs call result → (result ≡ Done → ⊥) → (result ≡ WriteFault → ⊥) → call.out.got ≡ call.out.got_before
    same result h no_text no_fault =
        let e = delivered-answer h.answer h.out_text h.note_text call.out call.note result h.delivered no_fault in
        let empty = (each-answers call.form call.shelf).quiet h.answer h.out_text h.note_text h.answers (λ d. no_text (sym e ∙ d)) in
        elim h.delivered [
          | inl f ↦ gained-none call.out.got_before call.out.got (subst (Gained call.out) empty f.1)
          | inr f ↦ absurd (no_fault f.0)
        ]

    by_cases : (result : Status) → Outputs call result → KeepsOut result call.out
    by_cases Done h = tt
    by_cases (Refused article line kind) h = same (Refused article line kind) h (λ e. cc) (λ e. cc)
    by_cases Usage h = same Usage h (λ e. cc) (λ e. cc)
    by_cases ReadFault h = same ReadFault h (λ e. cc) (λ e. cc)
    by_cases WriteFault h = tt
    by_cases Memory h = same Memory h (λ e. cc) (λ e. cc)
    by_cases (DkRefused place kind) h = same (DkRefused place kind) h (λ e. cc) (λ e. cc)
    by_cases (IllTyped i) h = same (IllTyped i) h (λ e. cc) (λ e. cc)
    by_cases (OverBudget i) h = same (OverBudget i) h (λ e. cc) (λ e. cc)
    by_cases (NotSequent i) h = same (NotSequent i) h (λ e. cc) (λ e. cc)
    by_cases Unwritable h = same Unwritable h (λ e. cc) (λ e. cc)

-- The headline, for the run that a form asks for
run-headline : (share : Bool) (told : Option Files) (names : List (List ℕ)) (run : Accepted) → IsRunOf told names run → Headline share run
run-headline share told names run r = each_run_carries share r.texts run r.bytes r.runs

-- what stands for its run is well typed
stands-WellTyped : (share : Bool) (run : Accepted) → ModuleStands share run → WellTyped (module_of share run)
stands-WellTyped false run h = h.typed
stands-WellTyped true run h = h.typed

-- The text of a run's module reads as one well-typed module.
text-ReadsWellTyped : (share : Bool) (run : Accepted) → Headline share run → ReadsWellTyped (module_text share run)
text-ReadsWellTyped share run h = record { m = module_of share run; reads = h.reads; only = h.only; typed = stands-WellTyped share run h.stands }

-- what is written at Done by a form that writes the module of its run
module-written : (form : Option Form) (shelf : Shelved) (out note : List ℕ) → WritesModule form → FormAnswers form shelf Done out note → ReadsWellTyped out
module-written None shelf out note w h = absurd w
module-written (Some (verify share fast names)) shelf out note w h =
    subst ReadsWellTyped (sym h.2) (text-ReadsWellTyped share h.0 (run-headline share shelf.told_before names h.0 h.1))
module-written (Some (translate share names)) shelf out note w h =
    subst ReadsWellTyped (sym h.2) (text-ReadsWellTyped share h.0 (run-headline share shelf.told_before names h.0 h.1))
module-written (Some (check fast name budget)) shelf out note w h = absurd w
module-written (Some (show names)) shelf out note w h = absurd w
module-written (Some (decode name)) shelf out note w h = absurd w
module-written (Some (trial n)) shelf out note w h = absurd w
module-written (Some (Form.article names)) shelf out note w h = absurd w

delivered-Gained : (answer : Status) (out_text note_text : List ℕ) (out note : Sunk) (result : Status) → Delivers answer out_text note_text out note result
    → (result ≡ WriteFault → ⊥) → Gained out out_text
delivered-Gained answer out_text note_text out note result d differs = elim d [
  | inl f ↦ f.1
  | inr f ↦ absurd (differs f.0)
]

-- A file with the module of a run
module-ReadsAs : (told : Option Files) (name : List ℕ) → (file : HasModule told name) → ReadsAs told name (module_of file.share file.run)
module-ReadsAs told name file =
    let h = each_run_carries file.share file.texts file.run file.bytes file.runs in
    record { text = module_text file.share file.run; read = file.read; within = file.within; reads = h.reads; only = h.only }

-- each declaration passes within a budget of at least each bound
bound-within : (m : List Declaration) (bounds : Declaration → ℕ) (budget i : ℕ) (d : Declaration) → slice_get m i ≡ Some d
    → AllByRecursion (λ bound. bound ≤ budget) (map bounds m) → bounds d ≤ budget
bound-within [] bounds budget i d e h = absurd (cc)
bound-within (x ∷ m) bounds budget zero d e h = subst (λ y. bounds y ≤ budget) (same_Some x d e) h.0
bound-within (x ∷ m) bounds budget (suc i) d e h = bound-within m bounds budget i d e h.1

-- the check of each declaration ends within its bound, with rechecks of sorts or without
within-bound : (rechecks share : Bool) (run : Accepted) → Headline share run → (i : ℕ) (d : Declaration) → slice_get (module_of share run) i ≡ Some d
    → EndsWithin rechecks (module_of share run) (bound (module_of share run) d) i (Found d.ty)
within-bound true share run h i d e = h.within i d e
within-bound false share run h i d e =
    let w = h.within i d e in
    let f = fast_passes (module_of share run) i d.ty w.price w.by in
    record { price = f.0; by = f.1; within = let short = w.within in omega (arith, f.2, short) }

module-PassesWithin : (rechecks : Bool) (told : Option Files) (name : List ℕ) (budget : ℕ) → (file : HasModule told name)
    → AllByRecursion (λ bound. bound ≤ budget) (module_bounds file.share file.run) → PassesWithin rechecks told name budget
module-PassesWithin rechecks told name budget file h = record {
  m = module_of file.share file.run;
  file = module-ReadsAs told name file;
  pass = λ k l.
      let d = declaration-at (module_of file.share file.run) k l in
      let e = within-bound rechecks file.share file.run (each_run_carries file.share file.texts file.run file.bytes file.runs) k d.0 d.1 in
      let low = bound-within (module_of file.share file.run) (bound (module_of file.share file.run)) budget k d.0 d.1 h in
      (d.0.ty, record { price = e.price; by = e.by; within = let short = e.within in omega (arith, short, low) });
}

-- no check of it says no
module-passes : (rechecks : Bool) (told : Option Files) (name : List ℕ) (i : ℕ) → IsTrue (is_some told) → HasModule told name → IsIllTyped rechecks told name i
    → ⊥
module-passes rechecks None name i tells file ill = absurd (cc)
module-passes rechecks (Some files) name i tells file ill =
    let h = each_run_carries file.share file.texts file.run file.bytes file.runs in
    let same : ill.m ≡ module_of file.share file.run = h.only ill.m (subst (λ text. Reads text ill.m) (ill.file.read ∙ sym file.read) ill.file.reads) in
    let no : CheckBy rechecks (module_of file.share file.run) i No ill.price = subst (λ m. CheckBy rechecks m i No ill.price) same ill.no in
    let d = check-at (module_of file.share file.run) i rechecks No ill.price no in
    let e = within-bound rechecks file.share file.run h i d.0 d.1 in
    checking.not-both rechecks (module_of file.share file.run) i d.0.ty e.price ill.price e.by no

-- All that follows from the promise of a call comes of its outputs, and of the law of articles.
outputs-Consequences : (call : Call) (result : Status) → Outputs call result
    → ((version : Version) (run : Accepted) → HasArticle call version run → IsRetold version run) → Consequences call result
outputs-Consequences call result h law = record {
  exact = exact;
  written = λ writes done. record {
    text = h.out_text;
    gained = delivered-Gained h.answer h.out_text h.note_text call.out call.note result h.delivered (λ f. differ done f);
    typed = module-written call.form call.shelf h.out_text h.note_text writes
        (subst (λ status. FormAnswers call.form call.shelf status h.out_text h.note_text) (is done (λ f. cc)) h.answers);
  };
  retold = λ names form done.
      let a = subst (λ f. FormAnswers f call.shelf Done h.out_text h.note_text) form
      (subst (λ status. FormAnswers call.form call.shelf status h.out_text h.note_text) (is done (λ f. cc)) h.answers) in
      let gained = delivered-Gained h.answer h.out_text h.note_text call.out call.note result h.delivered (λ f. differ done f) in
      record {
        version = a.0;
        run = a.1;
        of = a.2;
        gained = subst (Gained call.out) a.4 gained;
        retold = law a.0 a.1 (subst (λ f. FormArticle f call.shelf.told_before a.0 a.1) (sym form) (a.2, a.3));
      };
  unwritable = λ e. facts.unwritable h.out_text h.note_text
      (subst (λ status. FormAnswers call.form call.shelf status h.out_text h.note_text) (is e (λ f. cc)) h.answers);
  passes = λ well fast name budget form file bounds.
      exact well Done
      (subst (λ f. IsDue f call.shelf.told_before Done) (sym form) (module-PassesWithin (not fast) call.shelf.told_before name budget file bounds));
  never_ill_typed = λ well fast name budget i form file ill.
      module-passes (not fast) call.shelf.told_before name i well.tells file
      (subst (λ f. FormAnswers f call.shelf (IllTyped i) h.out_text h.note_text) form
      (subst (λ status. FormAnswers call.form call.shelf status h.out_text h.note_text) (is ill (λ f. cc)) h.answers)).0;
  checked = λ fast name budget files form told_files done. of_check fast name budget files form told_files
      (subst (λ status. FormAnswers call.form call.shelf status h.out_text h.note_text) (is done (λ f. cc)) h.answers);
  trial_done = λ n e. delivered-Aside (λ status. status ≡ Done) h.answer h.out_text h.note_text call.out call.note result h.delivered
      (trial-done n call.shelf h.answer h.out_text h.note_text (subst (λ form. FormAnswers form call.shelf h.answer h.out_text h.note_text) e h.answers));
  usage = λ e. delivered-Aside (λ status. status ≡ Usage) h.answer h.out_text h.note_text call.out call.note result h.delivered
      (no_form-usage call.shelf h.answer h.out_text h.note_text (subst (λ form. FormAnswers form call.shelf h.answer h.out_text h.note_text) e h.answers));
  usage_alone = λ e. facts.usage h.out_text h.note_text
      (subst (λ status. FormAnswers call.form call.shelf status h.out_text h.note_text) (is e (λ f. cc)) h.answers);
  read_fault = λ e. facts.read_fault h.out_text h.note_text
      (subst (λ status. FormAnswers call.form call.shelf status h.out_text h.note_text) (is e (λ f. cc)) h.answers);
  write_fault = delivered-Failed h.answer h.out_text h.note_text call.out call.note result h.delivered
      (λ e. facts.write_fault h.out_text h.note_text (subst (λ status. FormAnswers call.form call.shelf status h.out_text h.note_text) e h.answers));
  out_kept = outputs-KeepsOut call result h;
}
  where
    facts : AreAnswers call.form call.shelf
    facts = each-answers call.form call.shelf

    is : {status : Status} → result ≡ status → (status ≡ WriteFault → ⊥) → h.answer ≡ status
    is e differs = delivered-answer h.answer h.out_text h.note_text call.out call.note result h.delivered (λ f. differs (sym e ∙ f)) ∙ e

    differ : result ≡ Done → result ≡ WriteFault → ⊥
    differ e f = let g : Done ≡ WriteFault = sym e ∙ f in absurd (cc)

    exact : ReadWell call.shelf → (status : Status) → IsDue call.form call.shelf.told_before status → Aside result (result ≡ status)
    exact well due d = delivered-Aside (λ status. status ≡ due) h.answer h.out_text h.note_text call.out call.note result h.delivered
        (facts.exact well h.answer due h.out_text h.note_text h.answers d)

    of_check : (fast : Bool) (name : List ℕ) (budget : ℕ) (files : Files) → call.form ≡ Some (check fast name budget) → call.shelf.told_before ≡ Some files
        → FormAnswers call.form call.shelf Done h.out_text h.note_text → ReadsWellTyped (file files name)
    of_check fast name budget files form told_files a =
        let b = subst (λ f. FormAnswers f call.shelf Done h.out_text h.note_text) form a in
        accepted-well_typed (not fast) call.shelf.told_before name files b.0 told_files b.1

-- What follows from a promise.
pub each_promise_bears : EachPromiseBears
each_promise_bears call result p = outputs-Consequences call result p.outputs p.retold
