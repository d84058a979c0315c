-- Sequents that articles state: what meets them, and what becomes of the run.
use Rattle.std.proofs.Common.{◌≡◌, ℕ, ◌<◌, ◌≤◌, ◌⊎◌, inl, inr, refl, sym, ap, subst, ◌∙◌, arith, List, [], ◌∷◌, ◌++◌, get_or, length, length-append, map, take, zero, suc, Bool, true, false, cond, ◌&&◌, Option, None, Some, Result, Ok, Err, OnOk, OnErr, IfOk, IfErr}
use Rattle.std.specs.Prelude.{IfSome, slice_get, slice_index_or, unwrap_or}
use Rattle.std.specs.List.{AllByRecursion, find, list_all}
use Rattle.std.specs.Option.{option_or}
use Rattle.std.specs.Result.{IsErrAnd}
use Rattle.std.proofs.lemmas.List.{map-append, take-append-le, take-map}
use Rattle.std.proofs.Math.Seq.{get_or-append_seam}
use Rattle.std.proofs.lemmas.Option.{slice_get_cases}
use Rattle.std.proofs.Math.Path.{ap₂}
use Rattle.hol_spec.specs.Lists.{IsIn, distinct, is_in}
use Rattle.hol_spec.specs.Names.{Name}
use Rattle.hol_spec.specs.Primitives.{bool}
use Rattle.hol_spec.specs.Terms.{Term, HasType, IsTerm, bound, term_eq}
use Rattle.hol_spec.specs.Rules.{Parameters}
use Rattle.hol_spec.specs.Sequents.{Sequent, IsSequent, same, within}
use Rattle.hol_spec.specs.Proofs.{Made, Step, steps_of, sequents_of, sequent_at, IsProof}
use Rattle.hol_spec.specs.declared.StepKind.TheVariants as by_rule
use Rattle.hol_laws.specs.Members.{All-append, All-at, is_in-IsIn, IsIn-distinct}
use Rattle.hol_laws.specs.RenamingLaws.{length_map}
use Rattle.hol_laws.specs.TermLaws.{term_eq-Decides, type_eq-refl}
use Rattle.hol_proof_laws.specs.ProofLaws.{steps_of-push}
use Rattle.hol_proof_laws.specs.ProofGrowth.{All-get, proof-sequents}
use Rattle.common.specs.declared.faults.Fault.{Fault}
use Rattle.common.specs.declared.faults.Fault.TheVariants.{Memory, Refused}
use Rattle.common.specs.declared.faults.Kind.{Kind}
use Rattle.common.specs.declared.faults.Kind.TheVariants.{NotBool, NotTheSequent}
use Rattle.article_spec.specs.State.{State}
use Rattle.article_spec.specs.State as state
use Rattle.article_spec.specs.Results.{◌>>=◌, ◌>>◌, Fails}
use Rattle.article_spec.specs.Conditions.{all_bool, demand, follows, has_type, is_of_type, sequent_in_limits}
use Rattle.article_spec.specs.Changes.{conclude, first_same, next_step, with_step, by_step}
use Rattle.article_spec.specs.RuleSteps.{step_by, restatement, stated, axiom_step, restate_step}
use Rattle.article_spec.specs.Stating.{assume_or_meet, export}
use Rattle.hol_term.specs.declared.TermId.{TermId}
use Rattle.hol_term.specs.Tables.{Trees, AreKnown, IsTermAt}
use Rattle.hol_term.specs.TableLaws.{Keeps-refl}
use Rattle.sequent.specs.declared.Sequent.{Sequent as Numbered}
use Rattle.sequent.specs.Sequents as numbers
use Rattle.compose.specs.declared.pool.Said.{Said}
use Rattle.compose.specs.Pools.{is_same_at, said, step_of, steps_in, AreSequentsKnown}
use Rattle.hol_rules.specs.Premises.{AreTermsAt, IsStated}
use Rattle.hol_rules.specs.Kept.{Kept}
use Rattle.hol_rules.specs.Kept as proof
use Rattle.hol_rules.specs.Conclusions.{Concludes, limited}
use Rattle.stack_machine.specs.declared.object.Cell.{Cell}
use Rattle.stack_machine.specs.Making.{AreSteps, run_view}
use Rattle.stack_machine.specs.MakingLaws.{count-step, AreSteps-more, AreSteps-push}
use Rattle.stack_machine.specs.Stored.{Stored, AreSaid, IsSaid, IsStore, Grows, run_of, store_view}
use Rattle.stack_machine.specs.StoredLaws.{IsFront-refl, Grows-refl}
use Rattle.stack_machine.specs.Shown.{in_state}
use Rattle.stack_machine.specs.Inferring.{Exports, Infers, InfersTwo, assuming, exported, exporting, recording, restating}
use Rattle.stack_machine.proofs.Passing.{IfOk-map, IfErr-map, OnOk-map, OnErr-map, OnErr-map2}
use Rattle.stack_machine.proofs.Stores.{AreSaid-more, IsStore-run, Grows-run, more-steps, sequent-more}
use Rattle.stack_machine.proofs.Inferred.{Concludes-made, Concludes-more, Concludes-refused, Concludes-taken, limited-Ok, limited-fails}

-- what is found passes the test, and has what all have
module _ {A : Type 0} (test : A → Bool) where
  pub find-passes : (xs : List A) (x : A) → find test xs ≡ Some x → test x ≡ true
  find-passes [] x e = absurd (cc)
  find-passes (y ∷ xs) x e = go (test y) refl e (find-passes xs x)
    where
      go : (b : Bool) → test y ≡ b → cond b (Some y) (find test xs) ≡ Some x → (find test xs ≡ Some x → test x ≡ true) → test x ≡ true
      go true f g r = let same : y ≡ x = cc in subst (λ z. test z ≡ true) same f
      go false f g r = r g

  pub find-All : (P : A → Type 0) (xs : List A) (x : A) → AllByRecursion P xs → find test xs ≡ Some x → P x
  find-All P [] x h e = absurd (cc)
  find-All P (y ∷ xs) x h e = go (test y) e (find-All P xs x h.1)
    where
      go : (b : Bool) → cond b (Some y) (find test xs) ≡ Some x → (find test xs ≡ Some x → P x) → P x
      go true g r = let same : y ≡ x = cc in subst P same h.0
      go false g r = r g

  pub find-here : (x : A) (xs : List A) → test x ≡ true → find test (x ∷ xs) ≡ Some x
  find-here x xs e = ap (λ b. cond b (Some x) (find test xs)) e

  pub find-later : (x : A) (xs : List A) → test x ≡ false → find test (x ∷ xs) ≡ find test xs
  find-later x xs e = ap (λ b. cond b (Some x) (find test xs)) e

pub found-step : (made : List Made) (test : ℕ → Bool) (ids : List ℕ) (r : Option ℕ) → AreSteps made ids → r ≡ find test ids
    → IfSome r (λ i. i < length (steps_of made))
found-step made test ids None h e = tt
found-step made test ids (Some i) h e = find-All test (λ j. j < length (steps_of made)) ids i h (sym e)

-- a table has the numbers of terms
pub known_term : (trees : Trees) (id : ℕ) → IsTermAt trees id → id < length trees.terms
known_term trees id h = go (slice_get_cases trees.terms id).1
  where
    go : ((x : Term) × (id < length trees.terms) × (slice_get trees.terms id ≡ Some x) × (get_or trees.terms id x ≡ x))
        ⊎ ((length trees.terms ≤ id) × (slice_get trees.terms id ≡ None)) → id < length trees.terms
    go (inl w) = w.1
    go (inr w) = absurd (let e = ap (λ o. unwrap_or o (bound 0)) w.1 in let f = subst IsTerm e h in cc)

pub AreTermsAt-known : (trees : Trees) (ids : List TermId) → AreTermsAt trees ids → AreKnown trees ids
AreTermsAt-known trees [] h = tt
AreTermsAt-known trees (id ∷ ids) h = (known_term trees id.0 h.0, AreTermsAt-known trees ids h.1)

pub option_or-Some : {A : Type 0} (a b : Option A) (x : A) → option_or a b ≡ Some x → (a ≡ Some x) ⊎ (b ≡ Some x)
option_or-Some None b x e = inr e
option_or-Some (Some y) b x e = inl e

first_half : (a b : Bool) → (a && b) ≡ true → a ≡ true
first_half true b e = refl
first_half false b e = absurd (cc)

second_half : (a b : Bool) → (a && b) ≡ true → b ≡ true
second_half true b e = e
second_half false b e = absurd (cc)

-- what the steps of a pool say
module _ (kept : Kept) (sequent : Numbered) where
  -- whether a step says the sequent
  abbrev says : ℕ → Bool
  says i = same (sequent_at kept.made i) (numbers.sequent_at kept.trees sequent)

  pub AreSaid-known : (pool : List Said) → AreSaid kept pool → AreSequentsKnown kept.trees pool
  AreSaid-known [] h = tt
  AreSaid-known (s ∷ pool) h = (h.0.known, AreSaid-known pool h.1)

  -- the first step that says the sequent is that of the pool's first that is the same
  find-said : (pool : List Said) → AreSaid kept pool → step_of (find (is_same_at kept.trees sequent) pool) ≡ find says (steps_in pool)
  find-said [] h = refl
  find-said (s ∷ pool) h =
      go (is_same_at kept.trees sequent s)
      ∙ ap₂ (λ b o. cond b (Some s.step) o) (ap (λ t. same t (numbers.sequent_at kept.trees sequent)) (sym h.0.says)) (find-said pool h.1)
    where
      go : (b : Bool) → step_of (cond b (Some s) (find (is_same_at kept.trees sequent) pool))
          ≡ cond b (Some s.step) (step_of (find (is_same_at kept.trees sequent) pool))
      go true = refl
      go false = refl

  AreSaid-take : (n : ℕ) (pool : List Said) → AreSaid kept pool → AreSaid kept (take n pool)
  AreSaid-take zero [] h = tt
  AreSaid-take zero (s ∷ pool) h = tt
  AreSaid-take (suc n) [] h = tt
  AreSaid-take (suc n) (s ∷ pool) h = (h.0, AreSaid-take n pool h.1)

  module _ (pool : List Said) (h : AreSaid kept pool) (r : Option ℕ) where
    pub found-first : r ≡ step_of (find (is_same_at kept.trees sequent) pool) → r ≡ find says (steps_in pool)
    found-first e = e ∙ find-said pool h

    pub found_among-first : (n : ℕ) → r ≡ step_of (find (is_same_at kept.trees sequent) (take n pool)) → r ≡ find says (take n (steps_in pool))
    found_among-first n e = e ∙ find-said (take n pool) (AreSaid-take n pool h) ∙ ap (find says) (sym (take-map (λ (s : Said). s.step) n pool))

pub AreSteps-take : (made : List Made) (n : ℕ) (ids : List ℕ) → AreSteps made ids → AreSteps made (take n ids)
AreSteps-take made zero [] h = tt
AreSteps-take made zero (i ∷ ids) h = tt
AreSteps-take made (suc n) [] h = tt
AreSteps-take made (suc n) (i ∷ ids) h = (h.0, AreSteps-take made n ids h.1)

-- what is the same says no more
pub same-follows : (one s : Sequent) → same one s ≡ true → follows one s ≡ Ok tt
same-follows one s e = ap (λ b. demand b NotTheSequent) (first_half (within one s) (within s one) e)

-- what is the same as a sequent of truth values is of truth values
bool-is_of_type : (t : Term) → HasType t bool → is_of_type bool t ≡ true
bool-is_of_type t h = ap (λ o. has_type o bool) h ∙ type_eq-refl bool

all-in : (ts hs : List Term) → list_all (λ h. is_in term_eq h hs) ts ≡ true → (t : Term) → IsIn ts t → is_in term_eq t hs ≡ true
all-in [] hs e t k = absurd k
all-in (u ∷ ts) hs e t (inl q) = rw q (first_half (is_in term_eq u hs) (list_all (λ h. is_in term_eq h hs) ts) e)
all-in (u ∷ ts) hs e t (inr k) = all-in ts hs (second_half (is_in term_eq u hs) (list_all (λ h. is_in term_eq h hs) ts) e) t k

both : (a b : Bool) → a ≡ true → b ≡ true → (a && b) ≡ true
both true b e f = f
both false b e f = absurd (cc)

each-bool : (hs : List Term) → ((t : Term) → IsIn hs t → is_of_type bool t ≡ true) → list_all (is_of_type bool) hs ≡ true
each-bool [] h = refl
each-bool (t ∷ hs) h = both (is_of_type bool t) (list_all (is_of_type bool) hs) (h t (inl refl)) (each-bool hs (λ u k. h u (inr k)))

pub same-all_bool : (one : Sequent) (hs : List Term) (c : Term) → IsSequent one → same one (stated hs c) ≡ true → all_bool (c ∷ hs) ≡ Ok tt
same-all_bool one hs c h e =
    let back = second_half (within one (stated hs c)) (within (stated hs c) one) e in
    let among = first_half (list_all (λ t. is_in term_eq t one.hypotheses) (distinct term_eq hs)) (term_eq c one.conclusion) back in
    let concl : c ≡ one.conclusion = (term_eq-Decides c one.conclusion).0
    (second_half (list_all (λ t. is_in term_eq t one.hypotheses) (distinct term_eq hs)) (term_eq c one.conclusion) back) in
    ap (λ b. demand b NotBool) (both (is_of_type bool c) (list_all (is_of_type bool) hs)
    (bool-is_of_type c (subst (λ t. HasType t bool) (sym concl) h.conclusion))
    (each-bool hs (λ t k. bool-is_of_type t
    (All-at (λ u. HasType u bool) one.hypotheses t h.hypotheses
    (is_in-IsIn term_eq term_eq-Decides one.hypotheses t
    (all-in (distinct term_eq hs) one.hypotheses among t (IsIn-distinct term_eq term_eq-Decides hs t k)))))))

-- a step of a proof says a sequent
IsSequent-at : (made : List Made) → IsProof made → (i : ℕ) → i < length (steps_of made) → IsSequent (sequent_at made i)
IsSequent-at made p i l = All-get IsSequent (sequents_of made) i (sequent_at made i) (proof-sequents made p) (from (steps_of made) i l)
  where
    from : (xs : List Step) (i : ℕ) → i < length xs → slice_get (map (λ (y : Step). y.sequent) xs) i
        ≡ Some (slice_index_or (map (λ (y : Step). y.sequent) xs) i (record { hypotheses = []; conclusion = Term.bound 0 }))
    from [] i l = absurd (omega arith)
    from (x ∷ xs) zero l = refl
    from (x ∷ xs) (suc i) l = from xs i (omega arith)

-- conditions are met, and then what follows them
once : (r : Result (Unit {0}) Kind) (x : Step) (f : Step → Result State Kind) → ((r >> Ok x) >>= f) ≡ (r >> f x)
once (Ok u) x f = refl
once (Err k) x f = refl

twice : (r q : Result (Unit {0}) Kind) (x : Step) (f : Step → Result State Kind) → ((r >> (q >> Ok x)) >>= f) ≡ (r >> (q >> f x))
twice (Ok u) q x f = once q x f
twice (Err k) q x f = refl

-- what is assumed is met by a step that says it, or recorded
module _ (s : State) (hs : List Term) (c : Term) where
  -- the steps that may meet it
  abbrev known : Option ℕ
  known = option_or (first_same s s.pool (stated hs c)) (first_same s s.assumptions (stated hs c))

  known-says : (i : ℕ) → known ≡ Some i → same (sequent_at s.made i) (stated hs c) ≡ true
  known-says i e = go (option_or-Some (first_same s s.pool (stated hs c)) (first_same s s.assumptions (stated hs c)) i e)
    where
      go : (first_same s s.pool (stated hs c) ≡ Some i) ⊎ (first_same s s.assumptions (stated hs c) ≡ Some i) → same (sequent_at s.made i) (stated hs c) ≡ true
      go (inl f) = find-passes (λ j. same (sequent_at s.made j) (stated hs c)) s.pool i f
      go (inr f) = find-passes (λ j. same (sequent_at s.made j) (stated hs c)) s.assumptions i f

  -- the step of the assumption, and what becomes of it where a step may meet it
  abbrev assumption : Step
  assumption = step_by by_rule.Axiom [] (Parameters.sequent (stated hs c)) (stated hs c)

  assuming-known : (o : Option ℕ) → known ≡ o → assuming hs c s ≡ (all_bool (c ∷ hs) >> assume_or_meet s assumption o)
  assuming-known o e = once (all_bool (c ∷ hs)) assumption
      (λ x. assume_or_meet s x (option_or (first_same s s.pool x.sequent) (first_same s s.assumptions x.sequent)))
      ∙ ap (λ o. all_bool (c ∷ hs) >> assume_or_meet s assumption o) e

  passed : (r q : Result (Unit {0}) Kind) (x : Step) → q ≡ Ok tt → (r >> conclude s x) ≡ by_step (r >> (q >> Ok x)) s
  passed (Ok u) (Ok v) x e = refl
  passed (Ok u) (Err k) x e = absurd (cc)
  passed (Err k) q x e = refl

  pub assuming-met : (i : ℕ) → known ≡ Some i → assuming hs c s ≡ by_step (restate_step s.made i hs c) s
  assuming-met i e = assuming-known (Some i) e
      ∙ passed (all_bool (c ∷ hs)) (follows (sequent_at s.made i) (stated hs c)) (restatement i (stated hs c))
      (same-follows (sequent_at s.made i) (stated hs c) (known-says i e))

  recorded : (r : Result (Unit {0}) Kind) (t : State) (x : Step) → (r >> conclude t x) ≡ by_step (r >> Ok x) t
  recorded (Ok u) t x = refl
  recorded (Err k) t x = refl

  pub assuming-new : known ≡ None → assuming hs c s ≡ recording hs c s
  assuming-new e = assuming-known None e ∙ recorded (all_bool (c ∷ hs)) (record s { assumptions = s.assumptions ++ next_step s ∷ [] }) assumption

  -- what is exported was exported, or is restated
  module _ (i : ℕ) where
    abbrev exports_it : Option ℕ → Result State Kind
    exports_it o = all_bool (c ∷ hs) >> (follows (sequent_at s.made i) (stated hs c) >> export s (restatement i (stated hs c)) o)

    exporting-known : (o : Option ℕ) → first_same s s.exports (stated hs c) ≡ o → exporting i hs c s ≡ exports_it o
    exporting-known o e = twice (all_bool (c ∷ hs)) (follows (sequent_at s.made i) (stated hs c)) (restatement i (stated hs c))
        (λ x. export s x (first_same s s.exports x.sequent)) ∙ ap exports_it e

    pub exporting-again : (j : ℕ) → first_same s s.exports (stated hs c) ≡ Some j → all_bool (c ∷ hs) ≡ Ok tt → exporting i hs c s
        ≡ (follows (sequent_at s.made i) (stated hs c) >> Ok s)
    exporting-again j e a = exporting-known (Some j) e ∙ ap (λ r. r >> (follows (sequent_at s.made i) (stated hs c) >> Ok s)) a

    pub exporting-new : first_same s s.exports (stated hs c) ≡ None → exporting i hs c s ≡ restating i hs c s
    exporting-new e = exporting-known None e ∙ sym
        (twice (all_bool (c ∷ hs)) (follows (sequent_at s.made i) (stated hs c)) (restatement i (stated hs c)) (exported s))

-- the same, said of what is kept
module _ {old new : Stored} {f g : State → Result State Kind}
    (e : (s : State) (below : List state.Object) → f (in_state s below old.run) ≡ g (in_state s below old.run)) where
  pub Infers-as : {r : Result ℕ Fault} → Infers old g new r → Infers old f new r
  Infers-as {r = r} h = record {
    taken = IfOk-map r _ _ h.taken (λ i t s below. e s below ∙ t s below);
    made = h.made;
    refused = IfErr-map r _ _ h.refused (λ x t s below. subst (Fails x) (sym (e s below)) (t s below));
    run = h.run;
    grows = h.grows;
  }

  pub Exports-as : {r : Result (Unit {0}) Fault} → Exports old g new r → Exports old f new r
  Exports-as {r = r} h = record {
    taken = OnOk-map r _ _ h.taken (λ t s below. e s below ∙ t s below);
    refused = IfErr-map r _ _ h.refused (λ x t s below. subst (Fails x) (sym (e s below)) (t s below));
    run = h.run;
    grows = h.grows;
  }

-- nothing is kept for want of memory
pub Infers-memory : {old : Stored} {f : State → Result State Kind} (r : Result ℕ Fault) → IsErrAnd r (λ x. x ≡ Memory) → Infers old f old r
Infers-memory (Ok i) h = absurd h
Infers-memory {old = old} {f = f} (Err x) h = record {
  taken = tt;
  made = tt;
  refused = subst (λ y. (s : State) (below : List state.Object) → Fails y (f (in_state s below old.run))) (sym h) (λ s below. tt);
  run = refl;
  grows = Grows-refl old;
}

pub Concludes-memory : {k : Kept} {rule : Result Step Kind} (r : Result ℕ Fault) → IsErrAnd r (λ x. x ≡ Memory) → Concludes k rule k r
Concludes-memory (Ok i) h = absurd h
Concludes-memory {k = k} {rule = rule} (Err x) h =
    record { concluded = tt; refused = subst (λ y. Fails y (limited rule)) (sym h) tt; unchanged = refl; keeps = Keeps-refl k.trees }

pub Exports-memory : {old : Stored} {f : State → Result State Kind} (r : Result (Unit {0}) Fault) → IsErrAnd r (λ x. x ≡ Memory) → Exports old f old r
Exports-memory (Ok i) h = absurd h
Exports-memory {old = old} {f = f} (Err x) h = record {
  taken = tt;
  refused = subst (λ y. (s : State) (below : List state.Object) → Fails y (f (in_state s below old.run))) (sym h) (λ s below. tt);
  run =
      refl;
  grows = Grows-refl old;
}

pub InfersTwo-memory : {old : Stored} {f : State → Result State Kind} (r : Result (ℕ × ℕ) Fault) → IsErrAnd r (λ x. x ≡ Memory) → InfersTwo old f old r
InfersTwo-memory (Ok i) h = absurd h
InfersTwo-memory {old = old} {f = f} (Err x) h = record {
  taken = tt;
  made = tt;
  refused = subst (λ y. (s : State) (below : List state.Object) → Fails y (f (in_state s below old.run))) (sym h) (λ s below. tt);
  run = refl;
  grows = Grows-refl old;
}

-- an export again, where nothing is kept
pub Exports-again : {old : Stored} {f : State → Result State Kind} (q : Result (Unit {0}) Kind) (r : Result (Unit {0}) Fault)
    → ((s : State) (below : List state.Object) → f (in_state s below old.run) ≡ (q >> Ok (in_state s below old.run)))
    → OnOk r (q ≡ Ok tt) → IfErr r (λ x. Fails x q) → Exports old f old r
Exports-again {old = old} q (Ok u) e a b = record
    { taken = λ s below. e s below ∙ ap (λ t. t >> Ok (in_state s below old.run)) a; refused = tt; run = tt; grows = Grows-refl old }
Exports-again {old = old} {f = f} q (Err x) e a b =
    record { taken = tt; refused = λ s below. subst (Fails x) (sym (e s below)) (fails x b (in_state s below old.run)); run = refl; grows = Grows-refl old }
  where
    fails : (x : Fault) → Fails x q → (s : State) → Fails x (q >> Ok s)
    fails Memory h s = tt
    fails (Refused k) h s = ap (λ t. t >> Ok s) h

module _ {old : Stored} (n : ℕ) (hs : List Term) (c : Term) (q : Sequent) (is : q ≡ stated hs c) (r : Result (Unit {0}) Fault) where
  -- a sequent that an export says is judged, and nothing is made
  pub Exports-known : (j : ℕ) → IsProof old.run.made → AreSteps old.run.made old.run.exports → Some j
      ≡ find (λ i. same (sequent_at old.run.made i) q) old.run.exports
      → OnOk r (follows (sequent_at old.run.made n) q ≡ Ok tt) → IfErr r (λ x. Fails x (follows (sequent_at old.run.made n) q))
      → Exports old (exporting n hs c) old r
  Exports-known j proof steps first passes fails =
      let found : find (λ i. same (sequent_at old.run.made i) (stated hs c)) old.run.exports ≡ Some j =
      sym (subst (λ t. Some j ≡ find (λ i. same (sequent_at old.run.made i) t) old.run.exports) is first) in
      let says : same (sequent_at old.run.made j) (stated hs c) ≡ true =
      find-passes (λ i. same (sequent_at old.run.made i) (stated hs c)) old.run.exports j found in
      let truths = same-all_bool (sequent_at old.run.made j) hs c
      (IsSequent-at old.run.made proof j
      (find-All (λ i. same (sequent_at old.run.made i) (stated hs c)) (λ i. i < length (steps_of old.run.made)) old.run.exports j steps found)) says in
      Exports-again (follows (sequent_at old.run.made n) (stated hs c)) r (λ s below. exporting-again (in_state s below old.run) hs c n j found truths)
      (subst (λ t. OnOk r (follows (sequent_at old.run.made n) t ≡ Ok tt)) is passes)
      (subst (λ t. IfErr r (λ x. Fails x (follows (sequent_at old.run.made n) t))) is fails)

  -- another is restated
  pub Exports-new : {new : Stored} → None ≡ find (λ i. same (sequent_at old.run.made i) q) old.run.exports → Exports old (restating n hs c) new r
      → Exports old (exporting n hs c) new r
  Exports-new none e = Exports-as
      (λ s below. exporting-new (in_state s below old.run) hs c n
      (sym (subst (λ t. None ≡ find (λ i. same (sequent_at old.run.made i) t) old.run.exports) is none))) e

pub Exports-handed : {old new : Stored} {f : State → Result State Kind} (r : Result (Unit {0}) Fault) (x : Fault) → IsErrAnd r (λ y. y ≡ x)
    → Exports old f new (Err x) → Exports old f new r
Exports-handed (Ok u) x h e = absurd h
Exports-handed {old = old} {new = new} {f = f} (Err y) x h e = subst (λ z. Exports old f new (Err z)) (sym h) e

-- a step's sequent is that of its rule
limited-sequent : (r : Result (Unit {0}) Kind) (x y : Step) → limited (r >> Ok x) ≡ Ok y → y.sequent ≡ x.sequent
limited-sequent (Ok u) x y e = go (sequent_in_limits x.sequent) e
  where
    go : (q : Result (Unit {0}) Kind) → ◌≡◌ {A = Result Step Kind} (q >> Ok x) (Ok y) → y.sequent ≡ x.sequent
    go (Ok v) f = let same : y ≡ x = cc in ap (λ (z : Step). z.sequent) same
    go (Err k) f = absurd (cc)
limited-sequent (Err k) x y e = absurd (cc)

pub axiom-sequent : (hs : List Term) (c : Term) (y : Step) → limited (axiom_step hs c) ≡ Ok y → y.sequent ≡ stated hs c
axiom-sequent hs c y e = limited-sequent (all_bool (c ∷ hs)) (step_by by_rule.Axiom [] (Parameters.sequent (stated hs c)) (stated hs c)) y e

pub restate-sequent : (made : List Made) (n : ℕ) (hs : List Term) (c : Term) (y : Step) → limited (restate_step made n hs c) ≡ Ok y → y.sequent ≡ stated hs c
restate-sequent made n hs c y e = go (all_bool (c ∷ hs)) e
  where
    go : (r : Result (Unit {0}) Kind) → limited (r >> (follows (sequent_at made n) (stated hs c) >> Ok (restatement n (stated hs c)))) ≡ Ok y → y.sequent
        ≡ stated hs c
    go (Ok u) f = limited-sequent (follows (sequent_at made n) (stated hs c)) (restatement n (stated hs c)) y f
    go (Err k) f = absurd (cc)

-- the last step says its sequent
sequent_at-last : (made : List Made) (x : Step) → sequent_at (made ++ Made.step x ∷ []) (length (steps_of made)) ≡ x.sequent
sequent_at-last made x =
    ap (λ xs. slice_index_or (map (λ (y : Step). y.sequent) xs) (length (steps_of made)) none) (steps_of-push made x)
    ∙ ap (λ ss. slice_index_or ss (length (steps_of made)) none) (map-append (λ (y : Step). y.sequent) (steps_of made) (x ∷ []))
    ∙ ap (λ n. slice_index_or (sequents_of made ++ x.sequent ∷ []) n none) (sym (length_map (λ (y : Step). y.sequent) (steps_of made)))
    ∙ get_or-append_seam (sequents_of made) x.sequent [] none
  where
    none : Sequent
    none = record { hypotheses = []; conclusion = bound 0 }

-- a step that is made, and noted with the sequent that it says
module _ {a b : Kept} {rule : Result Step Kind} {r : Result ℕ Fault} (h : Concludes a rule b r) (sequent : Numbered) (us vs : List Said)
    (noted : OnOk r (vs ≡ us ++ said sequent (length (steps_of a.made)) ∷ [])) (unchanged : OnErr r (vs ≡ us)) where
  noted-steps : OnOk r (steps_in vs ≡ steps_in us ++ length (steps_of a.made) ∷ [])
  noted-steps = OnOk-map r _ _ noted (λ e. ap steps_in e ∙ map-append (λ (s : Said). s.step) us (said sequent (length (steps_of a.made)) ∷ []))

  same-steps : OnErr r (steps_in vs ≡ steps_in us)
  same-steps = OnErr-map r _ _ unchanged (λ e. ap steps_in e)

  noted-AreSteps : AreSteps a.made (steps_in us) → AreSteps b.made (steps_in vs)
  noted-AreSteps k = by_answer r h.concluded noted-steps same-steps
    where
      more : AreSteps b.made (steps_in us)
      more = AreSteps-more a.made b.made (more-steps (Concludes-more h)) (steps_in us) k

      by_answer : (r : Result ℕ Fault) → IfOk r (λ i. (i ≡ proof.step_count a) × ((x : Step) × (limited rule ≡ Ok x) × (b.made ≡ a.made ++ Made.step x ∷ [])))
          → OnOk r (steps_in vs ≡ steps_in us ++ length (steps_of a.made) ∷ []) → OnErr r (steps_in vs ≡ steps_in us) → AreSteps b.made (steps_in vs)
      by_answer (Ok i) c n u = let e = ap (λ made. length (steps_of made)) c.1.2 ∙ count-step a.made c.1.0 in subst (AreSteps b.made) (sym n)
          (AreSteps-push b.made (steps_in us) (length (steps_of a.made)) more (omega (arith, e)))
      by_answer (Err x) c n u = subst (AreSteps b.made) (sym u) more

  noted-longer : (p : ℕ) → p ≤ length (steps_in us) → p ≤ length (steps_in vs)
  noted-longer p l = by_answer r noted-steps same-steps
    where
      by_answer : (r : Result ℕ Fault) → OnOk r (steps_in vs ≡ steps_in us ++ length (steps_of a.made) ∷ []) → OnErr r (steps_in vs ≡ steps_in us)
          → p ≤ length (steps_in vs)
      by_answer (Ok i) n u = let e = ap length n ∙ length-append (steps_in us) (length (steps_of a.made) ∷ []) in omega (arith, l, e)
      by_answer (Err x) n u = let e = ap length u in omega (arith, l, e)

  -- the step that is noted says its sequent
  module _ (t : Sequent) (is : IsStated a.trees sequent t) (rule_says : (x : Step) → limited rule ≡ Ok x → x.sequent ≡ t) where
    noted-AreSaid : AreSteps a.made (steps_in us) → AreSaid a us → AreSaid b vs
    noted-AreSaid l k = by_answer r h.concluded noted unchanged
      where
        more : AreSaid b us
        more = AreSaid-more (Concludes-more h) us l k

        last : (x : Step) → limited rule ≡ Ok x → b.made ≡ a.made ++ Made.step x ∷ [] → IsSaid b (said sequent (length (steps_of a.made)))
        last x e f = let w = sequent-more (Concludes-more h) sequent is.known in record {
          known = w.0;
          says = ap (λ made. sequent_at made (length (steps_of a.made))) f ∙ sequent_at-last a.made x ∙ rule_says x e ∙ sym is.is ∙ sym w.1;
        }

        by_answer : (r : Result ℕ Fault) → IfOk r (λ i. (i ≡ proof.step_count a) × ((x : Step) × (limited rule ≡ Ok x) × (b.made ≡ a.made ++ Made.step x ∷ [])))
            → OnOk r (vs ≡ us ++ said sequent (length (steps_of a.made)) ∷ []) → OnErr r (vs ≡ us) → AreSaid b vs
        by_answer (Ok i) c n u = subst (AreSaid b) (sym n)
            (All-append (IsSaid b) us (said sequent (length (steps_of a.made)) ∷ []) more (last c.1.0 c.1.1 c.1.2, tt {0}))
        by_answer (Err x) c n u = subst (AreSaid b) (sym u) more

    -- an assumption
    pub assumed-IsStore : {ns : List Name} {cs : List Cell} {ws : List Said} {p : ℕ} → IsStore a ns cs us ws p → IsStore b ns cs vs ws p
    assumed-IsStore {ns = ns} {ws = ws} i = IsStore-run (Concludes-more h) i (IsFront-refl ns) (record {
      assumed = noted-AreSteps i.run_known.assumed;
      exported = AreSteps-more a.made b.made (more-steps (Concludes-more h)) (steps_in ws) i.run_known.exported;
      earlier = i.run_known.earlier;
    }) (noted-AreSaid i.run_known.assumed i.assumed) (AreSaid-more (Concludes-more h) ws i.run_known.exported i.exported)

    -- an export
    pub exported-IsStore : {ns : List Name} {cs : List Cell} {ws : List Said} {p : ℕ} → IsStore a ns cs ws us p → IsStore b ns cs ws vs p
    exported-IsStore {ns = ns} {ws = ws} {p = p} i = IsStore-run (Concludes-more h) i (IsFront-refl ns) (record {
      assumed = AreSteps-more a.made b.made (more-steps (Concludes-more h)) (steps_in ws) i.run_known.assumed;
      exported = noted-AreSteps i.run_known.exported;
      earlier = noted-longer p i.run_known.earlier;
    }) (AreSaid-more (Concludes-more h) ws i.run_known.assumed i.assumed) (noted-AreSaid i.run_known.exported i.exported)

  module _ {ns : List Name} {cs : List Cell} {ws : List Said} {p : ℕ} (i : IsStore a ns cs us ws p) where
    assumed-grows : Grows (store_view a ns cs us ws p) (store_view b ns cs vs ws p)
    assumed-grows = Grows-run (Concludes-more h) i vs ws p (IsFront-refl ns)

    assumed-run : OnErr r (run_of b vs ws p ≡ run_of a us ws p)
    assumed-run = OnErr-map2 r _ _ _ same-steps h.unchanged (λ e f. ap₂ (λ l made. run_view made l (steps_in ws) p) e f)

    assumed-taken : IfOk r (λ j. (s : State) (below : List state.Object)
        → by_step rule (in_state s below (run_view a.made (steps_in us ++ length (steps_of a.made) ∷ []) (steps_in ws) p))
        ≡ Ok (in_state s (state.Object.theorem j ∷ below) (run_of b vs ws p)))
    assumed-taken = by_answer r noted-steps (Concludes-taken h (steps_in us ++ length (steps_of a.made) ∷ []) (steps_in ws) p)
      where
        by_answer : (r : Result ℕ Fault) → OnOk r (steps_in vs ≡ steps_in us ++ length (steps_of a.made) ∷ [])
            → IfOk r (λ j. (s : State) (below : List state.Object)
            → by_step rule (in_state s below (run_view a.made (steps_in us ++ length (steps_of a.made) ∷ []) (steps_in ws) p))
            ≡ Ok (in_state s (state.Object.theorem j ∷ below) (run_view b.made (steps_in us ++ length (steps_of a.made) ∷ []) (steps_in ws) p)))
            → IfOk r (λ j. (s : State) (below : List state.Object)
            → by_step rule (in_state s below (run_view a.made (steps_in us ++ length (steps_of a.made) ∷ []) (steps_in ws) p))
            ≡ Ok (in_state s (state.Object.theorem j ∷ below) (run_of b vs ws p)))
        by_answer (Ok j) n t = λ s below. t s below ∙ ap (λ l. Ok (in_state s (state.Object.theorem j ∷ below) (run_view b.made l (steps_in ws) p))) (sym n)
        by_answer (Err x) n t = tt

  exported-grows : {ns : List Name} {cs : List Cell} {ws : List Said} {p : ℕ} → IsStore a ns cs ws us p
      → Grows (store_view a ns cs ws us p) (store_view b ns cs ws vs p)
  exported-grows {ns = ns} {ws = ws} {p = p} i = Grows-run (Concludes-more h) i ws vs p (IsFront-refl ns)

pub assumed-Infers : (hs : List Term) (c : Term) {a b : Kept} {r : Result ℕ Fault} (h : Concludes a (axiom_step hs c) b r) (sequent : Numbered)
    (us vs : List Said)
    → OnOk r (vs ≡ us ++ said sequent (length (steps_of a.made)) ∷ []) → OnErr r (vs ≡ us)
    → {ns : List Name} {cs : List Cell} {ws : List Said} {p : ℕ} → IsStore a ns cs us ws p
    → Infers (store_view a ns cs us ws p) (recording hs c) (store_view b ns cs vs ws p) r
assumed-Infers hs c {a = a} h sequent us vs noted unchanged {ws = ws} {p = p} i = record {
  taken = assumed-taken h sequent us vs noted unchanged i;
  made = Concludes-made h;
  refused = Concludes-refused h (steps_in us ++ length (steps_of a.made) ∷ []) (steps_in ws) p;
  run = assumed-run h sequent us vs noted unchanged i;
  grows = assumed-grows h sequent us vs noted unchanged i;
}

-- what an export does to a state
abbrev with_export : State → Step → State
with_export s x = record (with_step s x) { exports = s.exports ++ next_step s ∷ [] }

pub exported-Exports : (n : ℕ) (hs : List Term) (c : Term) {a b : Kept} {j : ℕ} (h : Concludes a (restate_step a.made n hs c) b (Ok j)) (sequent : Numbered)
    (us vs : List Said) → vs ≡ us ++ said sequent (length (steps_of a.made)) ∷ []
    → {ns : List Name} {cs : List Cell} {ws : List Said} {p : ℕ} → IsStore a ns cs ws us p
    → Exports (store_view a ns cs ws us p) (restating n hs c) (store_view b ns cs ws vs p) (Ok tt)
exported-Exports n hs c {a = a} h sequent us vs noted {ws = ws} {p = p} i =
    let m : steps_in vs ≡ steps_in us ++ length (steps_of a.made) ∷ [] = noted-steps h sequent us vs noted tt in
    let q : take p (steps_in vs) ≡ take p (steps_in us) = ap (take p) m ∙ take-append-le p (steps_in us) (length (steps_of a.made) ∷ []) i.run_known.earlier in
    record {
      taken = λ s below. limited-Ok (with_export (in_state s below (run_of a ws us p))) (restate_step a.made n hs c) h.concluded.1.0 h.concluded.1.1
          ∙ (λ t. Ok (in_state s below (record { made = sym h.concluded.1.2 t; assumptions = steps_in ws; exports = sym m t; pool = sym q t })));
      refused = tt;
      run = tt;
      grows = exported-grows h sequent us vs noted tt i;
    }

pub exported-fails : (n : ℕ) (hs : List Term) (c : Term) {a b : Kept} {x : Fault} (h : Concludes a (restate_step a.made n hs c) b (Err x)) (sequent : Numbered)
    (us vs : List Said) → vs ≡ us
    → {ns : List Name} {cs : List Cell} {ws : List Said} {p : ℕ} → IsStore a ns cs ws us p
    → Exports (store_view a ns cs ws us p) (restating n hs c) (store_view b ns cs ws vs p) (Err x)
exported-fails n hs c {a = a} {x = x} h sequent us vs unchanged {ws = ws} {p = p} i = record {
  taken = tt;
  refused = λ s below. limited-fails (with_export (in_state s below (run_of a ws us p))) (restate_step a.made n hs c) x h.refused;
  run = ap₂ (λ l made. run_view made (steps_in ws) (steps_in l) p) unchanged h.unchanged;
  grows = exported-grows h sequent us vs tt unchanged i;
}
