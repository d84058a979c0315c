-- What the words of inference answer, by what their rules make.
use Rattle.std.proofs.Common.{◌≡◌, ℕ, ◌<◌, refl, sym, ap, subst, ◌∙◌, arith, List, [], ◌∷◌, ◌++◌, length, drop, Result, Ok, Err, IfOk, IfErr, OnErr}
use Rattle.std.specs.Result.{IsErrAnd}
use Rattle.std.proofs.Math.Path.{ap₂}
use Rattle.hol_spec.specs.Names.{Name}
use Rattle.hol_spec.specs.Proofs.{Made, Step, steps_of}
use Rattle.common.specs.declared.faults.Fault.{Fault}
use Rattle.common.specs.declared.faults.Fault.TheVariants.{Memory, Refused}
use Rattle.common.specs.declared.faults.Kind.{Kind}
use Rattle.article_spec.specs.declared.commands.Word.{Word}
use Rattle.article_spec.specs.State.{State}
use Rattle.article_spec.specs.State as state
use Rattle.article_spec.specs.Results.{◌>>=◌, ◌>>◌, Fails}
use Rattle.article_spec.specs.Conditions.{sequent_in_limits}
use Rattle.article_spec.specs.Changes.{with_theorem, by_step}
use Rattle.article_spec.specs.Step.{obey}
use Rattle.hol_proof_laws.specs.ProofLaws.{steps_of-push}
use Rattle.compose.specs.declared.pool.Said.{Said}
use Rattle.compose.specs.Pools.{steps_in}
use Rattle.hol_term.specs.Tables.{IsTermAt}
use Rattle.hol_rules.specs.Kept.{Kept}
use Rattle.hol_rules.specs.Kept as proof
use Rattle.hol_rules.specs.Conclusions.{Concludes, limited}
use Rattle.stack_machine.specs.declared.object.Object.{Object}
use Rattle.stack_machine.specs.declared.object.Object.TheVariants as object
use Rattle.stack_machine.specs.declared.object.Cell.{Cell}
use Rattle.stack_machine.specs.Making.{run_view}
use Rattle.stack_machine.specs.MakingLaws.{count-step}
use Rattle.stack_machine.specs.Stored.{Stored, IsFront, IsStep, IsStore, IsTerm, IsType, objects_view, store_view, AreKnown}
use Rattle.stack_machine.specs.Shown.{in_state, shown}
use Rattle.stack_machine.specs.Obeying.{Obeys}
use Rattle.stack_machine.specs.Concluding.{IsConcluded}
use Rattle.stack_machine.specs.Inferring.{Exports, Infers}
use Rattle.stack_machine.proofs.Passing.{IfOk-map, IfErr-map, OnErr-map}
use Rattle.stack_machine.proofs.Obeyed.{failed, placed}
use Rattle.stack_machine.proofs.Stores.{IsFront-same, IsMore, IsStore-more, Grows-more}

-- what is made of a step within the limits
abbrev pub limited_state : (Step → State) → Step → Result State Kind
limited_state f x = sequent_in_limits x.sequent >> Ok (f x)

pub limited-Ok : (f : Step → State) (rule : Result Step Kind) (x : Step) → limited rule ≡ Ok x → (rule >>= limited_state f) ≡ Ok (f x)
limited-Ok f (Ok y) x e = go (sequent_in_limits y.sequent) e
  where
    go : (r : Result (Unit {0}) Kind) → ◌≡◌ {A = Result Step Kind} (r >> Ok y) (Ok x) → ◌≡◌ {A = Result State Kind} (r >> Ok (f y)) (Ok (f x))
    go (Ok u) e = let same : y ≡ x = cc in ap (λ z. Ok (f z)) same
    go (Err k) e = absurd (cc)
limited-Ok f (Err k) x e = absurd (cc)

pub limited-fails : (f : Step → State) (rule : Result Step Kind) (fault : Fault) → Fails fault (limited rule) → Fails fault (rule >>= limited_state f)
limited-fails f rule Memory h = tt
limited-fails f (Ok y) (Refused k) h = go (sequent_in_limits y.sequent) h
  where
    go : (r : Result (Unit {0}) Kind) → ◌≡◌ {A = Result Step Kind} (r >> Ok y) (Err k) → ◌≡◌ {A = Result State Kind} (r >> Ok (f y)) (Err k)
    go (Ok u) e = absurd (cc)
    go (Err j) e = let same : j ≡ k = cc in rw same refl
limited-fails f (Err j) (Refused k) h = let same : j ≡ k = cc in rw same refl

-- a rule makes the next step, or nothing
module _ {a b : Kept} {rule : Result Step Kind} {r : Result ℕ Fault} (h : Concludes a rule b r) where
  pub Concludes-more : IsMore a b
  Concludes-more = record { trees = h.keeps; steps = by_answer r h.concluded h.unchanged }
    where
      by_answer : (r : Result ℕ Fault) → IfOk r (λ i. (i ≡ proof.step_count a) × ((x : Step) × (limited rule ≡ Ok x) × (b.made ≡ a.made ++ Made.step x ∷ [])))
          → OnErr r (b.made ≡ a.made) → IsFront (steps_of a.made) (steps_of b.made)
      by_answer (Ok i) c u = record { more = c.1.0 ∷ []; is = ap steps_of c.1.2 ∙ steps_of-push a.made c.1.0 }
      by_answer (Err x) c u = IsFront-same (ap steps_of u)

  pub Concludes-made : IfOk r (λ i. i < length (steps_of b.made))
  Concludes-made = IfOk-map r _ _ h.concluded (λ i c. let e = ap (λ made. length (steps_of made)) c.1.2 ∙ count-step a.made c.1.0 in omega (arith, e, c.0))

  module _ (us ws : List ℕ) (p : ℕ) where
    pub Concludes-taken : IfOk r (λ i. (s : State) (below : List state.Object) → by_step rule (in_state s below (run_view a.made us ws p))
        ≡ Ok (in_state s (state.Object.theorem i ∷ below) (run_view b.made us ws p)))
    Concludes-taken = IfOk-map r _ _ h.concluded (λ i c s below. limited-Ok (with_theorem (in_state s below (run_view a.made us ws p))) rule c.1.0 c.1.1
        ∙ ap₂ (λ j made. Ok (in_state s (state.Object.theorem j ∷ below) (run_view made us ws p))) (sym c.0) (sym c.1.2))

    pub Concludes-refused : IfErr r (λ fault. (s : State) (below : List state.Object) → Fails fault (by_step rule (in_state s below (run_view a.made us ws p))))
    Concludes-refused = IfErr-map r _ _ h.refused (λ fault e s below. limited-fails (with_theorem (in_state s below (run_view a.made us ws p))) rule fault e)

    pub Concludes-run : OnErr r (run_view b.made us ws p ≡ run_view a.made us ws p)
    Concludes-run = OnErr-map r _ _ h.unchanged (λ e. ap (λ made. run_view made us ws p) e)

module _ {a b : Kept} {rule : Result Step Kind} {r : Result ℕ Fault} {ns : List Name} {cs : List Cell} {us ws : List Said} {p : ℕ} (h : Concludes a rule b r)
    (i : IsStore a ns cs us ws p) where
  pub Concludes-IsStore : IsStore b ns cs us ws p
  Concludes-IsStore = IsStore-more (Concludes-more h) i

  pub Concludes-Infers : Infers (store_view a ns cs us ws p) (by_step rule) (store_view b ns cs us ws p) r
  Concludes-Infers = record {
    taken = Concludes-taken h (steps_in us) (steps_in ws) p;
    made = Concludes-made h;
    refused = Concludes-refused h (steps_in us) (steps_in ws) p;
    run = Concludes-run h (steps_in us) (steps_in ws) p;
    grows = Grows-more (Concludes-more h) i;
  }

-- a word whose operands are off the stack, and which its rule refuses or obeys
module _ {word : Word} {a b : Stored} {stack : List Object} {f : State → Result State Kind} (n : ℕ)
    (e : (s : State) → obey (shown a stack s) word ≡ f (in_state s (objects_view a (drop n stack)) a.run)) (k : AreKnown a stack) where
  pub Infers-fails : (r : Result (Unit {0}) Fault) (x : Fault) → IsErrAnd r (λ y. y ≡ x) → Infers a f b (Err x) → Obeys word a stack b stack r
  Infers-fails r x h i = failed r x h k i.grows i.run (λ s. subst (Fails x) (sym (e s)) (i.refused s (objects_view a (drop n stack))))

  pub Infers-obeys : {new : List Object} {i : ℕ} → Infers a f b (Ok i) → new ≡ object.Theorem i ∷ drop n stack → Obeys word a stack b new (Ok tt)
  Infers-obeys {i = i} h put = placed n (object.Theorem i ∷ []) (state.Object.theorem i ∷ []) b.run k h.grows put (h.made, tt) refl refl
      (λ s. e s ∙ h.taken s (objects_view a (drop n stack)))

  pub Exports-fails : (r : Result (Unit {0}) Fault) (x : Fault) → IsErrAnd r (λ y. y ≡ x) → Exports a f b (Err x) → Obeys word a stack b stack r
  Exports-fails r x h i = failed r x h k i.grows i.run (λ s. subst (Fails x) (sym (e s)) (i.refused s (objects_view a (drop n stack))))

  pub Exports-obeys : {new : List Object} → Exports a f b (Ok tt) → new ≡ drop n stack → Obeys word a stack b new (Ok tt)
  Exports-obeys h dropped = placed n [] [] b.run k h.grows dropped tt refl refl (λ s. e s ∙ h.taken s (objects_view a (drop n stack)))

-- what the store knows the proof knows
module _ {a : Kept} {ns : List Name} {cs : List Cell} {us ws : List Said} {p : ℕ} {m : Stored} (i : IsStore a ns cs us ws p)
    (is : store_view a ns cs us ws p ≡ m) where
  pub term-there : {t : ℕ} → IsTerm m t → IsTermAt a.trees t
  term-there {t = t} h = (subst (λ m. IsTerm m t) (sym is) h).typed

  pub type-there : {t : ℕ} → IsType m t → t < length a.trees.types
  type-there {t = t} h = subst (λ m. IsType m t) (sym is) h

  pub step-there : {j : ℕ} → IsStep m j → j < proof.step_count a
  step-there {j = j} h = subst (λ m. IsStep m j) (sym is) h

  pub rule-infers : {b : Kept} {step : Result ℕ Fault} (rule : Stored → Result Step Kind) → Concludes a (rule (store_view a ns cs us ws p)) b step
      → Infers m (by_step (rule m)) (store_view b ns cs us ws p) step
  rule-infers {b = b} {step = step} rule h = subst (λ m. Infers m (by_step (rule m)) (store_view b ns cs us ws p) step) is (Concludes-Infers h i)

  -- a word whose operands are off the stack, and whose rule makes the next step or is refused
  module _ {word : Word} {b : Kept} {stack new : List Object} {step : Result ℕ Fault} {r : Result (Unit {0}) Fault} (n : ℕ) (rule : Stored → Result Step Kind)
    where
      pub rule-obeys : Concludes a (rule (store_view a ns cs us ws p)) b step → IsConcluded n stack step new r → AreKnown m stack
          → ((s : State) → obey (shown m stack s) word ≡ by_step (rule m) (in_state s (objects_view m (drop n stack)) m.run))
          → Obeys word m stack (store_view b ns cs us ws p) new r
      rule-obeys h put k e = by_answer step (rule-infers rule h) put
        where
          by_answer : (step : Result ℕ Fault) → Infers m (by_step (rule m)) (store_view b ns cs us ws p) step → IsConcluded n stack step new r
              → Obeys word m stack (store_view b ns cs us ws p) new r
          by_answer (Ok j) g c = subst (Obeys word m stack (store_view b ns cs us ws p) new) (sym c.concluded) (Infers-obeys n e k g c.theorem)
          by_answer (Err x) g c = subst (λ xs. Obeys word m stack (store_view b ns cs us ws p) xs r) (sym c.same)
              (Infers-fails n e k r x (subst (λ q. IsErrAnd q (λ y. y ≡ x)) (sym c.refused) refl) g)
