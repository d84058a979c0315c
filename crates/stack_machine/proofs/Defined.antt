-- What the words that define answer, by what their definitions make.
use Rattle.std.proofs.Common.{◌≡◌, ℕ, ◌+◌, ◌<◌, refl, sym, ap, subst, ◌∙◌, arith, List, [], ◌∷◌, ◌++◌, length, append-nil, append_assoc, map, drop, Result, Ok, Err, IfOk, IfErr, OnErr}
use Rattle.std.specs.Result.{IsErrAnd}
use Rattle.std.proofs.Math.Path.{ap₂}
use Rattle.hol_spec.specs.Names.{Name}
use Rattle.hol_spec.specs.Symbols.{Symbol}
use Rattle.hol_spec.specs.Proofs.{Made, Step, steps_of}
use Rattle.common.specs.declared.faults.Fault.{Fault}
use Rattle.common.specs.declared.faults.Fault.TheVariants.{Memory, Refused}
use Rattle.common.specs.declared.faults.Kind.{Kind}
use Rattle.article_spec.specs.declared.commands.Word.{Word}
use Rattle.hol_spec.specs.declared.Version.{Version}
use Rattle.article_spec.specs.State.{State, version_at}
use Rattle.article_spec.specs.State as state
use Rattle.article_spec.specs.Results.{◌>>=◌, Fails}
use Rattle.article_spec.specs.Changes.{with_theorem, defining, defining_type, with_type}
use Rattle.article_spec.specs.Step.{obey}
use Rattle.hol_proof_laws.specs.ProofGrowth.{steps_of-append}
use Rattle.hol_proof_laws.specs.ProofLaws.{steps_of-push, steps_of-symbols}
use Rattle.compose.specs.declared.pool.Said.{Said}
use Rattle.compose.specs.Pools.{steps_in}
use Rattle.hol_rules.specs.Kept.{Kept}
use Rattle.hol_rules.specs.Kept as proof
use Rattle.hol_rules.specs.Conclusions.{Defines, DefinesType, limited}
use Rattle.article_spec.specs.RuleSteps.{NewType}
use Rattle.stack_machine.specs.declared.object.Object.{Object}
use Rattle.stack_machine.specs.declared.object.Object.TheVariants as object
use Rattle.stack_machine.specs.declared.object.Cell.{Cell}
use Rattle.stack_machine.specs.Making.{run_view}
use Rattle.stack_machine.specs.MakingLaws.{count-step, count-symbols}
use Rattle.stack_machine.specs.declared.object.NameId.{NameId}
use Rattle.stack_machine.specs.Stored.{Stored, IsFront, IsName, IsStore, Grows, name_at, objects_view, store_view, AreKnown}
use Rattle.stack_machine.specs.StoredLaws.{AreKnown-Grows, Grows-trans, IsKnown-Grows, name_at-Grows}
use Rattle.stack_machine.specs.Shown.{in_state, shown}
use Rattle.stack_machine.specs.Obeying.{Obeys, ObeysIn}
use Rattle.stack_machine.specs.Inferring.{Infers, InfersTwo}
use Rattle.stack_machine.proofs.Passing.{IfOk-map, IfErr-map, OnErr-map}
use Rattle.stack_machine.proofs.Obeyed.{failed, placed}
use Rattle.stack_machine.proofs.Placed.{placed-view, placed-known}
use Rattle.stack_machine.proofs.Inferred.{limited-Ok, limited-fails}
use Rattle.stack_machine.proofs.DefiningRules.{DefinesNoStep}
use Rattle.stack_machine.proofs.Stores.{IsFront-same, IsMore, IsStore-more, Grows-more}

-- as many steps where no step is made, and one more where a step is made then
module _ (made things : List Made) (none : steps_of things ≡ []) where
  steps_of-same : steps_of (made ++ things) ≡ steps_of made
  steps_of-same = steps_of-append made things ∙ ap (λ xs. steps_of made ++ xs) none ∙ append-nil (steps_of made)

  count-defined : (x : Step) → length (steps_of ((made ++ things) ++ Made.step x ∷ [])) ≡ length (steps_of made) + 1
  count-defined x = count-step (made ++ things) x ∙ ap (λ xs. length xs + 1) steps_of-same

  steps_of-defined : (x : Step) → steps_of ((made ++ things) ++ Made.step x ∷ []) ≡ steps_of made ++ x ∷ []
  steps_of-defined x = steps_of-push (made ++ things) x ∙ ap (λ xs. xs ++ x ∷ []) steps_of-same

-- a definition takes symbols and makes the next step, or nothing
module _ {a b : Kept} {symbols : List Symbol} {rule : Result Step Kind} {r : Result ℕ Fault} (h : Defines a symbols rule b r) where
  pub Defines-more : IsMore a b
  Defines-more = record { trees = h.keeps; steps = by_answer r h.concluded h.unchanged }
    where
      by_answer : (r : Result ℕ Fault) → IfOk r
          (λ i. (i ≡ proof.step_count a) × ((x : Step) × (limited rule ≡ Ok x) × (b.made ≡ (a.made ++ map Made.symbol symbols) ++ Made.step x ∷ [])))
          → OnErr r (b.made ≡ a.made)
          → IsFront (steps_of a.made) (steps_of b.made)
      by_answer (Ok i) c u = record
          { more = c.1.0 ∷ []; is = ap steps_of c.1.2 ∙ steps_of-defined a.made (map Made.symbol symbols) (steps_of-symbols [] symbols) c.1.0 }
      by_answer (Err x) c u = IsFront-same (ap steps_of u)

  pub Defines-made : IfOk r (λ i. i < length (steps_of b.made))
  Defines-made = IfOk-map r _ _ h.concluded (λ i c. let e = ap (λ made. length (steps_of made)) c.1.2
      ∙ count-defined a.made (map Made.symbol symbols) (steps_of-symbols [] symbols) c.1.0 in omega (arith, e, c.0))

  module _ (us ws : List ℕ) (p : ℕ) where
    abbrev before : State → List state.Object → State
    before s below = in_state s below (run_view (a.made ++ map Made.symbol symbols) us ws p)

    pub Defines-taken : IfOk r (λ i. (s : State) (below : List state.Object) → defining symbols rule (in_state s below (run_view a.made us ws p))
        ≡ Ok (in_state s (state.Object.theorem i ∷ below) (run_view b.made us ws p)))
    Defines-taken = IfOk-map r _ _ h.concluded (λ i c s below. limited-Ok (with_theorem (before s below)) rule c.1.0 c.1.1
        ∙ ap₂ (λ j made. Ok (in_state s (state.Object.theorem j ∷ below) (run_view made us ws p))) (count-symbols a.made symbols ∙ sym c.0) (sym c.1.2))

    pub Defines-refused : IfErr r (λ fault. (s : State) (below : List state.Object)
        → Fails fault (defining symbols rule (in_state s below (run_view a.made us ws p))))
    Defines-refused = IfErr-map r _ _ h.refused (λ fault e s below. limited-fails (with_theorem (before s below)) rule fault e)

    pub Defines-run : OnErr r (run_view b.made us ws p ≡ run_view a.made us ws p)
    Defines-run = OnErr-map r _ _ h.unchanged (λ e. ap (λ made. run_view made us ws p) e)

module _ {a b : Kept} {symbols : List Symbol} {rule : Result Step Kind} {r : Result ℕ Fault} {ns : List Name} {cs : List Cell} {us ws : List Said} {p : ℕ}
    (h : Defines a symbols rule b r) (i : IsStore a ns cs us ws p) where
  pub Defines-IsStore : IsStore b ns cs us ws p
  Defines-IsStore = IsStore-more (Defines-more h) i

  pub Defines-Infers : Infers (store_view a ns cs us ws p) (defining symbols rule) (store_view b ns cs us ws p) r
  Defines-Infers = record {
    taken = Defines-taken h (steps_in us) (steps_in ws) p;
    made = Defines-made h;
    refused = Defines-refused h (steps_in us) (steps_in ws) p;
    run = Defines-run h (steps_in us) (steps_in ws) p;
    grows = Grows-more (Defines-more h) i;
  }

-- what follows an answer that has none follows no fault of its
rule-fails : (f : NewType → State) (rule : Result NewType Kind) (fault : Fault) → Fails fault rule → Fails fault (rule >>= λ x. Ok (f x))
rule-fails f rule Memory h = tt
rule-fails f rule (Refused k) h = rw h refl

-- the definition of a type operator takes it and makes two steps, or nothing
module _ {a b : Kept} {rule : Result NewType Kind} {r : Result (ℕ × ℕ) Fault} (h : DefinesType a rule b r) (d : DefinesNoStep rule) where
  two_steps : (x : NewType) → rule ≡ Ok x → b.made ≡ ((a.made ++ x.definition ∷ []) ++ Made.step x.first ∷ []) ++ Made.step x.second ∷ []
      → length (steps_of b.made) ≡ length (steps_of a.made) + 2
  two_steps x is e =
      let second = ap (λ made. length (steps_of made)) e ∙ count-step ((a.made ++ x.definition ∷ []) ++ Made.step x.first ∷ []) x.second in
      let first = count-defined a.made (x.definition ∷ []) (d.none x is) x.first in
      omega (arith, second, first)

  pub DefinesType-more : IsMore a b
  DefinesType-more = record { trees = h.keeps; steps = by_answer r h.concluded h.unchanged }
    where
      by_answer : (r : Result (ℕ × ℕ) Fault)
          → IfOk r (λ ids. (ids.0 ≡ proof.step_count a)
          × ((ids.1 ≡ proof.step_count a + 1)
          × ((x : NewType) × (rule ≡ Ok x) × (b.made ≡ ((a.made ++ x.definition ∷ []) ++ Made.step x.first ∷ []) ++ Made.step x.second ∷ []))))
          → OnErr r (b.made ≡ a.made) → IsFront (steps_of a.made) (steps_of b.made)
      by_answer (Ok ids) c u =
          let x = c.1.1.0 in
          record {
            more = x.first ∷ x.second ∷ [];
            is = ap steps_of c.1.1.2 ∙ steps_of-push ((a.made ++ x.definition ∷ []) ++ Made.step x.first ∷ []) x.second
                ∙ ap (λ xs. xs ++ x.second ∷ []) (steps_of-defined a.made (x.definition ∷ []) (d.none x c.1.1.1) x.first)
                ∙ append_assoc (steps_of a.made) (x.first ∷ []) (x.second ∷ []);
          }
      by_answer (Err x) c u = IsFront-same (ap steps_of u)

  pub DefinesType-made : IfOk r (λ ids. (ids.0 < length (steps_of b.made)) × (ids.1 < length (steps_of b.made)))
  DefinesType-made = IfOk-map r _ _ h.concluded (λ ids c. let e = two_steps c.1.1.0 c.1.1.1 c.1.1.2 in (omega (arith, e, c.0), omega (arith, e, c.1.0)))

  module _ (us ws : List ℕ) (p : ℕ) where
    abbrev typed_state : State → List state.Object → ℕ → ℕ → List Made → State
    typed_state s below i j made = in_state s (state.Object.theorem j ∷ state.Object.theorem i ∷ below) (run_view made us ws p)

    pub DefinesType-taken : IfOk r (λ ids. (s : State) (below : List state.Object)
        → defining_type rule (in_state s below (run_view a.made us ws p))
        ≡ Ok (in_state s (state.Object.theorem ids.1 ∷ state.Object.theorem ids.0 ∷ below) (run_view b.made us ws p)))
    DefinesType-taken = IfOk-map r _ _ h.concluded (λ ids c s below.
        let x = c.1.1.0 in
        let taken = a.made ++ x.definition ∷ [] in
        let first = taken ++ Made.step x.first ∷ [] in
        let all = first ++ Made.step x.second ∷ [] in
        ap (λ q. q >>= λ y. Ok (with_type (in_state s below (run_view a.made us ws p)) y)) c.1.1.1
        ∙ ap₂ (λ i j. Ok (typed_state s below i j all)) (ap length (steps_of-same a.made (x.definition ∷ []) (d.none x c.1.1.1)) ∙ sym c.0)
        (count-defined a.made (x.definition ∷ []) (d.none x c.1.1.1) x.first ∙ sym c.1.0)
        ∙ ap (λ made. Ok (typed_state s below ids.0 ids.1 made)) (sym c.1.1.2))

    pub DefinesType-refused : IfErr r (λ fault. (s : State) (below : List state.Object)
        → Fails fault (defining_type rule (in_state s below (run_view a.made us ws p))))
    DefinesType-refused = IfErr-map r _ _ h.refused (λ fault e s below. rule-fails (with_type (in_state s below (run_view a.made us ws p))) rule fault e)

    pub DefinesType-run : OnErr r (run_view b.made us ws p ≡ run_view a.made us ws p)
    DefinesType-run = OnErr-map r _ _ h.unchanged (λ e. ap (λ made. run_view made us ws p) e)

module _ {a b : Kept} {rule : Result NewType Kind} {r : Result (ℕ × ℕ) Fault} {ns : List Name} {cs : List Cell} {us ws : List Said} {p : ℕ}
    (h : DefinesType a rule b r) (d : DefinesNoStep rule) (i : IsStore a ns cs us ws p) where
  pub DefinesType-IsStore : IsStore b ns cs us ws p
  DefinesType-IsStore = IsStore-more (DefinesType-more h d) i

  pub DefinesType-InfersTwo : InfersTwo (store_view a ns cs us ws p) (defining_type rule) (store_view b ns cs us ws p) r
  DefinesType-InfersTwo = record {
    taken = DefinesType-taken h d (steps_in us) (steps_in ws) p;
    made = DefinesType-made h d;
    refused = DefinesType-refused h d (steps_in us) (steps_in ws) p;
    run = DefinesType-run h d (steps_in us) (steps_in ws) p;
    grows = Grows-more (DefinesType-more h d) i;
  }

-- a word whose operands are off the stack, in place of which objects stand below the theorems that its definition makes
module _ {word : Word} {a b : Stored} {stack : List Object} {f : State → Result State Kind} (n : ℕ) (vs : List state.Object)
    (e : (s : State) → obey (shown a stack s) word ≡ f (in_state s (vs ++ objects_view a (drop n stack)) a.run)) (k : AreKnown a stack) where
  pub defining-fails : (r : Result (Unit {0}) Fault) (x : Fault) → IsErrAnd r (λ y. y ≡ x) → Infers a f b (Err x) → Obeys word a stack b stack r
  defining-fails r x h i = failed r x h k i.grows i.run (λ s. subst (Fails x) (sym (e s)) (i.refused s (vs ++ objects_view a (drop n stack))))

  pub defining-obeys : {new : List Object} {i : ℕ} (ys : List Object) → Infers a f b (Ok i) → new ≡ (object.Theorem i ∷ ys) ++ drop n stack → AreKnown b ys
      → objects_view b ys ≡ vs → Obeys word a stack b new (Ok tt)
  defining-obeys {i = i} ys h put known view = placed n (object.Theorem i ∷ ys) (state.Object.theorem i ∷ vs) b.run k h.grows put (h.made, known)
      (ap (λ xs. state.Object.theorem i ∷ xs) view) refl
      (λ s. e s ∙ h.taken s (vs ++ objects_view a (drop n stack)))

-- the same of two theorems, in an article of a version
module _ {version : Version} {word : Word} {a b : Stored} {stack : List Object} {f : State → Result State Kind} (n : ℕ) (vs : List state.Object)
    (e : (s : State) → version_at s.place ≡ version → obey (shown a stack s) word ≡ f (in_state s (vs ++ objects_view a (drop n stack)) a.run))
    (k : AreKnown a stack) where
  pub defining_type-fails : (r : Result (Unit {0}) Fault) (x : Fault) → IsErrAnd r (λ y. y ≡ x) → InfersTwo a f b (Err x)
      → ObeysIn version word a stack b stack r
  defining_type-fails (Ok y) x h i = absurd h
  defining_type-fails (Err z) x h i = record {
    taken = tt;
    refused = subst (λ w. (s : State) → version_at s.place ≡ version → Fails w (obey (shown a stack s) word)) (sym h)
        (λ s v. subst (Fails x) (sym (e s v)) (i.refused s (vs ++ objects_view a (drop n stack))));
    known = AreKnown-Grows i.grows stack k;
    grows = i.grows;
    same = refl;
    run = i.run;
  }

  pub defining_type-obeys : {new : List Object} {i j : ℕ} (ys : List Object) → InfersTwo a f b (Ok (i, j)) → new ≡ (object.Theorem j ∷ object.Theorem i ∷ ys)
      ++ drop n stack → AreKnown b ys → objects_view b ys ≡ vs → ObeysIn version word a stack b new (Ok tt)
  defining_type-obeys {new = new} {i = i} {j = j} ys h put known view = record {
    taken = λ s v. e s v ∙ h.taken s (vs ++ objects_view a (drop n stack))
        ∙ ap (λ xs. Ok (in_state s xs b.run))
        (sym (placed-view h.grows stack new (object.Theorem j ∷ object.Theorem i ∷ ys) n k put (state.Object.theorem j ∷ state.Object.theorem i ∷ vs)
        (ap (λ xs. state.Object.theorem j ∷ state.Object.theorem i ∷ xs) view)));
    refused = tt;
    known = placed-known h.grows stack new (object.Theorem j ∷ object.Theorem i ∷ ys) n k put (h.made.1, (h.made.0, known));
    grows = h.grows;
    same = tt;
    run = tt;
  }

-- a name stays
pub name-Grows : {a b : Stored} → Grows a b → (n : NameId) → IsName a n.0 → IsName b n.0 × (name_at b n.0 ≡ name_at a n.0)
name-Grows h n k = (IsKnown-Grows h (object.Name n) k, sym (name_at-Grows h n.0 k))

-- what is inferred once more is kept is inferred from what was kept before
pub Infers-after : {a m b : Stored} {f : State → Result State Kind} {r : Result ℕ Fault} → Grows a m → m.run ≡ a.run → Infers m f b r → Infers a f b r
Infers-after {b = b} {f = f} {r = r} g e h = record {
  taken = subst (λ run. IfOk r (λ i. (s : State) (below : List state.Object) → f (in_state s below run)
      ≡ Ok (in_state s (state.Object.theorem i ∷ below) b.run))) e h.taken;
  made = h.made;
  refused = subst (λ run. IfErr r (λ fault. (s : State) (below : List state.Object) → Fails fault (f (in_state s below run)))) e h.refused;
  run = OnErr-map r _ _ h.run (λ d. d ∙ e);
  grows = Grows-trans g h.grows;
}
