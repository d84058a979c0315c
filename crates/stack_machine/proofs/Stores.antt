-- What is kept, where more comes to the proof below it.
use Rattle.std.proofs.Common.{◌≡◌, ℕ, ◌<◌, ◌≤◌, sym, ap, ◌∙◌, arith, List, [], ◌∷◌, length, length-append, map, ◌++◌, Result, Ok, Err, OnOk, OnErr}
use Rattle.std.specs.Prelude.{slice_index_or}
use Rattle.std.proofs.Math.Path.{ap₂}
use Rattle.std.proofs.lemmas.List.{append-nil, get_or_append_left, map-append}
use Rattle.hol_spec.specs.Names.{Name}
use Rattle.hol_spec.specs.Terms.{bound}
use Rattle.hol_spec.specs.Symbols.{Symbol}
use Rattle.hol_spec.specs.Proofs.{Made, Step, sequent_at, sequents_of, steps_of}
use Rattle.hol_laws.specs.RenamingLaws.{length_map}
use Rattle.hol_proof_laws.specs.ProofLaws.{steps_of-symbols}
use Rattle.hol_term.specs.Tables.{Keeps}
use Rattle.hol_term.specs.TableLaws.{AreKnown-Keeps, Keeps-refl, term_in-Stays, terms_at-Keeps}
use Rattle.sequent.specs.declared.Sequent.{Sequent}
use Rattle.sequent.specs.Sequents as numbers
use Rattle.compose.specs.declared.pool.Said.{Said}
use Rattle.compose.specs.Pools.{steps_in}
use Rattle.hol_rules.specs.Kept.{Kept}
use Rattle.hol_rules.specs.Kept as proof
use Rattle.stack_machine.specs.declared.object.Cell.{Cell}
use Rattle.stack_machine.specs.Making.{taking, run_view, AreSteps, IsRunKnown}
use Rattle.stack_machine.specs.MakingLaws.{IsRunKnown-more}
use Rattle.stack_machine.specs.Stored.{AreSaid, IsStore, IsFront, Grows, run_of, store_view}
use Rattle.stack_machine.specs.StoredLaws.{IsFront-refl}
use Rattle.stack_machine.proofs.Cells.{stored-Grows, stored-AreCells}
use Rattle.stack_machine.proofs.Passing.{OnOk-map, OnErr-map}

-- what had a number keeps it, and no step goes
pub record IsMore (old new : Kept) : Type 0 where
  pub trees : Keeps old.trees new.trees
  pub steps : IsFront (steps_of old.made) (steps_of new.made)

pub IsMore-refl : (k : Kept) → IsMore k k
IsMore-refl k = record { trees = Keeps-refl k.trees; steps = IsFront-refl (steps_of k.made) }

-- steps that stay are a front
pub IsFront-same : {A : Type 0} {xs ys : List A} → ys ≡ xs → IsFront xs ys
IsFront-same {xs = xs} e = record { more = []; is = e ∙ sym (append-nil xs) }

-- where types and terms come, no step does
pub more-trees : {a b : Kept} → proof.Grows a b → IsMore a b
more-trees g = record { trees = g.trees; steps = IsFront-same (ap steps_of g.made) }

module _ {a b : Kept} (m : IsMore a b) where
  -- there are as many steps, or more
  pub more-steps : length (steps_of a.made) ≤ length (steps_of b.made)
  more-steps = let e = ap length m.steps.is ∙ length-append (steps_of a.made) m.steps.more in omega (arith, e)

  -- a step says what it said
  pub sequent_at-more : (i : ℕ) → i < length (steps_of a.made) → sequent_at b.made i ≡ sequent_at a.made i
  sequent_at-more i l =
      ap (λ xs. slice_index_or (map (λ (x : Step). x.sequent) xs) i (record { hypotheses = []; conclusion = bound 0 })) m.steps.is
      ∙ ap (λ ss. slice_index_or ss i (record { hypotheses = []; conclusion = bound 0 })) (map-append (λ (x : Step). x.sequent) (steps_of a.made) m.steps.more)
      ∙ get_or_append_left (sequents_of a.made) (map (λ (x : Step). x.sequent) m.steps.more) (record { hypotheses = []; conclusion = bound 0 }) i
      (let e = length_map (λ (x : Step). x.sequent) (steps_of a.made) in omega (arith, e, l))

  -- a sequent of known numbers stays
  pub sequent-more : (s : Sequent) → numbers.IsKnown a.trees s → numbers.IsKnown b.trees s × (numbers.sequent_at b.trees s ≡ numbers.sequent_at a.trees s)
  sequent-more s k = (
    (AreKnown-Keeps m.trees s.hyps k.0, omega (arith, k.1, m.trees.longer)),
    sym (ap₂ (λ hypotheses conclusion. record { hypotheses = hypotheses; conclusion = conclusion }) (terms_at-Keeps m.trees s.hyps k.0)
        (term_in-Stays m.trees.stays s.concl.0 k.1)),
  )

  -- what steps say, they say on
  pub AreSaid-more : (pool : List Said) → AreSteps a.made (steps_in pool) → AreSaid a pool → AreSaid b pool
  AreSaid-more [] l h = tt
  AreSaid-more (s ∷ pool) l h =
      let w = sequent-more s.sequent h.0.known in
      (record { known = w.0; says = sequent_at-more s.step l.0 ∙ h.0.says ∙ sym w.1 }, AreSaid-more pool l.1 h.1)

module _ {a b : Kept} {ns : List Name} {cs : List Cell} {us ws : List Said} {p : ℕ} (m : IsMore a b) (h : IsStore a ns cs us ws p) where
  -- with other names, assumptions and exports
  pub IsStore-run : {ms : List Name} {vs xs : List Said} {q : ℕ} → IsFront ns ms → IsRunKnown b.made (steps_in vs) (steps_in xs) q → AreSaid b vs → AreSaid b xs
      → IsStore b ms cs vs xs q
  IsStore-run f r k l = record { cells_known = stored-AreCells _ _ _ _ _ _ _ m.trees f (more-steps m) h.cells_known; run_known = r; assumed = k; exported = l }

  pub Grows-run : {ms : List Name} (vs xs : List Said) (q : ℕ) → IsFront ns ms → Grows (store_view a ns cs us ws p) (store_view b ms cs vs xs q)
  Grows-run vs xs q f = stored-Grows _ _ _ _ _ _ _ m.trees f (more-steps m) h.cells_known

  -- with the same names, assumptions and exports
  pub IsStore-more : IsStore b ns cs us ws p
  IsStore-more = IsStore-run (IsFront-refl ns) (IsRunKnown-more a.made b.made (more-steps m) (steps_in us) (steps_in ws) p h.run_known)
      (AreSaid-more m us h.run_known.assumed h.assumed) (AreSaid-more m ws h.run_known.exported h.exported)

  pub Grows-more : Grows (store_view a ns cs us ws p) (store_view b ns cs us ws p)
  Grows-more = Grows-run us ws p (IsFront-refl ns)

module _ {a b : Kept} {ns : List Name} {cs : List Cell} {us ws : List Said} {p : ℕ} (g : proof.Grows a b) (h : IsStore a ns cs us ws p) where
  pub IsStore-Grows : IsStore b ns cs us ws p
  IsStore-Grows = IsStore-more (more-trees g) h

  pub Grows-Grows : Grows (store_view a ns cs us ws p) (store_view b ns cs us ws p)
  Grows-Grows = Grows-more (more-trees g) h

  pub run-Grows : run_of b us ws p ≡ run_of a us ws p
  run-Grows = ap (λ made. run_view made (steps_in us) (steps_in ws) p) g.made

-- what was made stays where no symbol is taken
pub none_taken : (made : List Made) (new : List Symbol) → new ≡ [] → made ++ map Made.symbol new ≡ made
none_taken made new e = rw e (append-nil made)

-- a call that takes symbols where it answers Ok
module _ {A E : Type 0} (r : Result A E) (a b : Kept) (k : Keeps a.trees b.trees) (new : List Symbol) (takes : OnOk r (b.made ≡ a.made ++ map Made.symbol new))
    (unchanged : OnErr r (b.made ≡ a.made)) where
  pub more-taken : IsMore a b
  more-taken = record { trees = k; steps = by_answer r takes unchanged }
    where
      by_answer : (r : Result A E) → OnOk r (b.made ≡ a.made ++ map Made.symbol new) → OnErr r (b.made ≡ a.made) → IsFront (steps_of a.made) (steps_of b.made)
      by_answer (Ok x) e f = IsFront-same (ap steps_of e ∙ steps_of-symbols a.made new)
      by_answer (Err x) e f = IsFront-same (ap steps_of f)

  pub run-taken : (us ws : List Said) (p : ℕ) → OnOk r (run_of b us ws p ≡ taking (run_of a us ws p) new)
  run-taken us ws p = OnOk-map r _ _ takes (λ e. ap (λ made. run_view made (steps_in us) (steps_in ws) p) e)

  pub run-untaken : (us ws : List Said) (p : ℕ) → OnErr r (run_of b us ws p ≡ run_of a us ws p)
  run-untaken us ws p = OnErr-map r _ _ unchanged (λ e. ap (λ made. run_view made (steps_in us) (steps_in ws) p) e)
