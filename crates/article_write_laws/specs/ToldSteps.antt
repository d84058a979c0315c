-- Each command of a run that is told makes in the article the step that it made in the run.
use Rattle.std.proofs.Common.{◌≡◌, ℕ, zero, suc, ◌<◌, Bool, true, false, List, [], ◌∷◌, ◌++◌, map, length, Some, slice_get, refl, sym, ap, ap₂, subst, ◌∙◌, arith, append_assoc}
use Rattle.std.specs.Prelude.{slice_index_or}
use Rattle.std.specs.List.{AllByRecursion}
use Rattle.hol_spec.specs.declared.Version.{Version}
use Rattle.hol_spec.specs.Terms.{Term}
use Rattle.hol_spec.specs.Symbols.{Symbol}
use Rattle.hol_spec.specs.Proofs.{Made, Step, symbols_of, steps_of, sequent_at}
use Rattle.hol_spec.specs.declared.StepKind.{StepKind}
use Rattle.hol_spec.specs.declared.StepKind.TheVariants.{Refl, Assume, EqMp, AbsThm, AppThm, DeductAntisym, BetaConv, Sym, Trans, ProveHyp, Subst, Axiom, Restate, DefineConst, DefineConstList, FirstLaw, SecondLaw}
use Rattle.hol_laws.specs.Members.{map-twice}
use Rattle.hol_laws.specs.PlaceLaws.{slice_get-mapped}
use Rattle.hol_proof_laws.specs.ProofLaws.{steps_of-push, steps_of-symbols, symbols_of-push}
use Rattle.article_spec.specs.declared.commands.Item.TheVariants as item
use Rattle.article_spec.specs.State.{Object}
use Rattle.article_trial_laws.specs.TrialSteps.{sequent_at-is}
use Rattle.article_write_spec.specs.Drafts.{Kept, Draft, say_word, write_each}
use Rattle.article_write_spec.specs.WrittenSteps.{keep_theorem, word_of, keep_made, write_premise, write_given, write_inferred, write_by}
use Rattle.article_write_laws.specs.SymbolUses.{AreAmong}
use Rattle.article_write_laws.specs.SymbolsGrown.{AreApart}
use Rattle.article_write_laws.specs.Scenes.{Scene, Ready, ready-said, ready-kept, ready-popped, wrote-then}
use Rattle.article_write_laws.specs.Listings.{pushed}
use Rattle.article_write_laws.specs.GivenWriting.{IsKept, kept-more, given_stack, given-writes, premises-write}
use Rattle.article_write_laws.specs.BuiltSteps.{given-operands}
use Rattle.article_write_laws.specs.InferenceWords.{is_inference, inference-word}
use Rattle.article_write_laws.specs.Flags.{count, renumbered, says-same}
use Rattle.article_write_laws.specs.Tales.{next, IsTold, IsInferred}
use Rattle.article_write_laws.specs.Retelling.{Retold, scene, told, write_flagged, retold-on, count-after, kept-last, ready-moved, next-grown, rise, rise-exported, defs-plain}

-- What is written of an inference
by-inference : (q : ℕ) (kind : StepKind) (b : Bool) (i : ℕ) (x : Step) (d : Draft) → is_inference kind ≡ true → write_by q kind b i x d ≡ write_inferred q i x d
by-inference q Refl b i x d e = refl
by-inference q Assume b i x d e = refl
by-inference q EqMp b i x d e = refl
by-inference q AbsThm b i x d e = refl
by-inference q AppThm b i x d e = refl
by-inference q DeductAntisym b i x d e = refl
by-inference q BetaConv b i x d e = refl
by-inference q Sym b i x d e = refl
by-inference q Trans b i x d e = refl
by-inference q ProveHyp b i x d e = refl
by-inference q Subst b i x d e = refl
by-inference q Axiom b i x d e = absurd (cc)
by-inference q Restate b i x d e = absurd (cc)
by-inference q DefineConst b i x d e = absurd (cc)
by-inference q DefineConstList b i x d e = absurd (cc)
by-inference q FirstLaw b i x d e = absurd (cc)
by-inference q SecondLaw b i x d e = absurd (cc)

made-inference : (kind : StepKind) (i : ℕ) (d : Draft) → is_inference kind ≡ true → keep_made kind i d ≡ keep_theorem i d
made-inference Refl i d e = refl
made-inference Assume i d e = refl
made-inference EqMp i d e = refl
made-inference AbsThm i d e = refl
made-inference AppThm i d e = refl
made-inference DeductAntisym i d e = refl
made-inference BetaConv i d e = refl
made-inference Sym i d e = refl
made-inference Trans i d e = refl
made-inference ProveHyp i d e = refl
made-inference Subst i d e = refl
made-inference Axiom i d e = absurd (cc)
made-inference Restate i d e = absurd (cc)
made-inference DefineConst i d e = absurd (cc)
made-inference DefineConstList i d e = absurd (cc)
made-inference FirstLaw i d e = absurd (cc)
made-inference SecondLaw i d e = absurd (cc)

-- a step that has a number stands at it
pub step-at : (xs : List Step) (i : ℕ) → i < length xs → (x : Step) × (slice_get xs i ≡ Some x)
step-at [] i low = absurd (omega (arith, low))
step-at (x ∷ xs) zero low = (x, refl)
step-at (x ∷ xs) (suc i) low = step-at xs i (omega (arith, low))

pub sequent-of-step : (made : List Made) (i : ℕ) (x : Step) → slice_get (steps_of made) i ≡ Some x → sequent_at made i ≡ x.sequent
sequent-of-step made i x e = sequent_at-is made i x.sequent (slice_get-mapped (λ (z : Step). z.sequent) (steps_of made) i x e)

-- inputs are no steps
pub steps-inputs : (m : List Made) (more : List Symbol) (i : ℕ) → sequent_at (m ++ map Made.symbol more) i ≡ sequent_at m i
steps-inputs m more i = ap (λ l. slice_index_or (map (λ (x : Step). x.sequent) l) i (record { hypotheses = []; conclusion = Term.bound 0 }))
    (steps_of-symbols m more)

module _ (q : ℕ) (version : Version) (flag is_export : ℕ → Bool) where
  -- what a told step says
  pub says : {made : List Made} {ax ex : List ℕ} (r : Retold q version flag is_export made ax ex) (i : ℕ) → i < next made → flag i ≡ true
      → sequent_at r.after (count flag i) ≡ sequent_at made i
  says {made = made} r i low on =
      let x = step-at (steps_of made) i low in
      says-same flag r.after (steps_of made) i x.0 r.steps x.1 on ∙ sym (sequent-of-step made i x.0 x.1)

  pub all-say : {made : List Made} {ax ex : List ℕ} (r : Retold q version flag is_export made ax ex) (more : List Symbol) (is : List ℕ)
      → AllByRecursion (IsTold q version flag is_export made) is
      → map (sequent_at made) is ≡ map (sequent_at (r.after ++ map Made.symbol more)) (map (count flag) is)
  all-say r more [] h = refl
  all-say r more (i ∷ is) h = ap₂ (λ s ss. s ∷ ss) (sym (steps-inputs r.after more (count flag i) ∙ says r i h.0.earlier h.0.flagged)) (all-say r more is h.1)

  pub all-kept : {made : List Made} {ax ex : List ℕ} (r : Retold q version flag is_export made ax ex) (kept new : List Kept)
      → kept ≡ (told q version flag is_export made).kept ++ new → (is : List ℕ) → AllByRecursion (IsTold q version flag is_export made) is
      → AllByRecursion (IsKept kept) is
  all-kept r kept new front [] h = tt
  all-kept {made = made} r kept new front (i ∷ is) h = (
    subst (λ l. IsKept l i) (sym front) (kept-more (told q version flag is_export made).kept new i (r.kept i h.0.earlier h.0.flagged h.0.no_export)),
    all-kept r kept new front is h.1,
  )

  -- a theorem on top is kept
  pub ready-theorem : {c : Scene} {d : Draft} {m : List Made} {stack : List Object} (i k : ℕ) → c.number i ≡ k → Ready c d m (Object.theorem k ∷ stack)
      → Ready c (keep_theorem i d) m stack
  ready-theorem {c = c} {d = d} {m = m} {stack = stack} i k e r =
      ready-popped (Object.theorem (c.number i)) (ready-kept (Kept.theorem i) (subst (λ j. Ready c d m (Object.theorem j ∷ stack)) (sym e) r))

  pub inferred-on : {made whole : List Made} {ax ex : List ℕ} (x : Step) (r : Retold q version flag is_export made ax ex) → is_inference x.kind ≡ true
      → is_export (next made) ≡ false → flag (next made) ≡ true
      → IsInferred q version flag is_export made x → whole ≡ made ++ Made.step x ∷ [] → Retold q version flag is_export whole ax ex
  inferred-on {made = made} {whole = whole} {ax = ax} {ex = ex} x r kind internal on h is =
      let n = next made in
      let c = scene q version flag is_export made ax ex in
      let d = told q version flag is_export made in
      let g = given-writes c q x.parameters (given-operands c r.apart q x.parameters h.given.built h.given.fresh h.given.taken) d r.after [] r.ready in
      let d1 = write_given q x.parameters d in
      let p = wrote-then g (λ m s. premises-write c x.premises d1 m (given_stack x.parameters []) (all-kept r d1.kept g.new g.front x.premises h.premises) s) in
      let d2 = write_each write_premise x.premises d1 in
      let m = r.after ++ map Made.symbol p.more in
      let y = renumbered (count flag) x in
      let stack = subst (λ l. Ready c d2 m (pushed l (given_stack x.parameters []))) (sym (map-twice Object.theorem (count flag) x.premises)) p.ready in
      let goes = inference-word c stack.dictionary m [] x.kind (map (sequent_at made) x.premises) x.parameters x.sequent kind h.follows
      (map (count flag) x.premises) (all-say r p.more x.premises h.premises) h.limits in
      let concluded = ready-said {after = m ++ Made.step y ∷ []} {next = Object.theorem (length (steps_of m)) ∷ []} stack (item.Word (word_of x.kind)) goes
      (subst (AreAmong c.symbols) (sym (symbols_of-push m y)) stack.among) in
      let steps : steps_of m ≡ steps_of r.after = steps_of-symbols r.after p.more in
      let number : count flag n ≡ length (steps_of m) = sym (ap length steps ∙ count-after q version flag is_export r) in
      let done = ready-theorem n (length (steps_of m)) number concluded in
      let d3 = keep_theorem n (say_word (word_of x.kind) d2) in
      let writes : write_flagged q version flag is_export (record { number = n; step = x }) d ≡ d3 =
      by-inference q x.kind (is_export n) n x d kind ∙ made-inference x.kind n (say_word (word_of x.kind) d2) kind in
      let symbols : symbols_of whole ≡ symbols_of made = ap symbols_of is ∙ symbols_of-push made x in
      let front : d3.kept ≡ d.kept ++ (p.new ++ Kept.theorem n ∷ []) =
      ap (λ l. l ++ Kept.theorem n ∷ []) p.front ∙ append_assoc d.kept p.new (Kept.theorem n ∷ []) in
      let grown : steps_of whole ≡ steps_of made ++ x ∷ [] = ap steps_of is ∙ steps_of-push made x in
      let longer = next-grown q version flag is_export made whole x grown in
      retold-on q version flag is_export x r grown on (m ++ Made.step y ∷ [])
      (subst (λ z. Ready (scene q version flag is_export whole ax ex) z (m ++ Made.step y ∷ []) []) (sym writes)
      (ready-moved q version flag is_export done (subst (λ l. AreAmong l (symbols_of (m ++ Made.step y ∷ []))) (sym symbols) done.among) refl refl))
      (steps_of-push m y ∙ ap (λ l. l ++ y ∷ []) steps)
      (p.new ++ Kept.theorem n ∷ [])
      (ap (λ z. z.kept) writes ∙ front)
      (λ e. subst (λ z. IsKept z.kept n) (sym writes) (kept-last d2.kept n))
      (subst AreApart (sym symbols) r.apart)
      (rise q version flag is_export n (next whole) (omega (arith, longer)) ax r.assumptions)
      (rise-exported q version flag is_export n (next whole) (omega (arith, longer)) ex r.exports)
      (defs-plain q version flag is_export r whole p.more x y on p.inputs is)
