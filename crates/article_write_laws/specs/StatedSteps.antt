-- Assumptions, assumptions that are met again, and exports, told in the article.
use Rattle.std.proofs.Common.{◌≡◌, ℕ, Bool, true, false, cond, List, [], ◌∷◌, ◌++◌, map, length, None, Some, option_map, Ok, refl, sym, ap, subst, ◌∙◌, arith, append_assoc, IsTrue}
use Rattle.std.specs.List.{AllByRecursion, filter, find}
use Rattle.std.proofs.lemmas.List.{map-append}
use Rattle.std.proofs.lemmas.List.Elements.{filter-append}
use Rattle.hol_spec.specs.declared.Version.{Version}
use Rattle.hol_spec.specs.Sequents.{Sequent, same, within}
use Rattle.hol_spec.specs.Symbols.{Symbol}
use Rattle.hol_spec.specs.Rules.{Parameters}
use Rattle.hol_spec.specs.Proofs.{Made, symbols_of, steps_of, sequent_at}
use Rattle.hol_spec.specs.declared.StepKind.TheVariants as by_rule
use Rattle.hol_laws.specs.Members.{All-append}
use Rattle.hol_proof_laws.specs.ProofLaws.{steps_of-push, steps_of-symbols, symbols_of-push}
use Rattle.article_spec.specs.declared.commands.Item.{Item}
use Rattle.article_spec.specs.declared.commands.Item.TheVariants as item
use Rattle.article_spec.specs.declared.commands.Word.TheVariants as word
use Rattle.article_spec.specs.State.{Object, body}
use Rattle.article_spec.specs.Step.{step_at}
use Rattle.article_spec.specs.RuleSteps.{step_by, restatement}
use Rattle.article_write_spec.specs.Drafts.{Kept, Draft, say, say_word, write_each}
use Rattle.article_write_spec.specs.WrittenSteps.{keep_theorem, write_premise, write_given, write_restated}
use Rattle.article_write_laws.specs.SymbolUses.{AreAmong}
use Rattle.article_write_laws.specs.SymbolsGrown.{AreApart}
use Rattle.article_write_laws.specs.Scenes.{Scene, body_state, Ready, leads-one, ready-said, wrote-then}
use Rattle.article_write_laws.specs.GivenWriting.{IsKept, given-writes, premises-write}
use Rattle.article_write_laws.specs.BuiltSteps.{given-operands}
use Rattle.article_write_laws.specs.DefiningSteps.{axiom-recorded, axiom-met, thm-exported}
use Rattle.article_write_laws.specs.Flags.{count}
use Rattle.article_write_laws.specs.Tales.{next, first_of, IsTold, IsStated}
use Rattle.article_write_laws.specs.Retelling.{Retold, scene, told, write_flagged, retold-on, count-after, kept-last, ready-moved, next-grown, rise, rise-exported, Below, Exported, defs-plain}
use Rattle.article_write_laws.specs.ToldSteps.{steps-inputs, says, ready-theorem}

-- The first of a list
find-mapped : (p r : ℕ → Bool) (f : ℕ → ℕ) (is : List ℕ) → AllByRecursion (λ i. p (f i) ≡ r i) is → find p (map f is) ≡ option_map f (find r is)
find-mapped p r f [] h = refl
find-mapped p r f (i ∷ is) h = go (p (f i)) (r i) h.0 (find-mapped p r f is h.1)
  where
    go : (b c : Bool) → b ≡ c → find p (map f is) ≡ option_map f (find r is)
        → cond b (Some (f i)) (find p (map f is)) ≡ option_map f (cond c (Some i) (find r is))
    go true true e k = refl
    go false false e k = k
    go true false e k = absurd (cc)
    go false true e k = absurd (cc)

find-none : (p flag : ℕ → Bool) (is : List ℕ) → find p is ≡ None → find p (filter flag is) ≡ None
find-none p flag [] e = refl
find-none p flag (i ∷ is) e = go (p i) (flag i) refl e (find-none p flag is)
  where
    go : (b c : Bool) → p i ≡ b → cond b (Some i) (find p is) ≡ None → (find p is ≡ None → find p (filter flag is) ≡ None)
        → find p (cond c (i ∷ filter flag is) (filter flag is)) ≡ None
    go true c is_b e k = absurd (cc)
    go false true is_b e k = ap (λ b. cond b (Some i) (find p (filter flag is))) is_b ∙ k e
    go false false is_b e k = k e

find-some : (p flag : ℕ → Bool) (is : List ℕ) (j : ℕ) → find p is ≡ Some j → flag j ≡ true → find p (filter flag is) ≡ Some j
find-some p flag [] j e f = absurd (cc)
find-some p flag (i ∷ is) j e f = go (p i) refl e (find-some p flag is j)
  where
    here : (b : Bool) → flag i ≡ b → p i ≡ true → i ≡ j → find p (cond b (i ∷ filter flag is) (filter flag is)) ≡ Some j
    here true g h same = ap (λ b. cond b (Some i) (find p (filter flag is))) h ∙ ap Some same
    here false g h same = absurd (let e = sym g ∙ ap flag same ∙ f in cc)

    there : (b c : Bool) → p i ≡ false → find p (filter flag is) ≡ Some j → find p (cond b (i ∷ filter flag is) (filter flag is)) ≡ Some j
    there true c h k = ap (λ b. cond b (Some i) (find p (filter flag is))) h ∙ k
    there false c h k = k

    go : (b : Bool) → p i ≡ b → cond b (Some i) (find p is) ≡ Some j → (find p is ≡ Some j → flag j ≡ true → find p (filter flag is) ≡ Some j)
        → find p (cond (flag i) (i ∷ filter flag is) (filter flag is)) ≡ Some j
    go true h e k = here (flag i) refl h (let z : i ≡ j = cc in z)
    go false h e k = there (flag i) true h (k e f)

-- a command that changes what is assumed, exported or defined
pub ready-changed : {c : Scene} {d : Draft} {made after : List Made} {stack over : List Object} (r : Ready c d made stack) (i : Item) (symbols : List Symbol)
    (assumptions exports : List ℕ)
    → step_at (body c.version) (body_state c r.dictionary made stack) i
    ≡ Ok (body_state (record { version = c.version; number = c.number; symbols = symbols; assumptions = assumptions; exports = exports }) r.dictionary after
    over)
    → AreAmong symbols (symbols_of after) → Ready
    (record { version = c.version; number = c.number; symbols = symbols; assumptions = assumptions; exports = exports }) (say i d) after over
ready-changed {c = c} {d = d} {made = made} {after = after} {stack = stack} {over = over} r i symbols assumptions exports e among = record {
  dictionary = r.dictionary;
  leads = leads-one c.version d.commands i (body_state c r.dictionary made stack)
      (body_state (record { version = c.version; number = c.number; symbols = symbols; assumptions = assumptions; exports = exports }) r.dictionary after over)
      r.leads e;
  holds = record { at = r.holds.at };
  among = among;
}

module _ (q : ℕ) (version : Version) (flag is_export : ℕ → Bool) where
  -- the assumptions that are told
  new-assumption : (ax : List ℕ) (n k : ℕ) → flag n ≡ true → count flag n ≡ k
      → map (count flag) (filter flag ax) ++ k ∷ [] ≡ map (count flag) (filter flag (ax ++ n ∷ []))
  new-assumption ax n k on e =
      ap (λ j. map (count flag) (filter flag ax) ++ j ∷ []) (sym e) ∙ sym (map-append (count flag) (filter flag ax) (n ∷ []))
      ∙ ap (map (count flag)) (sym (filter-append flag ax (n ∷ []) ∙ ap (λ b. filter flag ax ++ cond b (n ∷ []) []) on))

  new-export : (ex : List ℕ) (n k : ℕ) → count flag n ≡ k → map (count flag) ex ++ k ∷ [] ≡ map (count flag) (ex ++ n ∷ [])
  new-export ex n k e = ap (λ j. map (count flag) ex ++ j ∷ []) (sym e) ∙ sym (map-append (count flag) ex (n ∷ []))

  -- whether a told step says the same
  tests : {made : List Made} {ax ex : List ℕ} (r : Retold q version flag is_export made ax ex) (more : List Symbol) (s : Sequent) (is : List ℕ)
      → AllByRecursion (Exported q version flag is_export (next made)) is
      → AllByRecursion (λ i. same (sequent_at (r.after ++ map Made.symbol more) (count flag i)) s ≡ same (sequent_at made i) s) is
  tests r more s [] h = tt
  tests r more s (i ∷ is) h =
      (ap (λ z. same z s) (steps-inputs r.after more (count flag i) ∙ says q version flag is_export r i h.0.0 h.0.1), tests r more s is h.1)

  flagged-below : (n : ℕ) (is : List ℕ) → AllByRecursion (Below q version flag is_export n) is
      → AllByRecursion (Exported q version flag is_export n) (filter flag is)
  flagged-below n [] h = tt
  flagged-below n (i ∷ is) h = go (flag i) refl (flagged-below n is h.1)
    where
      go : (b : Bool) → flag i ≡ b → AllByRecursion (Exported q version flag is_export n) (filter flag is)
          → AllByRecursion (Exported q version flag is_export n) (cond b (i ∷ filter flag is) (filter flag is))
      go true e k = ((h.0, e), k)
      go false e k = k

  pub assumed-on : {made whole : List Made} {ax all ex : List ℕ} (s : Sequent) (r : Retold q version flag is_export made ax ex) → is_export (next made) ≡ false
      → flag (next made) ≡ true → first_of made ax s ≡ None
      → IsStated q version flag is_export made s → whole ≡ made ++ Made.step (step_by by_rule.Axiom [] (Parameters.sequent s) s) ∷ [] → all ≡ ax
      ++ next made ∷ [] → Retold q version flag is_export whole all ex
  assumed-on {made = made} {whole = whole} {ax = ax} {all = all} {ex = ex} s r internal on new h is all_is =
      let n = next made in
      let x = step_by by_rule.Axiom [] (Parameters.sequent s) s in
      let c = scene q version flag is_export made ax ex in
      let d = told q version flag is_export made in
      let g = given-writes c q (Parameters.sequent s) (given-operands c r.apart q (Parameters.sequent s) h.given.built h.given.fresh h.given.taken) d r.after []
      r.ready in
      let d1 = write_given q (Parameters.sequent s) d in
      let m = r.after ++ map Made.symbol g.more in
      let steps : steps_of m ≡ steps_of r.after = steps_of-symbols r.after g.more in
      let number : count flag n ≡ length (steps_of m) = sym (ap length steps ∙ count-after q version flag is_export r) in
      let none : find (λ i. same (sequent_at m i) s) (map (count flag) (filter flag ax)) ≡ None =
      find-mapped (λ i. same (sequent_at m i) s) (λ i. same (sequent_at made i) s) (count flag) (filter flag ax)
      (tests r g.more s (filter flag ax) (flagged-below n ax r.assumptions))
      ∙ ap (option_map (count flag)) (find-none (λ i. same (sequent_at made i) s) flag ax new) in
      let symbols : symbols_of whole ≡ symbols_of made = ap symbols_of is ∙ symbols_of-push made x in
      let among = subst (AreAmong c.symbols) (sym (symbols_of-push m x)) g.ready.among in
      let done = ready-theorem q version flag is_export n (length (steps_of m)) number
      (ready-changed {after = m ++ Made.step x ∷ []} {over = Object.theorem (length (steps_of m)) ∷ []} g.ready (item.Word word.Axiom) c.symbols
      (c.assumptions ++ length (steps_of m) ∷ []) c.exports (axiom-recorded c g.ready.dictionary m [] s h.sequent none h.limits) among) in
      let d3 = keep_theorem n (say_word word.Axiom d1) in
      let grown : steps_of whole ≡ steps_of made ++ x ∷ [] = ap steps_of is ∙ steps_of-push made x in
      let longer = next-grown q version flag is_export made whole x grown in
      retold-on q version flag is_export x r grown on (m ++ Made.step x ∷ [])
      (ready-moved q version flag is_export done (subst (λ l. AreAmong l (symbols_of (m ++ Made.step x ∷ []))) (sym symbols) among)
      (new-assumption ax n (length (steps_of m)) on number ∙ ap (λ l. map (count flag) (filter flag l)) (sym all_is)) refl)
      (steps_of-push m x ∙ ap (λ l. l ++ x ∷ []) steps)
      (g.new ++ Kept.theorem n ∷ [])
      (ap (λ l. l ++ Kept.theorem n ∷ []) g.front ∙ append_assoc d.kept g.new (Kept.theorem n ∷ []))
      (λ e. kept-last d1.kept n)
      (subst AreApart (sym symbols) r.apart)
      (subst (AllByRecursion (Below q version flag is_export (next whole))) (sym all_is)
      (All-append (Below q version flag is_export (next whole)) ax (n ∷ [])
      (rise q version flag is_export n (next whole) (omega (arith, longer)) ax r.assumptions) (omega (arith, longer), tt {0})))
      (rise-exported q version flag is_export n (next whole) (omega (arith, longer)) ex r.exports)
      (defs-plain q version flag is_export r whole g.more x x on g.inputs is)

  pub met-on : {made whole : List Made} {ax ex : List ℕ} (s : Sequent) (i : ℕ) (r : Retold q version flag is_export made ax ex) → is_export (next made) ≡ false
      → flag (next made) ≡ true → first_of made ax s ≡ Some i
      → IsStated q version flag is_export made s → IsTold q version flag is_export made i → whole ≡ made ++ Made.step (restatement i s) ∷ []
      → Retold q version flag is_export whole ax ex
  met-on {made = made} {whole = whole} {ax = ax} {ex = ex} s i r internal on old h premise is =
      let n = next made in
      let x = restatement i s in
      let y = restatement (count flag i) s in
      let c = scene q version flag is_export made ax ex in
      let d = told q version flag is_export made in
      let g = given-writes c q (Parameters.sequent s) (given-operands c r.apart q (Parameters.sequent s) h.given.built h.given.fresh h.given.taken) d r.after []
      r.ready in
      let d1 = write_given q (Parameters.sequent s) d in
      let m = r.after ++ map Made.symbol g.more in
      let steps : steps_of m ≡ steps_of r.after = steps_of-symbols r.after g.more in
      let number : count flag n ≡ length (steps_of m) = sym (ap length steps ∙ count-after q version flag is_export r) in
      let found : find (λ j. same (sequent_at m j) s) (map (count flag) (filter flag ax)) ≡ Some (count flag i) =
      find-mapped (λ j. same (sequent_at m j) s) (λ j. same (sequent_at made j) s) (count flag) (filter flag ax)
      (tests r g.more s (filter flag ax) (flagged-below n ax r.assumptions))
      ∙ ap (option_map (count flag)) (find-some (λ j. same (sequent_at made j) s) flag ax i old premise.flagged) in
      let symbols : symbols_of whole ≡ symbols_of made = ap symbols_of is ∙ symbols_of-push made x in
      let among = subst (AreAmong c.symbols) (sym (symbols_of-push m y)) g.ready.among in
      let done = ready-theorem q version flag is_export n (length (steps_of m)) number
      (ready-said {after = m ++ Made.step y ∷ []} {next = Object.theorem (length (steps_of m)) ∷ []} g.ready (item.Word word.Axiom)
      (axiom-met c g.ready.dictionary m [] s (count flag i) h.sequent found h.limits) among) in
      let d3 = keep_theorem n (say_word word.Axiom d1) in
      let writes : write_flagged q version flag is_export (record { number = n; step = x }) d ≡ d3 = ap (λ b. write_restated q b n x d) internal in
      let grown : steps_of whole ≡ steps_of made ++ x ∷ [] = ap steps_of is ∙ steps_of-push made x in
      let longer = next-grown q version flag is_export made whole x grown in
      retold-on q version flag is_export x r grown on (m ++ Made.step y ∷ [])
      (subst (λ z. Ready (scene q version flag is_export whole ax ex) z (m ++ Made.step y ∷ []) []) (sym writes)
      (ready-moved q version flag is_export done (subst (λ l. AreAmong l (symbols_of (m ++ Made.step y ∷ []))) (sym symbols) among) refl refl))
      (steps_of-push m y ∙ ap (λ l. l ++ y ∷ []) steps)
      (g.new ++ Kept.theorem n ∷ [])
      (ap (λ z. z.kept) writes ∙ ap (λ l. l ++ Kept.theorem n ∷ []) g.front ∙ append_assoc d.kept g.new (Kept.theorem n ∷ []))
      (λ e. subst (λ z. IsKept z.kept n) (sym writes) (kept-last d1.kept n))
      (subst AreApart (sym symbols) r.apart)
      (rise q version flag is_export n (next whole) (omega (arith, longer)) ax r.assumptions)
      (rise-exported q version flag is_export n (next whole) (omega (arith, longer)) ex r.exports)
      (defs-plain q version flag is_export r whole g.more x y on g.inputs is)

  pub exported-on : {made whole : List Made} {ax ex all : List ℕ} (s : Sequent) (i : ℕ) (r : Retold q version flag is_export made ax ex)
      → is_export (next made) ≡ true → flag (next made) ≡ true → first_of made ex s ≡ None
      → IsStated q version flag is_export made s → IsTold q version flag is_export made i → IsTrue (within (sequent_at made i) s) → whole ≡ made
      ++ Made.step (restatement i s) ∷ [] → all ≡ ex ++ next made ∷ [] → Retold q version flag is_export whole ax all
  exported-on {made = made} {whole = whole} {ax = ax} {ex = ex} {all = all} s i r external on new h premise weaker is all_is =
      let n = next made in
      let x = restatement i s in
      let y = restatement (count flag i) s in
      let c = scene q version flag is_export made ax ex in
      let d = told q version flag is_export made in
      let p = premises-write c (i ∷ []) d r.after [] (r.kept i premise.earlier premise.flagged premise.no_export, tt {0}) r.ready in
      let d1 = write_each write_premise (i ∷ []) d in
      let g = wrote-then p
      (λ m z. given-writes c q (Parameters.sequent s) (given-operands c r.apart q (Parameters.sequent s) h.given.built h.given.fresh h.given.taken) d1 m
      (Object.theorem (count flag i) ∷ []) z) in
      let d2 = write_given q (Parameters.sequent s) d1 in
      let m = r.after ++ map Made.symbol g.more in
      let steps : steps_of m ≡ steps_of r.after = steps_of-symbols r.after g.more in
      let number : count flag n ≡ length (steps_of m) = sym (ap length steps ∙ count-after q version flag is_export r) in
      let none : find (λ j. same (sequent_at m j) s) (map (count flag) ex) ≡ None =
      find-mapped (λ j. same (sequent_at m j) s) (λ j. same (sequent_at made j) s) (count flag) ex (tests r g.more s ex r.exports)
      ∙ ap (option_map (count flag)) new in
      let says_less : IsTrue (within (sequent_at m (count flag i)) s) =
      ap (λ z. within z s) (steps-inputs r.after g.more (count flag i) ∙ says q version flag is_export r i premise.earlier premise.flagged) ∙ weaker in
      let symbols : symbols_of whole ≡ symbols_of made = ap symbols_of is ∙ symbols_of-push made x in
      let among = subst (AreAmong c.symbols) (sym (symbols_of-push m y)) g.ready.among in
      let done = ready-changed {after = m ++ Made.step y ∷ []} {over = []} g.ready (item.Word word.Thm) c.symbols c.assumptions
      (c.exports ++ length (steps_of m) ∷ []) (thm-exported c g.ready.dictionary m [] s (count flag i) h.sequent says_less none h.limits) among in
      let d3 = say_word word.Thm d2 in
      let writes : write_flagged q version flag is_export (record { number = n; step = x }) d ≡ d3 = ap (λ b. write_restated q b n x d) external in
      let grown : steps_of whole ≡ steps_of made ++ x ∷ [] = ap steps_of is ∙ steps_of-push made x in
      let longer = next-grown q version flag is_export made whole x grown in
      retold-on q version flag is_export x r grown on (m ++ Made.step y ∷ [])
      (subst (λ z. Ready (scene q version flag is_export whole ax all) z (m ++ Made.step y ∷ []) []) (sym writes)
      (ready-moved q version flag is_export done (subst (λ l. AreAmong l (symbols_of (m ++ Made.step y ∷ []))) (sym symbols) among) refl
      (new-export ex n (length (steps_of m)) number ∙ ap (map (count flag)) (sym all_is))))
      (steps_of-push m y ∙ ap (λ l. l ++ y ∷ []) steps)
      g.new
      (ap (λ z. z.kept) writes ∙ g.front)
      (λ e. absurd (let f = sym e ∙ external in cc))
      (subst AreApart (sym symbols) r.apart)
      (rise q version flag is_export n (next whole) (omega (arith, longer)) ax r.assumptions)
      (subst (AllByRecursion (Exported q version flag is_export (next whole))) (sym all_is)
      (All-append (Exported q version flag is_export (next whole)) ex (n ∷ [])
      (rise-exported q version flag is_export n (next whole) (omega (arith, longer)) ex r.exports) ((omega (arith, longer), on), tt {0})))
      (defs-plain q version flag is_export r whole g.more x y on g.inputs is)
