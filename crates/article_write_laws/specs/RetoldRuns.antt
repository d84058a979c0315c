-- The article of a tale is obeyed, and makes the told steps.
use Rattle.std.proofs.Common.{◌≡◌, ℕ, suc, ◌+◌, Bool, true, false, cond, List, [], ◌∷◌, ◌++◌, map, length, refl, sym, ap, subst, ◌∙◌, arith, append_assoc}
use Rattle.std.specs.List.{AllByRecursion, filter}
use Rattle.std.specs.FinMap as entries
use Rattle.std.proofs.lemmas.List.Elements.{filter-append}
use Rattle.hol_laws.specs.Members.{All-append}
use Rattle.hol_spec.specs.declared.Version.{Version}
use Rattle.hol_spec.specs.Rules.{Parameters}
use Rattle.hol_spec.specs.Rules as rule
use Rattle.hol_spec.specs.Types.{HolType}
use Rattle.hol_spec.specs.Terms.{Term}
use Rattle.hol_spec.specs.Definitions.{Definition, TypeNames}
use Rattle.hol_spec.specs.TypeDefinitions.{first_law_of, second_law_of}
use Rattle.hol_spec.specs.Symbols.{Symbol, defined}
use Rattle.hol_spec.specs.Taking.{Takes}
use Rattle.hol_spec.specs.Proofs.{Made, Step, symbols_of, steps_of}
use Rattle.hol_spec.specs.declared.StepKind.TheVariants as by_rule
use Rattle.article_spec.specs.RuleSteps.{step_by, restatement}
use Rattle.hol_proof_laws.specs.ProofLaws.{steps_of-push, steps_of-symbols, symbols_of-push, symbols_of-symbols}
use Rattle.article_write_spec.specs.Drafts.{write_each}
use Rattle.article_write_spec.specs.Article.{version_items, version_draft}
use Rattle.article_write_laws.specs.SymbolUses.{IsInput, AreAmong, nil-append}
use Rattle.article_write_laws.specs.SymbolsGrown.{AreApart, none-apart, apart-taken, among-run}
use Rattle.article_write_laws.specs.DefinitionsMade.{law-grown, law-symbols}
use Rattle.article_write_laws.specs.Scenes.{Ready}
use Rattle.article_write_laws.specs.GivenWriting.{IsKept}
use Rattle.article_write_laws.specs.Flags.{selected, renumbered_steps}
use Rattle.article_write_laws.specs.Tales.{next, IsType, TakesAll, Tale}
use Rattle.article_write_laws.specs.Tales as tales
use Rattle.article_write_laws.specs.Retelling.{Retold, scene, told, write_flagged, retold-off, ready-moved, next-grown, rise, rise-exported, Below, told_definitions, told-grown, told-operator, told-input}
use Rattle.article_write_laws.specs.ToldSteps.{inferred-on}
use Rattle.article_write_laws.specs.StatedSteps.{assumed-on, met-on, exported-on}
use Rattle.article_write_laws.specs.DefinedSteps.{apart-all, symbols-grown, steps-grown, constant-on, constants-on, type-on}

module _ (q : ℕ) (version : Version) (flag is_export : ℕ → Bool) where
  nothing : Retold q version flag is_export [] [] []
  nothing = record {
    after = [];
    ready = record {
      dictionary = entries.empty;
      leads = record { rest = []; is = sym (nil-append (version_items version)); obeys = refl };
      holds =
          record { at = λ k x e. absurd (cc) };
      among = record { types = λ n g e. e; arities = λ n k e. e; constants = λ n e. e; operators = λ n e. e };
    };
    steps = refl;
    definitions = refl;
    kept = λ i low on e. absurd (omega (arith, low));
    apart = none-apart;
    assumptions = tt {0};
    exports = tt {0};
  }

  -- an input that the run takes
  with-input : {made whole : List Made} {ax ex : List ℕ} (x : Symbol) → Retold q version flag is_export made ax ex → IsInput x → Takes (symbols_of made) x
      → whole ≡ made ++ Made.symbol x ∷ [] → Retold q version flag is_export whole ax ex
  with-input {made = made} {whole = whole} {ax = ax} {ex = ex} x r input takes is =
      let steps : steps_of whole ≡ steps_of made = ap steps_of is ∙ steps_of-symbols made (x ∷ []) in
      let symbols : symbols_of whole ≡ symbols_of made ++ x ∷ [] = ap symbols_of is ∙ symbols_of-symbols made (x ∷ []) in
      let draft : told q version flag is_export whole ≡ told q version flag is_export made =
      ap (λ l. write_each (write_flagged q version flag is_export) (selected flag 0 l) (version_draft version)) steps in
      let same : next whole ≡ next made = ap length steps in
      record {
        after = r.after;
        ready = subst (λ d. Ready (scene q version flag is_export whole ax ex) d r.after []) (sym draft)
            (ready-moved q version flag is_export r.ready
            (subst (λ l. AreAmong l (symbols_of r.after)) (sym symbols) (among-run (symbols_of made) (symbols_of r.after) x r.ready.among)) refl refl);
        steps = r.steps ∙ sym (ap (renumbered_steps flag) steps);
        definitions = r.definitions ∙ sym (told-input flag made whole x input is);
        kept = λ i low on e. subst (λ d. IsKept d.kept i) (sym draft) (r.kept i (omega (arith, low, same)) on e);
        apart = subst AreApart (sym symbols) (apart-taken (symbols_of made) x r.apart takes);
        assumptions = rise q version flag is_export (next made) (next whole) (omega (arith, same)) ax r.assumptions;
        exports = rise-exported q version flag is_export (next made) (next whole) (omega (arith, same)) ex r.exports;
      }

  -- a step that is not told, and takes nothing
  plain-off : {made whole : List Made} {ax ex all : List ℕ} (x : Step) (r : Retold q version flag is_export made ax ex) → flag (next made) ≡ false
      → whole ≡ made ++ Made.step x ∷ [] → filter flag all ≡ filter flag ax
      → AllByRecursion (Below q version flag is_export (next whole)) all → Retold q version flag is_export whole all ex
  plain-off {made = made} {whole = whole} x r off is same below =
      let symbols : symbols_of whole ≡ symbols_of made = ap symbols_of is ∙ symbols_of-push made x in
      retold-off q version flag is_export x r (ap steps_of is ∙ steps_of-push made x) off
      (subst (λ l. AreAmong l (symbols_of r.after)) (sym symbols) r.ready.among) (subst AreApart (sym symbols) r.apart) same below
      (told-grown flag false made whole [] x off (is ∙ ap (λ l. l ++ Made.step x ∷ []) (sym (nil-append made))) ∙ nil-append (told_definitions flag 0 made))

  risen : {made : List Made} {ax ex : List ℕ} (whole : List Made) (x : Step) (r : Retold q version flag is_export made ax ex)
      → steps_of whole ≡ steps_of made ++ x ∷ [] → AllByRecursion (Below q version flag is_export (next whole)) ax
  risen {made = made} {ax = ax} whole x r grown =
      rise q version flag is_export (next made) (next whole) (let longer = next-grown q version flag is_export made whole x grown in omega (arith, longer)) ax
      r.assumptions

  among-run-all : (all some new : List Symbol) → AreAmong all some → AreAmong (all ++ new) some
  among-run-all all some [] among = subst (λ l. AreAmong l some) (sym (nil-append all)) among
  among-run-all all some (x ∷ new) among = subst (λ l. AreAmong l some) (append_assoc all (x ∷ []) new)
      (among-run-all (all ++ x ∷ []) some new (among-run all some x among))

  -- a definition that is not told
  defined-off : {made whole : List Made} {ax ex : List ℕ} (new : List Symbol) (x : Step) (r : Retold q version flag is_export made ax ex)
      → flag (next made) ≡ false → TakesAll q version flag is_export (symbols_of made) new
      → whole ≡ (made ++ map Made.symbol new) ++ Made.step x ∷ [] → Retold q version flag is_export whole ax ex
  defined-off {made = made} {whole = whole} {ax = ax} new x r off takes is =
      let symbols = symbols-grown q version flag is_export made whole new x is in
      let grown = steps-grown q version flag is_export made whole new x is in
      retold-off q version flag is_export x r grown off
      (subst (λ l. AreAmong l (symbols_of r.after)) (sym symbols) (among-run-all (symbols_of made) (symbols_of r.after) new r.ready.among))
      (subst AreApart (sym symbols) (apart-all q version flag is_export (symbols_of made) new takes r.apart)) refl (risen whole x r grown)
      (told-grown flag false made whole new x off is ∙ nil-append (told_definitions flag 0 made))

  -- a type operator that is not told, with its first law
  operator-off : {made : List Made} {ax ex : List ℕ} (i : ℕ) (names : TypeNames) (c : HolType) (f : Term) (x : Step)
      (r : Retold q version flag is_export made ax ex)
      → flag (next made) ≡ false
      → Takes (symbols_of made) (defined (Definition.type_operator names c f))
      → Retold q version flag is_export ((made ++ Made.type_definition names c f i ∷ []) ++ Made.step x ∷ []) ax ex
  operator-off {made = made} i names c f x r off takes =
      let new = defined (Definition.type_operator names c f) in
      let whole = (made ++ Made.type_definition names c f i ∷ []) ++ Made.step x ∷ [] in
      let symbols = law-symbols made names c f i x in
      let grown = law-grown made names c f i x in
      retold-off q version flag is_export x r grown off
      (subst (λ l. AreAmong l (symbols_of r.after)) (sym symbols) (among-run-all (symbols_of made) (symbols_of r.after) (new ∷ []) r.ready.among))
      (subst AreApart (sym symbols) (apart-taken (symbols_of made) new r.apart takes)) refl (risen whole x r grown)
      (told-operator flag false made names c f i x off ∙ nil-append (told_definitions flag 0 made))

  -- what a type definition makes in a version
  abbrev with_laws : List Made → ℕ → TypeNames → HolType → Term → Version → List Made
  with_laws made i names c f v =
      ((made ++ Made.type_definition names c f i ∷ [])
      ++ Made.step (step_by by_rule.FirstLaw (i ∷ []) (rule.type_operator names v) (first_law_of v names c)) ∷ [])
      ++ Made.step (step_by by_rule.SecondLaw (i ∷ []) (rule.type_operator names v) (second_law_of v names c f)) ∷ []

  decide : {A : Type 0} (n : ℕ) → (flag n ≡ true → A) → (flag n ≡ false → A) → A
  decide {A = A} n f g = go (flag n) refl
    where
      go : (b : Bool) → flag n ≡ b → A
      go true e = f e
      go false e = g e

  -- The tale is told
  pub retold : {made : List Made} {ax ex : List ℕ} → Tale q version flag is_export made ax ex → Retold q version flag is_export made ax ex
  retold tales.Tale.empty = nothing
  retold (tales.Tale.input x t input takes is) = with-input x (retold t) input takes is
  retold (tales.Tale.inferred {made = made} {whole = whole} x t kind internal h is) =
      let r = retold t in
      decide (next made) (λ on. inferred-on q version flag is_export x r kind internal on (h on) is)
      (λ off. plain-off x r off is refl (risen whole x r (ap steps_of is ∙ steps_of-push made x)))
  retold (tales.Tale.assumed {made = made} {whole = whole} {ax = ax} s t internal new h is all_is) =
      let r = retold t in
      let x = step_by by_rule.Axiom [] (Parameters.sequent s) s in
      let grown = ap steps_of is ∙ steps_of-push made x in
      decide (next made) (λ on. assumed-on q version flag is_export s r internal on new (h on) is all_is)
      (λ off. plain-off x r off is (ap (filter flag) all_is ∙ filter-append flag ax (next made ∷ [])
      ∙ ap (λ b. filter flag ax ++ cond b (next made ∷ []) []) off ∙ nil-append (filter flag ax))
      (subst (AllByRecursion (Below q version flag is_export (next whole))) (sym all_is)
      (All-append (Below q version flag is_export (next whole)) ax (next made ∷ []) (risen whole x r grown)
      ((let longer = next-grown q version flag is_export made whole x grown in omega (arith, longer)), tt {0}))))
  retold (tales.Tale.met {made = made} {whole = whole} s i t internal old h is) =
      let r = retold t in
      let x = restatement i s in
      decide (next made) (λ on. let k = h on in met-on q version flag is_export s i r internal on old k.0 k.1 is)
      (λ off. plain-off x r off is refl (risen whole x r (ap steps_of is ∙ steps_of-push made x)))
  retold (tales.Tale.met_export {made = made} {whole = whole} s i t off is) = let r =
      retold t in plain-off (restatement i s) r off is refl (risen whole (restatement i s) r (ap steps_of is ∙ steps_of-push made (restatement i s)))
  retold (tales.Tale.exported s i t external on new h premise weaker is all_is) =
      exported-on q version flag is_export s i (retold t) external on new h premise weaker is all_is
  retold (tales.Tale.constant {made = made} {whole = whole} n u a t internal takes h is) =
      let r = retold t in
      decide (next made) (λ on. constant-on q version flag is_export n u a r on takes (h on) is)
      (λ off. defined-off (defined (Definition.constant n u) ∷ []) _ r off (takes, tt {0}) is)
  retold (tales.Tale.constants {made = made} {whole = whole} i pairs t internal takes h is) =
      let r = retold t in
      decide (next made) (λ on. constants-on q version flag is_export i pairs r on takes (h on) is) (λ off. defined-off {whole = whole} _ _ r off takes is)
  retold (tales.Tale.type {made = made} {whole = whole} {ax = ax} i names c f made_in t one two takes same h is) =
      let r = retold t in
      let x1 = step_by by_rule.FirstLaw (i ∷ []) (rule.type_operator names made_in) (first_law_of made_in names c) in
      let x2 = step_by by_rule.SecondLaw (i ∷ []) (rule.type_operator names made_in) (second_law_of made_in names c f) in
      let mid = (made ++ Made.type_definition names c f i ∷ []) ++ Made.step x1 ∷ [] in
      decide (next made)
      (λ on.
      let k = h on in
      type-on q version flag is_export i names c f r on (same ∙ on) takes (subst (IsType q version flag is_export made i names c f) k.same k)
      (is ∙ ap (with_laws made i names c f) k.same))
      (λ off.
      let half = operator-off i names c f x1 r off takes in
      let number : next mid ≡ suc (next made) = next-grown q version flag is_export made mid x1 (law-grown made names c f i x1)
      ∙ (let e : next made + 1 ≡ suc (next made) = omega arith in e) in
      plain-off x2 half (ap flag number ∙ same ∙ off) is refl (risen whole x2 half (ap steps_of is ∙ steps_of-push mid x2)))
