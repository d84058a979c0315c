-- What is known of an article when a part of its run is told: its steps are the flagged ones, with other numbers, and each has a key.
use Rattle.std.proofs.Common.{◌≡◌, ℕ, suc, ◌+◌, ◌<◌, ◌≤◌, ◌==◌, Bool, true, false, cond, List, [], ◌∷◌, ◌++◌, map, length, None, Some, refl, sym, ap, ap₂, subst, ◌∙◌, arith, append_assoc, length-append, inl, inr, ◌⊎◌}
use Rattle.std.specs.List.{AllByRecursion, filter, filter_map, flat_map, position_from}
use Rattle.std.proofs.lemmas.List.{map-append, length-map}
use Rattle.hol_laws.specs.Members.{All-weaker}
use Rattle.std.proofs.lemmas.Bool.Decides.{nat_tests}
use Rattle.hol_spec.specs.declared.Version.{Version}
use Rattle.hol_spec.specs.Types.{HolType}
use Rattle.hol_spec.specs.Terms.{Term}
use Rattle.hol_spec.specs.Definitions.{Definition, TypeNames}
use Rattle.hol_spec.specs.Sequents.{same}
use Rattle.hol_spec.specs.Symbols.{Symbol}
use Rattle.hol_spec.specs.Proofs.{Made, Step, symbol_definition, symbols_of, steps_of, definitions_of}
use Rattle.hol_proof_laws.specs.ProofLaws.{symbols_of-push, symbols_of-symbols}
use Rattle.article_spec.specs.State.{Object}
use Rattle.article_write_spec.specs.ReachedSteps.{Numbered}
pub use Rattle.article_write_spec.specs.Retold.{defined_by, told_definitions}
use Rattle.article_write_spec.specs.Drafts.{Kept, kept_eq, Draft, write_each}
use Rattle.article_write_spec.specs.WrittenSteps.{write_by}
use Rattle.article_write_spec.specs.Article.{version_draft}
use Rattle.article_write_laws.specs.SymbolUses.{IsInput, AreAmong, nil-append}
use Rattle.article_write_laws.specs.SymbolsGrown.{AreApart}
use Rattle.article_write_laws.specs.Scenes.{Scene, Ready}
use Rattle.article_write_laws.specs.GivenWriting.{IsKept, kept-more}
use Rattle.article_write_laws.specs.Flags.{count, selected, renumbered, renumbered_steps, selected-push, count-steps}
use Rattle.article_write_laws.specs.Tales.{next}

write_each-append : {A : Type 0} (write : A → Draft → Draft) (xs ys : List A) (d : Draft)
    → write_each write (xs ++ ys) d ≡ write_each write ys (write_each write xs d)
write_each-append write [] ys d = refl
write_each-append write (x ∷ xs) ys d = write_each-append write xs ys (write x d)

-- a theorem that is kept has a key
last-kept : (i start : ℕ) (kept : List Kept) → (k : ℕ) × (position_from (kept_eq (Kept.theorem i)) start (kept ++ Kept.theorem i ∷ []) ≡ Some k)
last-kept i start [] = (start, (let e : (i == i) ≡ true = grind (arith, nat_tests) in ap (λ b. cond b (Some start) None) e))
last-kept i start (y ∷ kept) = go (kept_eq (Kept.theorem i) y) (last-kept i (start + 1) kept)
  where
    go : (b : Bool) → ((k : ℕ) × (position_from (kept_eq (Kept.theorem i)) (start + 1) (kept ++ Kept.theorem i ∷ []) ≡ Some k))
        → (k : ℕ) × (cond b (Some start) (position_from (kept_eq (Kept.theorem i)) (start + 1) (kept ++ Kept.theorem i ∷ [])) ≡ Some k)
    go true h = (start, refl)
    go false h = h

pub kept-last : (kept : List Kept) (i : ℕ) → IsKept (kept ++ Kept.theorem i ∷ []) i
kept-last kept i = let h = last-kept i 0 kept in record { key = h.0; at = h.1 }

-- The definitions that are told
definitions-are : (xs : List Symbol) → filter_map symbol_definition xs ≡ flat_map defined_by xs
definitions-are [] = refl
definitions-are (Symbol.input_constant n ∷ xs) = definitions-are xs
definitions-are (Symbol.input_operator n k ∷ xs) = definitions-are xs
definitions-are (Symbol.defined d ∷ xs) = ap (λ l. d ∷ l) (definitions-are xs)

defined-append : (xs ys : List Symbol) → flat_map defined_by (xs ++ ys) ≡ flat_map defined_by xs ++ flat_map defined_by ys
defined-append [] ys = refl
defined-append (x ∷ xs) ys = ap (λ l. defined_by x ++ l) (defined-append xs ys) ∙ sym
    (append_assoc (defined_by x) (flat_map defined_by xs) (flat_map defined_by ys))

inputs-define : (xs : List Symbol) → AllByRecursion IsInput xs → flat_map defined_by xs ≡ []
inputs-define [] h = refl
inputs-define (Symbol.input_constant n ∷ xs) h = inputs-define xs h.1
inputs-define (Symbol.input_operator n k ∷ xs) h = inputs-define xs h.1
inputs-define (Symbol.defined d ∷ xs) h = absurd h.0

module _ (flag : ℕ → Bool) where
  told-append : (n : ℕ) (xs ys : List Made)
      → told_definitions flag n (xs ++ ys) ≡ told_definitions flag n xs ++ told_definitions flag (n + length (steps_of xs)) ys
  told-append n [] ys = ap (λ k. told_definitions flag k ys) (let e : n ≡ n + 0 = omega arith in e)
  told-append n (Made.symbol x ∷ xs) ys =
      ap (λ l. cond (flag n) (defined_by x) [] ++ l) (told-append n xs ys)
      ∙ sym (append_assoc (cond (flag n) (defined_by x) []) (told_definitions flag n xs) (told_definitions flag (n + length (steps_of xs)) ys))
  told-append n (Made.type_definition names c f i ∷ xs) ys =
      ap (λ l. cond (flag n) (Definition.type_operator names c f ∷ []) [] ++ l) (told-append n xs ys)
      ∙ sym (append_assoc (cond (flag n) (Definition.type_operator names c f ∷ []) []) (told_definitions flag n xs)
      (told_definitions flag (n + length (steps_of xs)) ys))
  told-append n (Made.step x ∷ xs) ys = told-append (suc n) xs ys ∙ ap (λ k. told_definitions flag (suc n) xs ++ told_definitions flag k ys)
      (let e : suc n + length (steps_of xs) ≡ n + suc (length (steps_of xs)) = omega arith in e)

  told-symbols : (b : Bool) (n : ℕ) (new : List Symbol) (rest : List Made) → flag n ≡ b → told_definitions flag n rest ≡ []
      → told_definitions flag n (map Made.symbol new ++ rest) ≡ cond b (flat_map defined_by new) []
  told-symbols true n [] rest e f = f
  told-symbols false n [] rest e f = f
  told-symbols true n (x ∷ new) rest e f = ap₂ (λ c l. cond c (defined_by x) [] ++ l) e (told-symbols true n new rest e f)
  told-symbols false n (x ∷ new) rest e f = ap₂ (λ c l. cond c (defined_by x) [] ++ l) e (told-symbols false n new rest e f)

  -- what a command made
  pub told-grown : (b : Bool) (made whole : List Made) (new : List Symbol) (x : Step) → flag (next made) ≡ b
      → whole ≡ (made ++ map Made.symbol new) ++ Made.step x ∷ []
      → told_definitions flag 0 whole ≡ told_definitions flag 0 made ++ cond b (flat_map defined_by new) []
  told-grown b made whole new x e is =
      ap (told_definitions flag 0) (is ∙ append_assoc made (map Made.symbol new) (Made.step x ∷ []))
      ∙ told-append 0 made (map Made.symbol new ++ Made.step x ∷ [])
      ∙ ap (λ l. told_definitions flag 0 made ++ l)
      (ap (λ k. told_definitions flag k (map Made.symbol new ++ Made.step x ∷ [])) (let z : 0 + next made ≡ next made = omega arith in z)
      ∙ told-symbols b (next made) new (Made.step x ∷ []) e refl)

  -- a type operator, with its first law
  pub told-operator : (b : Bool) (made : List Made) (names : TypeNames) (c : HolType) (f : Term) (i : ℕ) (x : Step) → flag (next made) ≡ b
      → told_definitions flag 0 ((made ++ Made.type_definition names c f i ∷ []) ++ Made.step x ∷ []) ≡ told_definitions flag 0 made
      ++ cond b (Definition.type_operator names c f ∷ []) []
  told-operator b made names c f i x e =
      ap (told_definitions flag 0) (append_assoc made (Made.type_definition names c f i ∷ []) (Made.step x ∷ []))
      ∙ told-append 0 made (Made.type_definition names c f i ∷ Made.step x ∷ [])
      ∙ ap (λ l. told_definitions flag 0 made ++ l) (nil-append (cond (flag (0 + next made)) (Definition.type_operator names c f ∷ []) [])
      ∙ ap (λ a. cond a (Definition.type_operator names c f ∷ []) []) (ap flag (let z : 0 + next made ≡ next made = omega arith in z) ∙ e))

  pub told-input : (made whole : List Made) (x : Symbol) → IsInput x → whole ≡ made ++ Made.symbol x ∷ []
      → told_definitions flag 0 whole ≡ told_definitions flag 0 made
  told-input made whole x input is =
      ap (told_definitions flag 0) is ∙ told-append 0 made (Made.symbol x ∷ [])
      ∙ ap (λ l. told_definitions flag 0 made ++ l) (nothing x input (flag (0 + next made))) ∙ nil-append (told_definitions flag 0 made)
    where
      nothing : (x : Symbol) → IsInput x → (b : Bool) → cond b (defined_by x) [] ++ [] ≡ []
      nothing (Symbol.input_constant n) h true = refl
      nothing (Symbol.input_constant n) h false = refl
      nothing (Symbol.input_operator n k) h true = refl
      nothing (Symbol.input_operator n k) h false = refl
      nothing (Symbol.defined d) h b = absurd h

  -- the article defines what the run did
  pub defined-after : (before after : List Made) (more new : List Symbol) → AllByRecursion IsInput more → symbols_of after ≡ (symbols_of before ++ more) ++ new
      → definitions_of after ≡ definitions_of before ++ flat_map defined_by new
  defined-after before after more new inputs e =
      ap (filter_map symbol_definition) e ∙ definitions-are ((symbols_of before ++ more) ++ new) ∙ defined-append (symbols_of before ++ more) new
      ∙ ap (λ l. l ++ flat_map defined_by new) (defined-append (symbols_of before) more
      ∙ ap (λ l. flat_map defined_by (symbols_of before) ++ l) (inputs-define more inputs) ∙ nil-append (flat_map defined_by (symbols_of before))
      ∙ sym (definitions-are (symbols_of before)))

module _ (q : ℕ) (version : Version) (flag is_export : ℕ → Bool) where
  abbrev pub write_flagged : Numbered → Draft → Draft
  write_flagged x d = write_by q x.step.kind (is_export x.number) x.number x.step d

  abbrev pub told : List Made → Draft
  told made = write_each write_flagged (selected flag 0 (steps_of made)) (version_draft version)

  abbrev pub scene : List Made → List ℕ → List ℕ → Scene
  scene made ax ex = record
      { version = version; number = count flag; symbols = symbols_of made; assumptions = map (count flag) (filter flag ax); exports = map (count flag) ex }

  pub record Retold (made : List Made) (ax ex : List ℕ) : Type 0 where
    pub after : List Made
    pub ready : Ready (scene made ax ex) (told made) after []
    pub steps : steps_of after ≡ renumbered_steps flag (steps_of made)
    pub definitions : definitions_of after ≡ told_definitions flag 0 made
    pub kept : (i : ℕ) → i < next made → flag i ≡ true → is_export i ≡ false → IsKept (told made).kept i
    pub apart : AreApart (symbols_of made)
    pub assumptions : AllByRecursion (λ i. i < next made) ax
    pub exports : AllByRecursion (λ i. (i < next made) × (flag i ≡ true)) ex

  module _ (made whole : List Made) (x : Step) (grown : steps_of whole ≡ steps_of made ++ x ∷ []) where
    pub selected-grown : selected flag 0 (steps_of whole) ≡ selected flag 0 (steps_of made)
        ++ cond (flag (next made)) (record { number = next made; step = x } ∷ []) []
    selected-grown =
        ap (selected flag 0) grown ∙ selected-push flag 0 (steps_of made) x
        ∙ ap (λ k. selected flag 0 (steps_of made) ++ selected flag k (x ∷ [])) (let e : 0 + next made ≡ next made = omega arith in e)

    pub next-grown : next whole ≡ next made + 1
    next-grown = ap length grown ∙ length-append (steps_of made) (x ∷ [])

    pub selected-on : flag (next made) ≡ true → selected flag 0 (steps_of whole) ≡ selected flag 0 (steps_of made)
        ++ record { number = next made; step = x } ∷ []
    selected-on on = selected-grown ∙ ap (λ b. selected flag 0 (steps_of made) ++ cond b (record { number = next made; step = x } ∷ []) []) on

    pub selected-off : flag (next made) ≡ false → selected flag 0 (steps_of whole) ≡ selected flag 0 (steps_of made)
    selected-off off = selected-grown ∙ ap (λ b. selected flag 0 (steps_of made) ++ cond b (record { number = next made; step = x } ∷ []) []) off ∙ nil-append
        (selected flag 0 (steps_of made))

    pub told-on : flag (next made) ≡ true → told whole ≡ write_flagged (record { number = next made; step = x }) (told made)
    told-on on = ap (λ l. write_each write_flagged l (version_draft version)) (selected-on on)
        ∙ write_each-append write_flagged (selected flag 0 (steps_of made)) (record { number = next made; step = x } ∷ []) (version_draft version)

    pub told-off : flag (next made) ≡ false → told whole ≡ told made
    told-off off = ap (λ l. write_each write_flagged l (version_draft version)) (selected-off off)

    pub steps-on : flag (next made) ≡ true → renumbered_steps flag (steps_of whole) ≡ renumbered_steps flag (steps_of made) ++ renumbered (count flag) x ∷ []
    steps-on on = ap (map (λ y. renumbered (count flag) y.step)) (selected-on on)
        ∙ map-append (λ y. renumbered (count flag) y.step) (selected flag 0 (steps_of made)) (record { number = next made; step = x } ∷ [])

    pub steps-off : flag (next made) ≡ false → renumbered_steps flag (steps_of whole) ≡ renumbered_steps flag (steps_of made)
    steps-off off = ap (map (λ y. renumbered (count flag) y.step)) (selected-off off)

    -- the step that was made last, or an earlier one
    earlier : (i : ℕ) → i < next whole → (i < next made) ⊎ (i ≡ next made)
    earlier i low = go (i == next made) refl
      where
        go : (b : Bool) → (i == next made) ≡ b → (i < next made) ⊎ (i ≡ next made)
        go true e = inr (grind (arith, nat_tests, e))
        go false e = inl (grind (arith, nat_tests, e, low, next-grown))

  -- the bounds rise
  abbrev pub Below : ℕ → ℕ → Type 0
  Below n i = i < n

  abbrev pub Exported : ℕ → ℕ → Type 0
  Exported n i = (i < n) × (flag i ≡ true)

  pub rise : (m n : ℕ) → m ≤ n → (is : List ℕ) → AllByRecursion (Below m) is → AllByRecursion (Below n) is
  rise m n le is h = All-weaker (Below m) (Below n) (λ i k. omega (arith, le, k)) is h

  pub rise-exported : (m n : ℕ) → m ≤ n → (is : List ℕ) → AllByRecursion (Exported m) is → AllByRecursion (Exported n) is
  rise-exported m n le is h = All-weaker (Exported m) (Exported n) (λ i k. (omega (arith, le, k.0), k.1)) is h

  -- the same state under another scene
  abbrev scene_of : List Symbol → List ℕ → List ℕ → Scene
  scene_of symbols as_told ex_told = record { version = version; number = count flag; symbols = symbols; assumptions = as_told; exports = ex_told }

  pub ready-moved : {s t : List Symbol} {a b e f : List ℕ} {d : Draft} {m : List Made} {stack : List Object} → Ready (scene_of s a e) d m stack
      → AreAmong t (symbols_of m) → a ≡ b → e ≡ f → Ready (scene_of t b f) d m stack
  ready-moved {s = s} {t = t} {a = a} {b = b} {e = e} {f = f} {d = d} {m = m} {stack = stack} r among p q =
      subst (λ l. Ready (scene_of t l f) d m stack) p (subst (λ l. Ready (scene_of t a l) d m stack) q
      (record { dictionary = r.dictionary; leads = r.leads; holds = record { at = r.holds.at }; among = among }))

  -- A step that is not told
  pub retold-off : {made whole : List Made} {ax ex all : List ℕ} (x : Step) (r : Retold made ax ex) → steps_of whole ≡ steps_of made ++ x ∷ []
      → flag (next made) ≡ false
      → AreAmong (symbols_of whole) (symbols_of r.after) → AreApart (symbols_of whole) → filter flag all ≡ filter flag ax
      → AllByRecursion (Below (next whole)) all → told_definitions flag 0 whole ≡ told_definitions flag 0 made → Retold whole all ex
  retold-off {made = made} {whole = whole} {ax = ax} {ex = ex} {all = all} x r grown off among apart same below defs =
      let draft = told-off made whole x grown off in
      let longer = next-grown made whole x grown in
      record {
        after = r.after;
        ready = subst (λ d. Ready (scene whole all ex) d r.after []) (sym draft) (ready-moved r.ready among (ap (map (count flag)) (sym same)) refl);
        steps = r.steps ∙ sym (steps-off made whole x grown off);
        definitions = r.definitions ∙ sym defs;
        kept = λ i low on no. subst (λ d. IsKept d.kept i) (sym draft) (elim (earlier made whole x grown i low) [
          | inl old ↦ r.kept i old on no
          | inr new ↦ absurd (let e = sym off ∙ ap flag (sym new) ∙ on in cc)
        ]);
        apart = apart;
        assumptions = below;
        exports = rise-exported (next made) (next whole) (omega (arith, longer)) ex r.exports;
      }

  -- A step that is told
  pub retold-on : {made whole : List Made} {ax ex all exported : List ℕ} (x : Step) (r : Retold made ax ex) → steps_of whole ≡ steps_of made ++ x ∷ []
      → flag (next made) ≡ true
      → (after : List Made) → Ready (scene whole all exported) (write_flagged (record { number = next made; step = x }) (told made)) after [] → steps_of after
      ≡ steps_of r.after ++ renumbered (count flag) x ∷ []
      → (new : List Kept) → (write_flagged (record { number = next made; step = x }) (told made)).kept ≡ (told made).kept ++ new
      → (is_export (next made) ≡ false → IsKept (write_flagged (record { number = next made; step = x }) (told made)).kept (next made))
      → AreApart (symbols_of whole) → AllByRecursion (Below (next whole)) all → AllByRecursion (Exported (next whole)) exported → definitions_of after
      ≡ told_definitions flag 0 whole → Retold whole all exported
  retold-on {made = made} {whole = whole} {ax = ax} {ex = ex} {all = all} {exported = exported} x r grown on after ready steps new front own apart below outside
      defs =
      let draft = told-on made whole x grown on in
      record {
        after = after;
        ready = subst (λ d. Ready (scene whole all exported) d after []) (sym draft) ready;
        steps = steps ∙ ap (λ l. l ++ renumbered (count flag) x ∷ []) r.steps ∙ sym (steps-on made whole x grown on);
        definitions = defs;
        kept = λ i low f no. subst (λ d. IsKept d.kept i) (sym draft) (elim (earlier made whole x grown i low) [
          | inl old ↦ subst (λ l. IsKept l i) (sym front) (kept-more (told made).kept new i (r.kept i old f no))
          | inr is ↦ subst (λ j. IsKept (write_flagged (record { number = next made; step = x }) (told made)).kept j) (sym is)
              (own (ap is_export (sym is) ∙ no))
        ]);
        apart = apart;
        assumptions = below;
        exports = outside;
      }

  -- how many steps the article has
  pub count-after : {made : List Made} {ax ex : List ℕ} (r : Retold made ax ex) → length (steps_of r.after) ≡ count flag (next made)
  count-after {made = made} r = ap length r.steps ∙ length-map (selected flag 0 (steps_of made)) (λ y. renumbered (count flag) y.step) ∙ count-steps flag
      (steps_of made)

  -- the definitions after a command that is told
  pub defs-told : {made : List Made} {ax ex : List ℕ} (r : Retold made ax ex) (whole after : List Made) (more new : List Symbol) (x : Step)
      → flag (next made) ≡ true → AllByRecursion IsInput more
      → symbols_of after ≡ (symbols_of r.after ++ more) ++ new → whole ≡ (made ++ map Made.symbol new) ++ Made.step x ∷ [] → definitions_of after
      ≡ told_definitions flag 0 whole
  defs-told {made = made} r whole after more new x on inputs symbols is =
      defined-after flag r.after after more new inputs symbols ∙ ap (λ l. l ++ flat_map defined_by new) r.definitions
      ∙ sym (told-grown flag true made whole new x on is)

  -- one that defines nothing
  pub defs-plain : {made : List Made} {ax ex : List ℕ} (r : Retold made ax ex) (whole : List Made) (more : List Symbol) (x y : Step) → flag (next made) ≡ true
      → AllByRecursion IsInput more
      → whole ≡ made ++ Made.step x ∷ [] → definitions_of ((r.after ++ map Made.symbol more) ++ Made.step y ∷ []) ≡ told_definitions flag 0 whole
  defs-plain {made = made} r whole more x y on inputs is =
      defs-told r whole ((r.after ++ map Made.symbol more) ++ Made.step y ∷ []) more [] x on inputs
      (symbols_of-push (r.after ++ map Made.symbol more) y ∙ symbols_of-symbols r.after more ∙ sym (nil-append (symbols_of r.after ++ more)))
      (is ∙ ap (λ l. l ++ Made.step x ∷ []) (sym (nil-append made)))
