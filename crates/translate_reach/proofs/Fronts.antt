-- The items of the front of what was made come first, and what a step needs is told by the whole.
use Rattle.std.proofs.Common.{◌≡◌, ℕ, zero, suc, ◌<◌, List, [], ◌∷◌, ◌++◌, map, length, drop, Bool, true, false, cond, Some, refl, sym, ap, subst, ◌∙◌, append_assoc, arith}
use Rattle.std.specs.Prelude.{slice_index_or}
use Rattle.std.specs.Option.{option_map}
use Rattle.std.specs.List.{AllByRecursion, cons_option}
use Rattle.std.proofs.lemmas.List.{append-nil, length-map, map-append}
use Rattle.std.proofs.lemmas.List.Elements.{filter_map-append}
use Rattle.std.proofs.lemmas.Option.{slice_get_within}
use Rattle.std.proofs.Math.Path.{ap₂}
use Rattle.hol_spec.specs.Definitions.{TypeNames}
use Rattle.hol_spec.specs.Types.{HolType}
use Rattle.hol_spec.specs.Terms.{Term, bound}
use Rattle.hol_spec.specs.Sequents.{Sequent}
use Rattle.hol_spec.specs.Symbols.{Symbol}
use Rattle.hol_spec.specs.Proofs.{Made, Step, sequents_of, sequent_at, ArePremises, IsMade, IsPlain, IsProof}
use Rattle.hol_proof_laws.specs.ProofGrowth.{sequents_of-append}
use Rattle.translate_spec.specs.Rows.{has_row}
use Rattle.translate_spec.specs.Items.{Content, Item}
use Rattle.translate_spec.specs.MadeItems.{Naming, contents_of, type_contents, said_of, said_by, premise_at, content_by, proves_nothing, restated, needed, sequents_at, shown_content, step_content, contents, numbered, items_after, items_of}
use Rattle.translate_laws.specs.AcceptedItems.{EachAfter, each-after, says-step, symbol-said}
use Rattle.translate_laws.specs.NeededSteps.{needed-sequent}

-- the k-th of a list, where each has become something else
pub at-map : {A B : Type 0} (f : A → B) (xs : List A) (k : ℕ) (d : A) → f (slice_index_or xs k d) ≡ slice_index_or (map f xs) k (f d)
at-map f [] k d = refl
at-map f (x ∷ xs) zero d = refl
at-map f (x ∷ xs) (suc k) d = at-map f xs k d

-- the k-th of the first of two lists
at-front : {A : Type 0} (xs ys : List A) (k : ℕ) (d : A) → k < length xs → slice_index_or (xs ++ ys) k d ≡ slice_index_or xs k d
at-front [] ys k d l = absurd (omega arith)
at-front (x ∷ xs) ys zero d l = refl
at-front (x ∷ xs) ys (suc k) d l = at-front xs ys k d (omega arith)

-- the numbers of what items say, and its sequents
abbrev pub numbers_of : List Item → List ℕ
numbers_of items = map (λ p. p.0) (said_by items)

abbrev no_sequent : Sequent
no_sequent = record { hypotheses = []; conclusion = bound 0 }

step-said : (named : Content → List ℕ) (i : ℕ) (before : List Item) (x : Step) → said_by (numbered named i (step_content before x ∷ [])) ≡ (i, x.sequent) ∷ []
step-said named i before x =
    let y = needed (sequents_at before x.premises) x in
    ap (λ o. cons_option {X = ℕ × Sequent} (option_map (λ (s : Sequent). (i, s)) o) [])
    (says-step (has_row y.kind) y.kind (map (λ k. (premise_at before k).0) y.premises) (sequents_at before y.premises) y.parameters y.sequent
    ∙ ap Some (needed-sequent (sequents_at before x.premises) x))

module _ (named : Naming) where
  pub items_after-append : (before : List Item) (xs ys : List Made) → items_after named before (xs ++ ys) ≡ items_after named (items_after named before xs) ys
  items_after-append before [] ys = refl
  items_after-append before (x ∷ xs) ys = items_after-append (before ++ numbered (named (length (said_by before)) x) (length before) (contents before x)) xs ys

  -- what comes after items
  pub items_after-rest : (before : List Item) (xs : List Made) → (rest : List Item) × (items_after named before xs ≡ before ++ rest)
  items_after-rest before [] = ([], sym (append-nil before))
  items_after-rest before (x ∷ xs) =
      let new = numbered (named (length (said_by before)) x) (length before) (contents before x) in
      let r = items_after-rest (before ++ new) xs in
      (new ++ r.0, r.1 ∙ append_assoc before new r.0)

  -- the items of a front are the first
  pub items_of-front : (front rest : List Made) → (more : List Item) × (items_of named (front ++ rest) ≡ items_of named front ++ more)
  items_of-front front rest = let r = items_after-rest (items_of named front) rest in (r.0, items_after-append [] front rest ∙ r.1)

  -- the sequents that items say are those of the steps
  said-after : (before : List Item) (xs : List Made) → map (λ (p : ℕ × Sequent). p.1) (said_by (items_after named before xs))
      ≡ map (λ (p : ℕ × Sequent). p.1) (said_by before) ++ sequents_of xs
  said-after before [] = sym (append-nil (map (λ (p : ℕ × Sequent). p.1) (said_by before)))
  said-after before (Made.symbol x ∷ xs) =
      let new = numbered (named (length (said_by before)) (Made.symbol x)) (length before) (contents_of x) in
      said-after (before ++ new) xs
      ∙ ap (λ l. map (λ (p : ℕ × Sequent). p.1) l ++ sequents_of xs)
      (filter_map-append said_of before new ∙ ap (λ l. said_by before ++ l)
      (symbol-said (named (length (said_by before)) (Made.symbol x)) (length before) x) ∙ append-nil (said_by before))
  said-after before (Made.type_definition names c f i ∷ xs) =
      let new = numbered (named (length (said_by before)) (Made.type_definition names c f i)) (length before) (type_contents names c f (premise_at before i)) in
      said-after (before ++ new) xs ∙ ap (λ l. map (λ (p : ℕ × Sequent). p.1) l ++ sequents_of xs)
      (filter_map-append said_of before new ∙ append-nil (said_by before))
  said-after before (Made.step x ∷ xs) =
      let new = numbered (named (length (said_by before)) (Made.step x)) (length before) (step_content before x ∷ []) in
      said-after (before ++ new) xs
      ∙ ap (λ l. l ++ sequents_of xs)
      (ap (map (λ (p : ℕ × Sequent). p.1)) (filter_map-append said_of before new
      ∙ ap (λ l. said_by before ++ l) (step-said (named (length (said_by before)) (Made.step x)) (length before) before x))
      ∙ map-append (λ (p : ℕ × Sequent). p.1) (said_by before) ((length before, x.sequent) ∷ []))
      ∙ append_assoc (map (λ (p : ℕ × Sequent). p.1) (said_by before)) (x.sequent ∷ []) (sequents_of xs)

  pub said-sequents : (made : List Made) → map (λ (p : ℕ × Sequent). p.1) (said_by (items_of named made)) ≡ sequents_of made
  said-sequents made = said-after [] made

  -- what was said of before is said by the k-th item of the whole
  module _ (front rest : List Made) where
    said-count : length (said_by (items_of named front)) ≡ length (sequents_of front)
    said-count = sym (length-map (said_by (items_of named front)) (λ (p : ℕ × Sequent). p.1)) ∙ ap length (said-sequents front)

    pub number-front : (k : ℕ) → k < length (sequents_of front) → (premise_at (items_of named front) k).0
        ≡ slice_index_or (numbers_of (items_of named (front ++ rest))) k 0
    number-front k l =
        let r = items_of-front front rest in
        let before = said_by (items_of named front) in
        let count = length-map before (λ (p : ℕ × Sequent). p.0) ∙ said-count in
        at-map (λ (p : ℕ × Sequent). p.0) before k (0, no_sequent)
        ∙ sym (at-front (map (λ (p : ℕ × Sequent). p.0) before) (map (λ (p : ℕ × Sequent). p.0) (said_by r.0)) k 0 (omega (arith, l, count)))
        ∙ ap (λ l. slice_index_or l k 0)
        (sym (ap (λ l. map (λ (p : ℕ × Sequent). p.0) (said_by l)) r.1
        ∙ ap (map (λ (p : ℕ × Sequent). p.0)) (filter_map-append said_of (items_of named front) r.0)
        ∙ map-append (λ (p : ℕ × Sequent). p.0) before (said_by r.0)))

    sequent-front : (k : ℕ) → k < length (sequents_of front) → (premise_at (items_of named front) k).1 ≡ sequent_at (front ++ rest) k
    sequent-front k l =
        at-map (λ (p : ℕ × Sequent). p.1) (said_by (items_of named front)) k (0, no_sequent)
        ∙ ap (λ l. slice_index_or l k no_sequent) (said-sequents front)
        ∙ sym (ap (λ l. slice_index_or l k no_sequent) (sequents_of-append front rest) ∙ at-front (sequents_of front) (sequents_of rest) k no_sequent l)

    abbrev AreEarlier : List ℕ → Type 0
    AreEarlier ks = AllByRecursion (λ k. k < length (sequents_of front)) ks

    numbers-front : (ks : List ℕ) → AreEarlier ks → map (λ k. (premise_at (items_of named front) k).0) ks
        ≡ map (λ k. slice_index_or (numbers_of (items_of named (front ++ rest))) k 0) ks
    numbers-front [] h = refl
    numbers-front (k ∷ ks) h = ap₂ (λ j js. j ∷ js) (number-front k h.0) (numbers-front ks h.1)

    sequents-front : (ks : List ℕ) → AreEarlier ks → sequents_at (items_of named front) ks ≡ map (sequent_at (front ++ rest)) ks
    sequents-front [] h = refl
    sequents-front (k ∷ ks) h = ap₂ (λ s ss. s ∷ ss) (sequent-front k h.0) (sequents-front ks h.1)

-- what is made last in a front has its property on what is before it
pub each-at : (P : List Made → Made → Type 0) (before front rest : List Made) (x : Made) → EachAfter P before (front ++ x ∷ rest) → P (before ++ front) x
each-at P before [] rest x h = subst (λ l. P l x) (sym (append-nil before)) h.0
each-at P before (y ∷ ys) rest x h = subst (λ l. P l x) (append_assoc before (y ∷ []) ys) (each-at P (before ++ y ∷ []) ys rest x h.1)

premises-earlier : (sequents : List Sequent) (ks : List ℕ) (ss : List Sequent) → ArePremises sequents ks ss → AllByRecursion (λ k. k < length sequents) ks
premises-earlier sequents [] [] h = tt
premises-earlier sequents (k ∷ ks) (s ∷ ss) h = (slice_get_within sequents k s h.0, premises-earlier sequents ks ss h.1)
premises-earlier sequents [] (s ∷ ss) h = absurd h
premises-earlier sequents (k ∷ ks) [] h = absurd h

drop-All : {A : Type 0} (P : A → Type 0) (xs : List A) → AllByRecursion P xs → AllByRecursion P (drop 1 xs)
drop-All P [] h = tt
drop-All P (x ∷ xs) h = h.1

-- a step is on earlier steps
pub step-earlier : (front rest : List Made) (x : Step) → IsProof (front ++ Made.step x ∷ rest) → AllByRecursion (λ k. k < length (sequents_of front)) x.premises
step-earlier front rest x proof =
    let h = each-at IsMade [] front rest (Made.step x) (each-after IsMade (front ++ Made.step x ∷ rest) proof) in
    premises-earlier (sequents_of front) x.premises h.premises h.earlier

-- and so is a type definition
pub definition-earlier : (front rest : List Made) (names : TypeNames) (c : HolType) (f : Term) (i : ℕ)
    → IsProof (front ++ Made.type_definition names c f i ∷ rest) → i < length (sequents_of front)
definition-earlier front rest names c f i proof =
    let made = Made.type_definition names c f i in
    let h = each-at IsMade [] front rest made (each-after IsMade (front ++ made ∷ rest) proof) in
    slice_get_within (sequents_of front) i h.one h.at

-- a symbol that is made alone is no type operator's
pub symbol-plain : (front rest : List Made) (x : Symbol) → IsProof (front ++ Made.symbol x ∷ rest) → IsPlain x
symbol-plain front rest x proof = (each-at IsMade [] front rest (Made.symbol x) (each-after IsMade (front ++ Made.symbol x ∷ rest) proof)).0

needed-earlier : (n : ℕ) (ss : List Sequent) (x : Step) → AllByRecursion (λ k. k < n) x.premises → AllByRecursion (λ k. k < n) (needed ss x).premises
needed-earlier n ss x h = go (proves_nothing x.kind ss)
  where
    go : (b : Bool) → AllByRecursion (λ k. k < n) (cond b (restated x) x).premises
    go true = drop-All (λ k. k < n) x.premises h
    go false = h

-- What a step shows is told by the whole
pub step_content-front : (named : Naming) (front rest : List Made) (x : Step) → IsProof (front ++ Made.step x ∷ rest)
    → (let made = front ++ Made.step x ∷ rest in
    let y = needed (map (sequent_at made) x.premises) x in
    step_content (items_of named front) x ≡ content_by (has_row y.kind) y.kind (map (λ k. slice_index_or (numbers_of (items_of named made)) k 0) y.premises)
    (map (sequent_at made) y.premises) y.parameters y.sequent)
step_content-front named front rest x proof =
    let more = Made.step x ∷ rest in
    let made = front ++ more in
    let before = items_of named front in
    let earlier = step-earlier front rest x proof in
    let y = needed (map (sequent_at made) x.premises) x in
    let lower = needed-earlier (length (sequents_of front)) (map (sequent_at made) x.premises) x earlier in
    ap (λ ss. shown_content before (needed ss x)) (sequents-front named front more x.premises earlier)
    ∙ ap₂ (λ js ss. content_by (has_row y.kind) y.kind js ss y.parameters y.sequent) (numbers-front named front more y.premises lower)
    (sequents-front named front more y.premises lower)
