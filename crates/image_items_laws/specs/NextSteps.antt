-- The next step of a run, as its module has it: what its premises are, and that they are kept with it.
use Rattle.std.proofs.Common.{◌≡◌, ℕ, ◌<◌, List, [], ◌∷◌, ◌++◌, append-nil, append_assoc, map, length, drop, Bool, true, false, cond, refl, sym, ap, subst, ◌∙◌, arith}
use Rattle.std.specs.Prelude.{slice_index_or}
use Rattle.std.specs.Option.{option_map}
use Rattle.std.specs.List.{AllByRecursion, cons_option}
use Rattle.std.proofs.lemmas.List.{length-map}
use Rattle.std.proofs.lemmas.List.Elements.{filter_map-append}
use Rattle.article_spec.specs.SoundRuns.{IsSoundRun}
use Rattle.hol_laws.specs.Members.{IsIn-left, IsIn-right, All-at, All-each, All-weaker, map-each, map-twice}
use Rattle.hol_spec.specs.Lists.{IsIn}
use Rattle.hol_spec.specs.Proofs.{Made, Step, steps_of, sequents_of, sequent_at, ArePremises, IsStep, IsMade, Accepted}
use Rattle.hol_spec.specs.Rules.{Parameters}
use Rattle.hol_spec.specs.Sequents.{Sequent}
use Rattle.hol_spec.specs.Terms.{bound}
use Rattle.hol_spec.specs.declared.StepKind.{StepKind}
use Rattle.translate_laws.specs.AcceptedItems.{EachAfter, each-after, made-joined, said-in}
use Rattle.translate_laws.specs.BodyTyping.{IsIn-map}
use Rattle.translate_laws.specs.KeptModules.{AreKept, AreNumbered}
use Rattle.translate_laws.specs.NeededSteps.{needed-row}
use Rattle.translate_laws.specs.WantedItems.{made-numbered}
use Rattle.translate_laws.specs.SaidItems.{says-gives_of}
use Rattle.translate_spec.specs.Image.{name_in, step_name}
use Rattle.translate_spec.specs.Items.{Item}
use Rattle.translate_spec.specs.MadeItems.{said_of, said_by, premise_at, content_by, needed, restated, proves_nothing, sequents_at, shown_content, step_content, roots_of}
use Rattle.translate_spec.specs.Reach.{number_key, needs, gives, sequent_keys, given_keys, renumbered_content}
use Rattle.translate_spec.specs.Rows.{has_row}
use Rattle.image_items_laws.specs.MadeInOrder.{items-grow, items-stay, said-steps, step-says}
use Rattle.image_items_laws.specs.Making.{items_made, made_items, is_kept, module_number, step_item, step_symbol, used_step, module_content, NextPremises}
use Rattle.image_items_laws.specs.Positions.{index-front, index-seam, index-map, index-IsIn, get-within}

-- one of what was made has its property on what was made before it
pub each-at : (P : List Made → Made → Type 0) (before xs ys : List Made) (y : Made) → EachAfter P before (xs ++ y ∷ ys) → P (before ++ xs) y
each-at P before [] ys y h = subst (λ l. P l y) (sym (append-nil before)) h.0
each-at P before (x ∷ xs) ys y h = subst (λ l. P l y) (append_assoc before (x ∷ []) xs) (each-at P (before ++ x ∷ []) xs ys y h.1)

-- and one of the items that are numbered
pub numbered-at : (keep : ℕ → Bool) (before xs ys : List Item) (z : Item) → AreNumbered keep before (xs ++ z ∷ ys) → keep z.symbol ≡ true
    → AreKept keep (before ++ xs) (needs z.content)
numbered-at keep before [] ys z h e = subst (λ l. AreKept keep l (needs z.content)) (sym (append-nil before)) (h.3 e)
numbered-at keep before (x ∷ xs) ys z h e = subst (λ l. AreKept keep l (needs z.content)) (append_assoc before (x ∷ []) xs)
    (numbered-at keep (before ++ x ∷ []) xs ys z h.4 e)

-- premises are earlier steps
premises-earlier : (sequents : List Sequent) (ks : List ℕ) (ss : List Sequent) → ArePremises sequents ks ss → AllByRecursion (λ k. k < length sequents) ks
premises-earlier sequents [] [] h = tt
premises-earlier sequents (k ∷ ks) (s ∷ ss) h = (get-within sequents k s h.0, premises-earlier sequents ks ss h.1)
premises-earlier sequents [] (s ∷ ss) h = absurd h
premises-earlier sequents (k ∷ ks) [] h = absurd h

All-drop : (P : ℕ → Type 0) (ks : List ℕ) → AllByRecursion P ks → AllByRecursion P (drop 1 ks)
All-drop P [] h = tt
All-drop P (k ∷ ks) h = h.1

-- and so are those that its proof needs
needed-premises : (P : ℕ → Type 0) (ss : List Sequent) (x : Step) → AllByRecursion P x.premises → AllByRecursion P (needed ss x).premises
needed-premises P ss x h = go (proves_nothing x.kind ss)
  where
    go : (b : Bool) → AllByRecursion P (cond b (restated x) x).premises
    go true = All-drop P x.premises h
    go false = h

content-renumbered : (number : ℕ → ℕ) (b : Bool) (kind : StepKind) (js : List ℕ) (ss : List Sequent) (g : Parameters) (s : Sequent)
    → renumbered_content number (content_by b kind js ss g s) ≡ content_by b kind (map number js) ss g s
content-renumbered number true kind js ss g s = refl
content-renumbered number false kind js ss g s = refl

-- a step with a proof needs its premises
needs-premise : (b : Bool) (kind : StepKind) (js : List ℕ) (ss : List Sequent) (g : Parameters) (s : Sequent) (j : ℕ) → b ≡ true → IsIn js j
    → IsIn (needs (content_by b kind js ss g s)) (number_key j)
needs-premise true kind js ss g s j e i = IsIn-left (sequent_keys s ++ map number_key js) (given_keys g) (number_key j)
    (IsIn-right (sequent_keys s) (map number_key js) (number_key j) (IsIn-map number_key js j i))
needs-premise false kind js ss g s j e i = absurd (cc)

abbrev pub nothing_said : Sequent
nothing_said = record { hypotheses = []; conclusion = bound 0 }

module _ (run : Accepted) (sound : IsSoundRun run) (earlier later : List Made) (x : Step) (whole : run.made ≡ earlier ++ Made.step x ∷ later) where
  abbrev before : List Item
  before = items_made run earlier

  abbrev z : Item
  z = record { symbol = length before; name = step_name run (length (steps_of earlier)) x.kind; content = step_content before x }

  -- the item of the step stands after those before it
  item-at : (rest : List Item) × (made_items run ≡ before ++ z ∷ rest)
  item-at =
      let r = items-stay run (earlier ++ Made.step x ∷ []) later (whole ∙ sym (append_assoc earlier (Made.step x ∷ []) later)) in
      (r.0, r.1 ∙ ap (λ l. l ++ r.0) (items-grow run earlier (Made.step x)) ∙ append_assoc before (z ∷ []) r.0)

  -- what is said so far is the first of what is said
  said-whole : (rest : List (ℕ × Sequent)) × (said_by (made_items run) ≡ said_by before ++ (length before, x.sequent) ∷ rest)
  said-whole =
      let at = item-at in
      (said_by at.0, ap said_by at.1 ∙ filter_map-append said_of before (z ∷ at.0) ∙ ap (λ l. said_by before ++ l) (said-step at.0))
    where
      said-step : (rest : List Item) → said_by (z ∷ rest) ≡ (length before, x.sequent) ∷ said_by rest
      said-step rest = ap (λ o. cons_option (option_map (λ (s : Sequent). (length before, s)) o) (said_by rest)) (step-says before x)

  said-length : length (said_by before) ≡ length (steps_of earlier)
  said-length = said-steps (name_in run) earlier

  step_item-is : step_item run (length (steps_of earlier)) ≡ length before
  step_item-is =
      let w = said-whole in
      ap (λ k. (premise_at (made_items run) k).0) (sym said-length)
      ∙ ap (λ (l : List (ℕ × Sequent)). (slice_index_or l (length (said_by before)) (0, nothing_said)).0) w.1
      ∙ ap (λ (p : ℕ × Sequent). p.0) (index-seam (said_by before) w.0 (length before, x.sequent) (0, nothing_said))

  -- an earlier step has the same item now as then
  premise-same : (k : ℕ) → k < length (steps_of earlier) → premise_at before k ≡ premise_at (made_items run) k
  premise-same k l =
      let w = said-whole in
      let long = said-length in
      sym (ap (λ l. slice_index_or l k (0, nothing_said)) w.1
      ∙ index-front (said_by before) ((length before, x.sequent) ∷ w.0) k (0, nothing_said) (omega (arith, l, long)))

  -- and it says what the step does
  premise-says : (k : ℕ) → (premise_at (made_items run) k).1 ≡ sequent_at run.made k
  premise-says k =
      index-map (λ (p : ℕ × Sequent). p.1) (said_by (made_items run)) k (0, nothing_said)
      ∙ ap (λ l. slice_index_or l k nothing_said) (made-joined (name_in run) run.made sound.proof sound.over).said

  is_step : IsStep earlier x
  is_step = each-at IsMade [] earlier later (Made.step x) (subst (EachAfter IsMade []) whole (each-after IsMade run.made sound.proof))

  all-earlier : AllByRecursion (λ k. k < length (steps_of earlier)) x.premises
  all-earlier =
      subst (λ n. AllByRecursion (λ k. k < n) x.premises) (length-map (steps_of earlier) (λ (y : Step). y.sequent))
      (premises-earlier (sequents_of earlier) x.premises is_step.premises is_step.earlier)

  abbrev used : Step
  used = used_step run x

  used-earlier : AllByRecursion (λ k. k < length (steps_of earlier)) used.premises
  used-earlier = needed-premises (λ k. k < length (steps_of earlier)) (map (sequent_at run.made) x.premises) x all-earlier

  -- what earlier steps say
  sequents-same : (ks : List ℕ) → AllByRecursion (λ k. k < length (steps_of earlier)) ks → sequents_at before ks ≡ map (sequent_at run.made) ks
  sequents-same ks h =
      map-each (λ k. (premise_at before k).1) (sequent_at run.made) ks
      (All-weaker (λ k. k < length (steps_of earlier)) (λ k. (premise_at before k).1 ≡ sequent_at run.made k)
      (λ k l. ap (λ (p : ℕ × Sequent). p.1) (premise-same k l) ∙ premise-says k) ks h)

  -- the content of the step
  content-used : step_content before x ≡ shown_content before used
  content-used = ap (λ ss. shown_content before (needed ss x)) (sequents-same x.premises all-earlier)

  numbers-same : map (module_number run) (map (λ k. (premise_at before k).0) used.premises) ≡ map (step_symbol run) used.premises
  numbers-same =
      map-twice (module_number run) (λ k. (premise_at before k).0) used.premises
      ∙ map-each (λ k. module_number run (premise_at before k).0) (step_symbol run) used.premises
      (All-weaker (λ k. k < length (steps_of earlier)) (λ k. module_number run (premise_at before k).0 ≡ step_symbol run k)
      (λ k l. ap (λ (p : ℕ × Sequent). module_number run p.0) (premise-same k l)) used.premises used-earlier)

  content-is : renumbered_content (module_number run) (step_content before x) ≡ module_content run used
  content-is =
      ap (renumbered_content (module_number run)) content-used
      ∙ content-renumbered (module_number run) (has_row used.kind) used.kind (map (λ k. (premise_at before k).0) used.premises)
      (sequents_at before used.premises) used.parameters used.sequent
      ∙ (λ i. content_by (has_row used.kind) used.kind (numbers-same i) (sequents-same used.premises used-earlier i) used.parameters used.sequent)

  -- what is kept with it
  kept-premises : is_kept run (length before) ≡ true → has_row x.kind ≡ true → AllByRecursion (λ k. is_kept run (step_item run k) ≡ true) used.premises
  kept-premises keep row = All-each (λ k. is_kept run (step_item run k) ≡ true) used.premises each
    where
      needs_kept : AreKept (is_kept run) before (needs (shown_content before used))
      needs_kept =
          let at = item-at in
          let roots = roots_of (name_in run) run.made run.exports in
          let numbered : AreNumbered (is_kept run) [] (made_items run) =
          made-numbered roots [] (made_items run) (tt {0}) (made-joined (name_in run) run.made sound.proof sound.over).order in
          subst (λ c. AreKept (is_kept run) before (needs c)) content-used
          (numbered-at (is_kept run) [] before at.0 z (subst (AreNumbered (is_kept run) []) at.1 numbered) keep)

      each : (k : ℕ) → IsIn used.premises k → is_kept run (step_item run k) ≡ true
      each k i =
          let l = All-at (λ k. k < length (steps_of earlier)) used.premises k used-earlier i in
          let long = said-length in
          let said = said-in before (premise_at before k) (index-IsIn (said_by before) k (0, nothing_said) (omega (arith, l, long))) in
          let w : Item = said.0 in
          let own : number_key (premise_at before k).0 ≡ gives w =
          ap number_key (sym said.2) ∙ sym (says-gives_of w.symbol w.content (premise_at before k).1 said.3) in
          let needed_key = needs-premise (has_row used.kind) used.kind (map (λ k. (premise_at before k).0) used.premises) (sequents_at before used.premises)
          used.parameters used.sequent (premise_at before k).0
          (needed-row (map (sequent_at run.made) x.premises) x ∙ row) (IsIn-map (λ k. (premise_at before k).0) used.premises k i) in
          sym (ap (λ (p : ℕ × Sequent). is_kept run p.0) (premise-same k l)) ∙ ap (is_kept run) (sym said.2)
          ∙ needs_kept w said.1 (subst (IsIn (needs (shown_content before used))) own needed_key)

-- The law of the next step
pub next-premises : NextPremises
next-premises run sound earlier later x whole = record {
  item = step_item-is run sound earlier later x whole;
  content = content-is run sound earlier later x whole;
  earlier_premises = used-earlier run sound earlier later x whole;
  kept_premises = kept-premises run sound earlier later x whole;
}
