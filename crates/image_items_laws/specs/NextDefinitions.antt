-- What the next type definition of a run adds to its module, and what its premise is.
use Rattle.std.proofs.Common.{◌≡◌, ℕ, ◌+◌, ◌<◌, List, [], ◌∷◌, ◌++◌, append_assoc, length, true, inl, refl, sym, ap, subst, ◌∙◌, arith}
use Rattle.std.specs.Prelude.{slice_index_or}
use Rattle.std.specs.List.{AllByRecursion}
use Rattle.std.proofs.lemmas.List.{length-map}
use Rattle.std.proofs.lemmas.List.Elements.{filter_map-append}
use Rattle.article_spec.specs.SoundRuns.{IsSoundRun}
use Rattle.hol_laws.specs.Members.{IsIn-left, IsIn-right, All-at}
use Rattle.hol_spec.specs.Definitions.{TypeNames}
use Rattle.hol_spec.specs.Lists.{IsIn}
use Rattle.hol_spec.specs.Proofs.{Made, Step, steps_of, sequents_of, sequent_at, IsMade, IsDefinedBy, Accepted}
use Rattle.hol_spec.specs.Sequents.{Sequent}
use Rattle.hol_spec.specs.Terms.{Term}
use Rattle.hol_spec.specs.Types.{HolType}
use Rattle.translate_laws.specs.AcceptedItems.{EachAfter, each-after, made-joined, said-in}
use Rattle.translate_laws.specs.KeptModules.{AreKept, AreNumbered}
use Rattle.translate_laws.specs.SaidItems.{says-gives_of}
use Rattle.translate_laws.specs.WantedItems.{made-numbered}
use Rattle.translate_spec.specs.Image.{name_in, type_definition_name}
use Rattle.translate_spec.specs.Items.{Content, Item}
use Rattle.translate_spec.specs.MadeItems.{type_contents, said_of, said_by, premise_at, numbered, roots_of}
use Rattle.translate_spec.specs.Reach.{number_key, needs, gives}
use Rattle.image_items_laws.specs.MadeInOrder.{items-grow, items-stay, kept-stays, others-go, said-steps}
use Rattle.image_items_laws.specs.Making.{items_made, made_items, is_kept, kept_of, step_item, content_number, definition_up_to, AreDefinitionContents, NextDefinitionKept, NextDefinitionGone, NextDefinition}
use Rattle.image_items_laws.specs.NextItems.{numbered-append}
use Rattle.image_items_laws.specs.NextSteps.{each-at, numbered-at, nothing_said}
use Rattle.image_items_laws.specs.Positions.{index-front, index-map, index-IsIn, get-within}

module _ (run : Accepted) (earlier later : List Made) (names : TypeNames) (a : HolType) (f : Term) (k : ℕ)
    (whole : run.made ≡ earlier ++ Made.type_definition names a f k ∷ later) where
  abbrev before : List Item
  before = items_made run earlier

  abbrev own : List Content
  own = type_contents names a f (premise_at before k)

  -- the items of the definition, and then those of what is made later
  definition-items : (rest : List Item) × (made_items run ≡ (before ++ numbered type_definition_name (length before) own) ++ rest)
  definition-items =
      let r = items-stay run (earlier ++ Made.type_definition names a f k ∷ []) later
      (whole ∙ sym (append_assoc earlier (Made.type_definition names a f k ∷ []) later)) in
      (r.0, r.1 ∙ ap (λ l. l ++ r.0) (items-grow run earlier (Made.type_definition names a f k)))

  up-to : (xs ys : List Content)
      → definition_up_to run earlier (xs ++ ys) ≡ definition_up_to run earlier xs ++ numbered type_definition_name (content_number run earlier xs) ys
  up-to xs ys =
      ap (λ l. before ++ l) (numbered-append type_definition_name (length before) xs ys)
      ∙ sym (append_assoc before (numbered type_definition_name (length before) xs) (numbered type_definition_name (length before + length xs) ys))

  module _ (front back : List Content) (c : Content) (among : AreDefinitionContents run earlier names a f k (front ++ c ∷ back)) where
    abbrev content_item : Item
    content_item = record { symbol = content_number run earlier front; name = type_definition_name c; content = c }

    content-items : (rest : List Item) × (made_items run ≡ definition_up_to run earlier front ++ content_item ∷ rest)
    content-items =
        let items = definition-items in
        let others = numbered type_definition_name (content_number run earlier front + 1) back in (
          others ++ items.0,
          items.1 ∙ ap (λ cs. definition_up_to run earlier cs ++ items.0) among ∙ ap (λ l. l ++ items.0) (up-to front (c ∷ back))
              ∙ append_assoc (definition_up_to run earlier front) (content_item ∷ others) items.0,
        )

-- A content of a type definition that is kept adds its item
pub next-definition-kept : NextDefinitionKept
next-definition-kept run earlier later names a f k whole front back c among keep =
    let items = content-items run earlier later names a f k whole front back c among in
    let z = content_item run earlier later names a f k whole front back c among in
    let so_far = definition_up_to run earlier front in
    let stays = kept-stays run so_far items.0 z items.1 keep in
    record { after = kept_of run items.0; whole = stays.0; kept = ap (kept_of run) (up-to run earlier later names a f k whole front (c ∷ [])) ∙ stays.1 }

-- another adds nothing
pub next-definition-gone : NextDefinitionGone
next-definition-gone run earlier later names a f k whole front back c among gone =
    let items = content-items run earlier later names a f k whole front back c among in
    ap (kept_of run) (up-to run earlier later names a f k whole front (c ∷ []))
    ∙ others-go run (definition_up_to run earlier front) items.0 (content_item run earlier later names a f k whole front back c among) items.1 gone

-- each content needs the premise
contents-need : (names : TypeNames) (a : HolType) (f : Term) (one : ℕ × Sequent)
    → AllByRecursion (λ c. IsIn (needs c) (number_key one.0)) (type_contents names a f one)
contents-need names a f one = (inl refl, (inl refl, (inl refl, tt {0})))

module _ (run : Accepted) (sound : IsSoundRun run) (earlier later : List Made) (names : TypeNames) (a : HolType) (f : Term) (k : ℕ)
    (whole : run.made ≡ earlier ++ Made.type_definition names a f k ∷ later) where
  abbrev so_far : List Item
  so_far = items_made run earlier

  is-defined : IsDefinedBy earlier names a f k
  is-defined = each-at IsMade [] earlier later (Made.type_definition names a f k) (subst (EachAfter IsMade []) whole (each-after IsMade run.made sound.proof))

  premise-earlier : k < length (steps_of earlier)
  premise-earlier =
      let l = get-within (sequents_of earlier) k is-defined.one is-defined.at in
      let same = length-map (steps_of earlier) (λ (y : Step). y.sequent) in
      omega (arith, l, same)

  said-whole : (rest : List (ℕ × Sequent)) × (said_by (made_items run) ≡ said_by so_far ++ rest)
  said-whole =
      let items = definition-items run earlier later names a f k whole in
      let new = numbered type_definition_name (length so_far) (type_contents names a f (premise_at so_far k)) in
      (said_by (new ++ items.0), ap said_by (items.1 ∙ append_assoc so_far new items.0) ∙ filter_map-append said_of so_far (new ++ items.0))

  said-length : length (said_by so_far) ≡ length (steps_of earlier)
  said-length = said-steps (name_in run) earlier

  premise-within : k < length (said_by so_far)
  premise-within = let l = premise-earlier in let long = said-length in omega (arith, l, long)

  premise-same : premise_at so_far k ≡ premise_at (made_items run) k
  premise-same = let w = said-whole in sym
      (ap (λ l. slice_index_or l k (0, nothing_said)) w.1 ∙ index-front (said_by so_far) w.0 k (0, nothing_said) premise-within)

  premise-says : (premise_at (made_items run) k).1 ≡ sequent_at run.made k
  premise-says =
      index-map (λ (p : ℕ × Sequent). p.1) (said_by (made_items run)) k (0, nothing_said)
      ∙ ap (λ l. slice_index_or l k nothing_said) (made-joined (name_in run) run.made sound.proof sound.over).said

  kept-premise : (front back : List Content) (c : Content) → AreDefinitionContents run earlier names a f k (front ++ c ∷ back)
      → is_kept run (content_number run earlier front) ≡ true → is_kept run (step_item run k) ≡ true
  kept-premise front back c among keep =
      let at = content-items run earlier later names a f k whole front back c among in
      let z = content_item run earlier later names a f k whole front back c among in
      let roots = roots_of (name_in run) run.made run.exports in
      let in_order : AreNumbered (is_kept run) [] (made_items run) =
      made-numbered roots [] (made_items run) (tt {0}) (made-joined (name_in run) run.made sound.proof sound.over).order in
      let needs_kept : AreKept (is_kept run) (definition_up_to run earlier front) (needs c) =
      numbered-at (is_kept run) [] (definition_up_to run earlier front) at.0 z (subst (AreNumbered (is_kept run) []) at.1 in_order) keep in
      let said = said-in so_far (premise_at so_far k) (index-IsIn (said_by so_far) k (0, nothing_said) premise-within) in
      let w : Item = said.0 in
      let gives_it : number_key (premise_at so_far k).0 ≡ gives w =
      ap number_key (sym said.2) ∙ sym (says-gives_of w.symbol w.content (premise_at so_far k).1 said.3) in
      let P = λ (c : Content). IsIn (needs c) (number_key (premise_at so_far k).0) in
      let need : IsIn (needs c) (number_key (premise_at so_far k).0) =
      All-at P (front ++ c ∷ back) c (subst (AllByRecursion P) among (contents-need names a f (premise_at so_far k))) (IsIn-right front (c ∷ back) c (inl refl))
      in
      let there : IsIn (definition_up_to run earlier front) w = IsIn-left so_far (numbered type_definition_name (length so_far) front) w said.1 in
      sym (ap (λ (p : ℕ × Sequent). is_kept run p.0) premise-same) ∙ ap (is_kept run) (sym said.2) ∙ needs_kept w there (subst (IsIn (needs c)) gives_it need)

-- The law of the next type definition
pub next-definition : NextDefinition
next-definition run sound earlier later names a f k whole = record {
  premise = premise-same run sound earlier later names a f k whole
      ∙ (λ i. ((premise_at (made_items run) k).0, premise-says run sound earlier later names a f k whole i));
  earlier_premise = premise-earlier run sound earlier later names a f k whole;
  kept_premise = kept-premise run sound earlier later names a f k whole;
}
