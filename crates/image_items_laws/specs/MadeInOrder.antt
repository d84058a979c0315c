-- The items of a run, in the order in which they were made, and those of them that its module has.
use Rattle.std.proofs.Common.{◌≡◌, ℕ, ◌+◌, List, [], ◌∷◌, ◌++◌, map, length, Bool, true, false, cond, Some, refl, sym, ap, subst, ◌∙◌, append_assoc}
use Rattle.std.specs.Option.{option_map}
use Rattle.std.specs.List.{cons_option}
use Rattle.std.proofs.lemmas.List.{append-nil, length-append, map-append}
use Rattle.std.proofs.lemmas.List.Elements.{filter_map-append}
use Rattle.article_spec.specs.SoundRuns.{IsSoundRun}
use Rattle.hol_laws.specs.Members.{All-weaker}
use Rattle.hol_spec.specs.Definitions.{Definition}
use Rattle.hol_spec.specs.Proofs.{Made, Step, steps_of, Accepted}
use Rattle.hol_spec.specs.Sequents.{Sequent}
use Rattle.hol_spec.specs.Symbols.{Symbol}
use Rattle.lp_spec.specs.Lemmas.{lemmas}
use Rattle.lp_spec.specs.ModuleOrder.{MayFollow}
use Rattle.lp_spec.specs.ModuleOrder as order
use Rattle.lp_spec.specs.Modules.{Declaration, signature}
use Rattle.translate_laws.specs.AcceptedItems.{made-joined, says-step}
use Rattle.translate_laws.specs.ItemShapes.{reached-shaped, reached-WellTyped}
use Rattle.translate_laws.specs.KeptModules.{image-made}
use Rattle.translate_laws.specs.MadeModules.{AreMade}
use Rattle.translate_laws.specs.NeededSteps.{needed-sequent}
use Rattle.translate_laws.specs.PricedModules.{reached-priced}
use Rattle.translate_laws.specs.WantedItems.{made-numbered}
use Rattle.translate_spec.specs.Image.{name_in, image}
use Rattle.translate_spec.specs.Items.{Content, Item, says, declaration, module_of}
use Rattle.translate_spec.specs.MadeItems.{Naming, contents_of, said_of, said_by, premise_at, needed, sequents_at, step_content, contents, numbered, items_after, items_of, roots_of}
use Rattle.translate_spec.specs.Reach.{kept, renumbered}
use Rattle.translate_spec.specs.Rows.{has_row}
use Rattle.translate_spec.specs.Scopes.{SymbolMap}
use Rattle.hol_proof_laws.specs.ProofGrowth.{steps_of-append}
use Rattle.image_laws.specs.AcceptedRuns.{step-said}
use Rattle.image_laws.specs.RunModules.{image-IsModule}
use Rattle.image_items_laws.specs.DeclaredNumbers.{made-back}
use Rattle.image_items_laws.specs.Making.{items_made, made_items, is_kept, module_number, kept_of, kept_items, kept_symbols, NextFollows, NextMade, ItemsGrow, ItemsStay, KeptStays, OthersGo, SoundCarried}

-- A run that is sound is carried
pub sound-carried : SoundCarried
sound-carried named run sound =
    let ordered = (made-joined named run.made sound.proof sound.over).order in
    let roots = roots_of named run.made run.exports in
    record {
      in_order = ordered;
      exports = All-weaker _ _ (λ k h. step-said named run.made sound.proof sound.over k h.step) run.exports sound.exports;
      shaped = reached-shaped roots (items_of named run.made) ordered;
      typed = reached-WellTyped roots (items_of named run.made) ordered;
      priced = λ i d e. reached-priced roots (items_of named run.made) ordered i d e;
    }

-- the items of its module are made in order
pub kept-made : (run : Accepted) → IsSoundRun run → AreMade [] (kept_items run)
kept-made run sound =
    image-made (is_kept run) [] (made_items run) refl
    (made-numbered (roots_of (name_in run) run.made run.exports) [] (made_items run) (tt {0}) (made-joined (name_in run) run.made sound.proof sound.over).order)

-- The next item is made in order
pub next-made : NextMade
next-made run sound before after x whole =
    let h : AreMade before (x ∷ after) = made-back [] before (x ∷ after) (subst (AreMade []) whole (kept-made run sound)) in
    record { symbol = h.0; new = h.1; content = h.2 }

-- each of a module's declarations may follow those before it
declared-at : (before ds es : List Declaration) (d : Declaration) → order.AreDeclared before (ds ++ d ∷ es) → MayFollow (before ++ ds) d
declared-at before [] es d h = subst (λ l. MayFollow l d) (sym (append-nil before)) h.0
declared-at before (c ∷ ds) es d h = subst (λ l. MayFollow l d) (append_assoc before (c ∷ []) ds) (declared-at (before ++ c ∷ []) ds es d h.1)

module-split : (symbols : SymbolMap) (before after : List Item) (x : Item) → module_of symbols (before ++ x ∷ after) ≡ module_of symbols before
    ++ declaration symbols x ∷ map (declaration symbols) after
module-split symbols before after x =
    let D = declaration symbols in ap (λ l. lemmas ++ l) (map-append D before (x ∷ after)) ∙ sym (append_assoc lemmas (map D before) (D x ∷ map D after))

-- And its declaration may follow
pub next-follows : NextFollows
next-follows run sound named before after x whole =
    let symbols = kept_symbols run in
    let same : image run ≡ module_of symbols before ++ declaration symbols x ∷ map (declaration symbols) after =
    ap (module_of symbols) whole ∙ module-split symbols before after x in
    declared-at signature (module_of symbols before) (map (declaration symbols) after) (declaration symbols x)
    (subst (order.AreDeclared signature) same (image-IsModule run named sound (sound-carried (name_in run) run sound)))

-- what is kept of two lists is kept of each
kept-append : (keep : ℕ → Bool) (xs ys : List Item) → kept keep (xs ++ ys) ≡ kept keep xs ++ kept keep ys
kept-append keep [] ys = refl
kept-append keep (x ∷ xs) ys = go (keep x.symbol) (kept-append keep xs ys)
  where
    go : (b : Bool) → kept keep (xs ++ ys) ≡ kept keep xs ++ kept keep ys
        → cond b (x ∷ kept keep (xs ++ ys)) (kept keep (xs ++ ys)) ≡ cond b (x ∷ kept keep xs) (kept keep xs) ++ kept keep ys
    go true e = ap (λ l. x ∷ l) e
    go false e = e

module _ (run : Accepted) where
  abbrev number : Item → Item
  number = renumbered (module_number run)

  pub kept_of-append : (xs ys : List Item) → kept_of run (xs ++ ys) ≡ kept_of run xs ++ kept_of run ys
  kept_of-append xs ys = ap (map number) (kept-append (is_kept run) xs ys) ∙ map-append number (kept (is_kept run) xs) (kept (is_kept run) ys)

  kept-item : (z : Item) (xs : List Item) → is_kept run z.symbol ≡ true → kept_of run (z ∷ xs) ≡ number z ∷ kept_of run xs
  kept-item z xs e = ap (λ b. map number (cond b (z ∷ kept (is_kept run) xs) (kept (is_kept run) xs))) e

  other-item : (z : Item) (xs : List Item) → is_kept run z.symbol ≡ false → kept_of run (z ∷ xs) ≡ kept_of run xs
  other-item z xs e = ap (λ b. map number (cond b (z ∷ kept (is_kept run) xs) (kept (is_kept run) xs))) e

-- A kept item stands in the module after those of what was made before it
pub kept-stays : KeptStays
kept-stays run earlier later z whole e = (
  ap (kept_of run) whole ∙ kept_of-append run earlier (z ∷ later) ∙ ap (λ l. kept_of run earlier ++ l) (kept-item run z later e),
  kept_of-append run earlier (z ∷ []) ∙ ap (λ l. kept_of run earlier ++ l) (kept-item run z [] e),
)

-- another isn't among them
pub others-go : OthersGo
others-go run earlier later z whole e =
    kept_of-append run earlier (z ∷ []) ∙ ap (λ l. kept_of run earlier ++ l) (other-item run z [] e) ∙ append-nil (kept_of run earlier)

-- the items of a symbol say nothing, and that of a step one sequent
symbol-said : (name : Content → List ℕ) (i : ℕ) (x : Symbol) → said_by (numbered name i (contents_of x)) ≡ []
symbol-said name i (Symbol.input_constant n) = refl
symbol-said name i (Symbol.input_operator n k) = refl
symbol-said name i (Symbol.defined (Definition.constant n t)) = refl
symbol-said name i (Symbol.defined (Definition.type_operator names a f)) = refl

pub step-says : (before : List Item) (x : Step) → says (step_content before x) ≡ Some x.sequent
step-says before x =
    let ss = sequents_at before x.premises in
    let y = needed ss x in
    says-step (has_row y.kind) y.kind (map (λ k. (premise_at before k).0) y.premises) (sequents_at before y.premises) y.parameters y.sequent
    ∙ ap Some (needed-sequent ss x)

new-said : (before : List Item) (x : Made) (name : Content → List ℕ) (i : ℕ)
    → length (said_by (numbered name i (contents before x))) ≡ length (steps_of (x ∷ []))
new-said before (Made.symbol x) name i = ap (λ (l : List (ℕ × Sequent)). length l) (symbol-said name i x)
new-said before (Made.type_definition names a f k) name i = refl
new-said before (Made.step x) name i = ap (λ o. length {A = ℕ × Sequent} (cons_option (option_map (λ (s : Sequent). (i, s)) o) [])) (step-says before x)

module _ (named : Naming) where
  -- what is made later stands after the items of what was made
  items_after-append : (before : List Item) (xs ys : List Made) → items_after named before (xs ++ ys) ≡ items_after named (items_after named before xs) ys
  items_after-append before [] ys = refl
  items_after-append before (x ∷ xs) ys = items_after-append (before ++ numbered (named (length (said_by before)) x) (length before) (contents before x)) xs ys

  pub items_after-rest : (before : List Item) (xs : List Made) → (rest : List Item) × (items_after named before xs ≡ before ++ rest)
  items_after-rest before [] = ([], sym (append-nil before))
  items_after-rest before (x ∷ xs) =
      let new = numbered (named (length (said_by before)) x) (length before) (contents before x) in
      let r = items_after-rest (before ++ new) xs in
      (new ++ r.0, r.1 ∙ append_assoc before new r.0)

  -- as many say something as steps were made
  said-after : (before : List Item) (made xs : List Made) → length (said_by before) ≡ length (steps_of made)
      → length (said_by (items_after named before xs)) ≡ length (steps_of (made ++ xs))
  said-after before made [] e = e ∙ ap (λ l. length (steps_of l)) (sym (append-nil made))
  said-after before made (x ∷ xs) e =
      let name = named (length (said_by before)) x in
      let new = numbered name (length before) (contents before x) in
      let one : length (said_by (before ++ new)) ≡ length (steps_of (made ++ x ∷ [])) =
      ap (λ (l : List (ℕ × Sequent)). length l) (filter_map-append said_of before new) ∙ length-append (said_by before) (said_by new)
      ∙ (λ i. e i + new-said before x name (length before) i)
      ∙ sym (ap (λ (l : List Step). length l) (steps_of-append made (x ∷ [])) ∙ length-append (steps_of made) (steps_of (x ∷ []))) in
      said-after (before ++ new) (made ++ x ∷ []) xs one ∙ ap (λ l. length (steps_of l)) (append_assoc made (x ∷ []) xs)

  pub said-steps : (made : List Made) → length (said_by (items_of named made)) ≡ length (steps_of made)
  said-steps made = said-after [] [] made refl

-- The items of one thing more
pub items-grow : ItemsGrow
items-grow run earlier y =
    let items = items_made run earlier in
    items_after-append (name_in run) [] earlier (y ∷ [])
    ∙ ap (λ n. items ++ numbered (name_in run n y) (length items) (contents items y)) (said-steps (name_in run) earlier)

-- And what was made keeps its items
pub items-stay : ItemsStay
items-stay run earlier later whole =
    let r = items_after-rest (name_in run) (items_made run earlier) later in
    (r.0, ap (items_of (name_in run)) whole ∙ items_after-append (name_in run) [] earlier later ∙ r.1)
