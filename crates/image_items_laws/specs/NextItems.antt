-- What the next step and the next symbol of a run add to its module.
use Rattle.std.proofs.Common.{◌≡◌, ℕ, ◌+◌, List, [], ◌∷◌, ◌++◌, append_assoc, length, inl, refl, sym, ap, subst, ◌∙◌, arith}
use Rattle.std.specs.List.{AllByRecursion}
use Rattle.hol_laws.specs.Members.{IsIn-right, All-at}
use Rattle.hol_spec.specs.Definitions.{Definition}
use Rattle.hol_spec.specs.Proofs.{Made, Step, steps_of, Accepted}
use Rattle.hol_spec.specs.Symbols.{Symbol}
use Rattle.translate_spec.specs.Image.{symbol_name, step_name}
use Rattle.translate_spec.specs.Items.{Content, Item}
use Rattle.translate_spec.specs.MadeItems.{contents_of, step_content, numbered}
use Rattle.translate_spec.specs.Reach.{renumbered_content, renumbered}
use Rattle.image_items_laws.specs.MadeInOrder.{items-grow, items-stay, kept-stays, others-go}
use Rattle.image_items_laws.specs.Making.{items_made, made_items, module_number, kept_of, step_in_module, NextStepKept, NextStepGone, items_up_to, content_number, symbol_in_module, NextSymbolKept, NextSymbolGone}
use Rattle.image_items_laws.specs.NextSteps.{next-premises}

-- the items of a step, and then those of what is made later
module _ (run : Accepted) (earlier later : List Made) (x : Step) (whole : run.made ≡ earlier ++ Made.step x ∷ later) where
  abbrev step_item : Item
  step_item = record {
    symbol = length (items_made run earlier);
    name = step_name run (length (steps_of earlier)) x.kind;
    content =
        step_content (items_made run earlier) x;
  }

  step-items : (rest : List Item) × (made_items run ≡ items_made run earlier ++ step_item ∷ rest)
  step-items =
      let r = items-stay run (earlier ++ Made.step x ∷ []) later (whole ∙ sym (append_assoc earlier (Made.step x ∷ []) later)) in
      (r.0, r.1 ∙ ap (λ l. l ++ r.0) (items-grow run earlier (Made.step x)) ∙ append_assoc (items_made run earlier) (step_item ∷ []) r.0)

-- A step that is kept adds its item
pub next-step-kept : NextStepKept
next-step-kept run sound earlier later x whole keep =
    let items = step-items run earlier later x whole in
    let z = step_item run earlier later x whole in
    let k = kept-stays run (items_made run earlier) items.0 z items.1 keep in
    let same : renumbered (module_number run) z ≡ step_in_module run earlier x =
    λ i. record {
      symbol = module_number run (length (items_made run earlier));
      name = step_name run (length (steps_of earlier)) x.kind;
      content =
          (next-premises run sound earlier later x whole).content i;
    } in
    record {
      after = kept_of run items.0;
      whole = k.0 ∙ ap (λ y. kept_of run (items_made run earlier) ++ y ∷ kept_of run items.0) same;
      kept = ap (kept_of run) (items-grow run earlier (Made.step x)) ∙ k.1 ∙ ap (λ y. kept_of run (items_made run earlier) ++ y ∷ []) same;
    }

-- another adds nothing
pub next-step-gone : NextStepGone
next-step-gone run earlier later x whole gone =
    let items = step-items run earlier later x whole in
    ap (kept_of run) (items-grow run earlier (Made.step x)) ∙ others-go run (items_made run earlier) items.0 (step_item run earlier later x whole) items.1 gone

-- the contents of a symbol have no numbers
contents-renumbered : (number : ℕ → ℕ) (s : Symbol) → AllByRecursion (λ (c : Content). renumbered_content number c ≡ c) (contents_of s)
contents-renumbered number (Symbol.input_constant n) = (refl, tt {0})
contents-renumbered number (Symbol.input_operator n k) = (refl, tt {0})
contents-renumbered number (Symbol.defined (Definition.constant n t)) = (refl, tt {0})
contents-renumbered number (Symbol.defined (Definition.type_operator names a f)) = tt

pub numbered-append : (named : Content → List ℕ) (i : ℕ) (xs ys : List Content)
    → numbered named i (xs ++ ys) ≡ numbered named i xs ++ numbered named (i + length xs) ys
numbered-append named i [] ys = let z : i ≡ i + 0 = omega arith in ap (λ j. numbered named j ys) z
numbered-append named i (x ∷ xs) ys =
    let z : i + 1 + length xs ≡ i + length (x ∷ xs) = omega arith in
    ap (λ l. record { symbol = i; name = named x; content = x } ∷ l)
    (numbered-append named (i + 1) xs ys ∙ ap (λ j. numbered named (i + 1) xs ++ numbered named j ys) z)

module _ (run : Accepted) (earlier later : List Made) (s : Symbol) (whole : run.made ≡ earlier ++ Made.symbol s ∷ later) (front back : List Content)
    (c : Content) (among : contents_of s ≡ front ++ c ∷ back) where
  abbrev content_item : Item
  content_item = record { symbol = content_number run earlier front; name = symbol_name s; content = c }

  up-to : (xs ys : List Content) → items_up_to run earlier s (xs ++ ys) ≡ items_up_to run earlier s xs
      ++ numbered (λ (c : Content). symbol_name s) (content_number run earlier xs) ys
  up-to xs ys =
      let items = items_made run earlier in
      ap (λ l. items ++ l) (numbered-append (λ (c : Content). symbol_name s) (length items) xs ys)
      ∙ sym (append_assoc items (numbered (λ (c : Content). symbol_name s) (length items) xs)
      (numbered (λ (c : Content). symbol_name s) (length items + length xs) ys))

  symbol-items : (rest : List Item) × (made_items run ≡ items_up_to run earlier s front ++ content_item ∷ rest)
  symbol-items =
      let r = items-stay run (earlier ++ Made.symbol s ∷ []) later (whole ∙ sym (append_assoc earlier (Made.symbol s ∷ []) later)) in
      let others = numbered (λ (c : Content). symbol_name s) (content_number run earlier front + 1) back in
      let own : items_made run (earlier ++ Made.symbol s ∷ []) ≡ items_up_to run earlier s front ++ content_item ∷ others =
      items-grow run earlier (Made.symbol s) ∙ ap (items_up_to run earlier s) among ∙ up-to front (c ∷ back) in
      (others ++ r.0, r.1 ∙ ap (λ l. l ++ r.0) own ∙ append_assoc (items_up_to run earlier s front) (content_item ∷ others) r.0)

  same-item : renumbered (module_number run) content_item ≡ symbol_in_module run earlier s front c
  same-item =
      let e : renumbered_content (module_number run) c ≡ c =
      All-at (λ (c : Content). renumbered_content (module_number run) c ≡ c) (front ++ c ∷ back) c
      (subst (AllByRecursion (λ (c : Content). renumbered_content (module_number run) c ≡ c)) among (contents-renumbered (module_number run) s))
      (IsIn-right front (c ∷ back) c (inl refl)) in
      λ i. record { symbol = module_number run (content_number run earlier front); name = symbol_name s; content = e i }

-- A content of a symbol that is kept adds its item
pub next-symbol-kept : NextSymbolKept
next-symbol-kept run earlier later s whole front back c among keep =
    let items = symbol-items run earlier later s whole front back c among in
    let z = content_item run earlier later s whole front back c among in
    let same = same-item run earlier later s whole front back c among in
    let before = items_up_to run earlier s front in
    let k = kept-stays run before items.0 z items.1 keep in
    record {
      after = kept_of run items.0;
      whole = k.0 ∙ ap (λ y. kept_of run before ++ y ∷ kept_of run items.0) same;
      kept = ap (kept_of run) (up-to run earlier later s whole front back c among front (c ∷ [])) ∙ k.1 ∙ ap (λ y. kept_of run before ++ y ∷ []) same;
    }

-- another adds nothing
pub next-symbol-gone : NextSymbolGone
next-symbol-gone run earlier later s whole front back c among gone =
    let items = symbol-items run earlier later s whole front back c among in
    ap (kept_of run) (up-to run earlier later s whole front back c among front (c ∷ []))
    ∙ others-go run (items_up_to run earlier s front) items.0 (content_item run earlier later s whole front back c among) items.1 gone
