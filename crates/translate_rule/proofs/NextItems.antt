-- The next item of a run: what it adds to the module, for each content of a symbol and for a step.
use Rattle.std.proofs.Common.{◌≡◌, ℕ, suc, ◌+◌, ◌<◌, ◌≤◌, ◌⊎◌, inl, inr, Bool, true, false, refl, sym, ap, ◌∙◌, subst, arith, append_assoc, append-nil, List, [], ◌∷◌, ◌++◌, length, map}
use Rattle.std.specs.List.{AllByRecursion}
use Rattle.std.proofs.lemmas.Bool.{cases_lt}
use Rattle.std.proofs.lemmas.List.{length-append, length-map}
use Rattle.article_spec.specs.SoundRuns.{IsSoundRun}
use Rattle.hol_spec.specs.Proofs.{Made, Step, steps_of, sequent_at, Accepted}
use Rattle.hol_spec.specs.Rules.{Parameters}
use Rattle.hol_spec.specs.Sequents.{Sequent}
use Rattle.hol_spec.specs.Symbols.{Symbol}
use Rattle.hol_spec.specs.declared.StepKind.{StepKind}
use Rattle.hol_rules.specs.Kept.{Kept}
use Rattle.lp_spec.specs.Lemmas.{lemmas}
use Rattle.lp_spec.specs.Modules.{Declaration, signature}
use Rattle.translate_laws.specs.NeededSteps.{needed-row}
use Rattle.translate_spec.specs.Image.{symbol_name, step_name}
use Rattle.translate_spec.specs.Items.{Content, Item, declaration}
use Rattle.translate_spec.specs.MadeItems.{contents_of, content_by, contents, needed, numbered}
use Rattle.translate_spec.specs.Rows.{has_row}
use Rattle.image_items_laws.specs.MadeInOrder.{items-grow, items-stay, next-made}
use Rattle.image_items_laws.specs.Making.{items_made, made_items, is_kept, module_number, kept_of, kept_symbols, declared, step_item, step_symbol, used_step, module_content, items_up_to, content_number, step_in_module, symbol_in_module}
use Rattle.image_items_laws.specs.NextItems.{next-step-kept, next-step-gone, next-symbol-kept, next-symbol-gone}
use Rattle.image_items_laws.specs.NextSteps.{next-premises}
use Rattle.image_items_laws.specs.Positions.{index-front, index-seam}
use Rattle.translate_rule.specs.declared.items.Item.{Item as AnItem}
use Rattle.translate_rule.specs.declared.items.Item.TheVariants as item
use Rattle.translate_rule.specs.declared.run.Run.{Run}
use Rattle.translate_rule.specs.ItemViews.{accepted, item_name, item_content, IsItemKnown}
use Rattle.translate_rule.specs.Building.{HaveNumbers, IsKeptItem, IsNextItem}
use Rattle.translate_rule.specs.Steps.{symbol_in, needed_at, content_at}
use Rattle.translate_rule.proofs.RunLaws.{step-there, step-within, steps-more}

numbered-length : (named : Content → List ℕ) (i : ℕ) (cs : List Content) → length (numbered named i cs) ≡ length cs
numbered-length named i [] = refl
numbered-length named i (c ∷ cs) = ap suc (numbered-length named (i + 1) cs)

-- What is made next, but for a step: items under such names
module _ (run : Accepted) (earlier later : List Made) (y : Made) (whole : run.made ≡ earlier ++ y ∷ later) (named : Content → List ℕ) where
  abbrev pub up_to : List Content → List Item
  up_to cs = items_made run earlier ++ numbered named (length (items_made run earlier)) cs

  abbrev own : List Content
  own = contents (items_made run earlier) y

  up-to-length : (cs : List Content) → length (up_to cs) ≡ content_number run earlier cs
  up-to-length cs =
      let items = items_made run earlier in
      length-append items (numbered named (length items) cs) ∙ ap (λ n. length items + n) (numbered-length named (length items) cs)

  -- the item of a content, which adds something or nothing
  pub content-next : items_made run (earlier ++ y ∷ []) ≡ up_to own → (front back : List Content) (c : Content) → own ≡ front ++ c ∷ back
      → (k : Kept) (numbers : List ℕ) (one : AnItem)
      → (is_kept run (content_number run earlier front) ≡ true → IsKeptItem run (up_to front) (up_to (front ++ c ∷ [])) k numbers one)
      → (is_kept run (content_number run earlier front) ≡ false → kept_of run (up_to (front ++ c ∷ [])) ≡ kept_of run (up_to front))
      → IsNextItem run (up_to front) (up_to (front ++ c ∷ [])) k numbers one
  content-next all front back c among k numbers one kept gone =
      let here = up-to-length front in
      let stay = items-stay run (earlier ++ y ∷ []) later (whole ∙ sym (append_assoc earlier (y ∷ []) later)) in
      let count : length (made_items run) ≡ length (items_made run (earlier ++ y ∷ [])) + length stay.0 =
      ap length stay.1 ∙ length-append (items_made run (earlier ++ y ∷ [])) stay.0 in
      let grown : length (items_made run (earlier ++ y ∷ [])) ≡ content_number run earlier own = ap length all ∙ up-to-length own in
      let some : length own ≡ length front + length (c ∷ back) = ap length among ∙ length-append front (c ∷ back) in
      record {
        within = omega (arith, here, count, grown, some);
        more = let two = up-to-length (front ++ c ∷ []) in let three = length-append front (c ∷ []) in omega (arith, here, two, three);
        kept = λ e. kept (subst (λ n. is_kept run n ≡ true) here e);
        gone = λ e. gone (subst (λ n. is_kept run n ≡ false) here e);
      }

-- The one content of a symbol
pub only-content : (run : Accepted) (earlier later : List Made) (s : Symbol) → run.made ≡ earlier ++ Made.symbol s ∷ later → (c : Content) → contents_of s
    ≡ c ∷ [] → (k : Kept) (numbers : List ℕ) (one : AnItem) → symbol_name s ≡ item_name run one
    → c ≡ item_content k numbers one → IsItemKnown k numbers one
    → IsNextItem run (items_made run earlier) (items_made run (earlier ++ Made.symbol s ∷ [])) k numbers one
only-content run earlier later s whole c among k numbers one name content known =
    let items = items_made run earlier in
    let grown = items_made run (earlier ++ Made.symbol s ∷ []) in
    let all : grown ≡ items_up_to run earlier s (contents_of s) = items-grow run earlier (Made.symbol s) in
    subst (λ l. IsNextItem run l grown k numbers one) (append-nil items)
    (subst (λ l. IsNextItem run (items_up_to run earlier s []) l k numbers one) (sym (all ∙ ap (items_up_to run earlier s) among))
    (content-next run earlier later (Made.symbol s) whole (λ (c : Content). symbol_name s) all [] [] c among k numbers one
    (λ e. record {
      x = symbol_in_module run earlier s [] c;
      next = next-symbol-kept run earlier later s whole [] [] c among e;
      name = name;
      content =
          content;
      known = known;
    })
    (λ e. next-symbol-gone run earlier later s whole [] [] c among e)))

-- A step
content-premises : (b : Bool) (kind : StepKind) (js ks : List ℕ) (ss : List Sequent) (g : Parameters) (s : Sequent) → (b ≡ true → js ≡ ks)
    → content_by b kind js ss g s ≡ content_by b kind ks ss g s
content-premises true kind js ks ss g s h = ap (λ l. content_by true kind l ss g s) (h refl)
content-premises false kind js ks ss g s h = refl

numbers-of : (run : Accepted) (earlier : List Made) (numbers : List ℕ) → HaveNumbers run earlier numbers → (ks : List ℕ)
    → AllByRecursion (λ k. k < length (steps_of earlier)) ks → AllByRecursion (λ k. is_kept run (step_item run k) ≡ true) ks
    → map (step_symbol run) ks ≡ map (symbol_in numbers) ks
numbers-of run earlier numbers have [] h l = refl
numbers-of run earlier numbers have (k ∷ ks) h l = λ i. sym (have k h.0 l.0) i ∷ numbers-of run earlier numbers have ks h.1 l.1 i

module _ (r : Run) (sound : IsSoundRun (accepted r)) (earlier later : List Made) (x : Step) (whole : r.proof.now.made ≡ earlier ++ Made.step x ∷ later) where
  abbrev run : Accepted
  run = accepted r

  abbrev k : Kept
  k = r.proof.now

  abbrev id : ℕ
  id = length (steps_of earlier)

  needed-here : needed_at k.made id ≡ used_step run x
  needed-here = ap (λ y. needed (map (sequent_at k.made) y.premises) y) (step-there k.made earlier later x whole)

  content-here : (numbers : List ℕ) → HaveNumbers run earlier numbers → is_kept run (length (items_made run earlier)) ≡ true
      → module_content run (used_step run x) ≡ content_at numbers k.made id
  content-here numbers have keep =
      let law = next-premises run sound earlier later x whole in
      let used = used_step run x in
      content-premises (has_row used.kind) used.kind (map (step_symbol run) used.premises) (map (symbol_in numbers) used.premises)
      (map (sequent_at run.made) used.premises) used.parameters used.sequent
      (λ row. numbers-of run earlier numbers have used.premises law.earlier_premises
      (law.kept_premises keep (sym (needed-row (map (sequent_at run.made) x.premises) x) ∙ row)))
      ∙ ap (λ y. content_by (has_row y.kind) y.kind (map (symbol_in numbers) y.premises) (map (sequent_at k.made) y.premises) y.parameters y.sequent)
      (sym needed-here)

  pub next-step : (numbers : List ℕ) → length numbers ≡ id → HaveNumbers run earlier numbers
      → IsNextItem run (items_made run earlier) (items_made run (earlier ++ Made.step x ∷ [])) k numbers (item.Step id)
  next-step numbers long have =
      let items = items_made run earlier in
      let stay = items-stay run (earlier ++ Made.step x ∷ []) later (whole ∙ sym (append_assoc earlier (Made.step x ∷ []) later)) in
      let own : length (items_made run (earlier ++ Made.step x ∷ [])) ≡ length items + 1 =
      ap length (items-grow run earlier (Made.step x)) ∙ length-append items _ in
      let all : length (made_items run) ≡ length (items_made run (earlier ++ Made.step x ∷ [])) + length stay.0 =
      ap length stay.1 ∙ length-append (items_made run (earlier ++ Made.step x ∷ [])) stay.0 in
      record {
        within = omega (arith, own, all);
        more = own;
        kept = λ e. record {
          x = step_in_module run earlier x;
          next = next-step-kept run sound earlier later x whole e;
          name = ap (λ y. step_name run id y.kind) (sym (step-there k.made earlier later x whole));
          content = content-here numbers have e;
          known = (step-within k.made earlier later x whole, let l : id ≤ length numbers = omega (arith, long) in l);
        };
        gone = λ e. next-step-gone run earlier later x whole e;
      }

  -- the symbol of the next declaration is its own
  pub next-number : (ds : List Declaration) → ds ≡ declared run (kept_of run (items_made run earlier)) → (n : ℕ) → n ≡ length signature + length ds
      → is_kept run (step_item run id) ≡ true → n ≡ step_symbol run id
  next-number ds declared n is keep =
      let items = items_made run earlier in
      let law = next-premises run sound earlier later x whole in
      let next = next-step-kept run sound earlier later x whole (subst (λ j. is_kept run j ≡ true) law.item keep) in
      let own = (next-made run sound (kept_of run items) next.after (step_in_module run earlier x) next.whole).symbol in
      let long : length ds ≡ length lemmas + length (kept_of run items) =
      ap length declared ∙ length-append lemmas (map (declaration (kept_symbols run)) (kept_of run items))
      ∙ ap (λ m. length lemmas + m) (length-map (kept_of run items) (declaration (kept_symbols run))) in
      is ∙ ap (λ m. length signature + m) long ∙ sym own ∙ ap (λ j. module_number run j) (sym law.item)

  pub numbers-more : (numbers more : List ℕ) (n : ℕ) → more ≡ numbers ++ n ∷ [] → length numbers ≡ id
      → (is_kept run (step_item run id) ≡ true → n ≡ step_symbol run id) → HaveNumbers run earlier numbers → HaveNumbers run (earlier ++ Made.step x ∷ []) more
  numbers-more numbers more n put long own have j l keep =
      let count = steps-more earlier x in
      ap (λ l. symbol_in l j) put ∙ go (cases_lt j id) (omega (arith, l, count))
    where
      go : (j < id) ⊎ (id ≤ j) → j ≤ id → symbol_in (numbers ++ n ∷ []) j ≡ step_symbol run j
      go (inl b) m = index-front numbers (n ∷ []) j 0 (omega (arith, b, long)) ∙ have j b keep
      go (inr b) m =
          let same : j ≡ id = omega (arith, b, m) in
          let place : j ≡ length numbers = omega (arith, same, long) in
          ap (λ p. symbol_in (numbers ++ n ∷ []) p) place ∙ index-seam numbers [] n 0 ∙ own (subst (λ p. is_kept run (step_item run p) ≡ true) same keep)
          ∙ ap (step_symbol run) (sym same)
