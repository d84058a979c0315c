-- One more item is listed.
use Rattle.std.proofs.Common.{◌≡◌, ℕ, ◌+◌, ◌<◌, List, [], ◌∷◌, ◌++◌, map, length, Bool, true, false, cond, Option, Some, None, inl, inr, refl, sym, ap, subst, ◌∙◌, arith}
use Rattle.std.specs.Cmp.{unsigned_Decides}
use Rattle.std.specs.Option.{option_map}
use Rattle.std.specs.List.{AllByRecursion, cons_option}
use Rattle.std.proofs.Math.Path.{ap₂}
use Rattle.std.proofs.lemmas.List.{append-nil, length-append, length-map, map-append}
use Rattle.std.proofs.lemmas.List.Elements.{filter_map-append}
use Rattle.std.proofs.lemmas.Bool.{or_parts, ne_eqb}
use Rattle.hol_spec.specs.Names.{Name}
use Rattle.hol_spec.specs.NameEquality.{name_eq}
use Rattle.hol_laws.specs.NameEqualityLaws.{name_eq-Decides}
use Rattle.hol_spec.specs.Lists.{IsIn}
use Rattle.hol_laws.specs.Members.{All-append, IsIn-either}
use Rattle.hol_laws.specs.PlaceLaws.{get_or-seam}
use Rattle.hol_spec.specs.Sequents.{Sequent}
use Rattle.hol_spec.specs.Proofs.{Made, Step, steps_of, sequent_at, IsProof}
use Rattle.hol_proof_laws.specs.SymbolGrowth.{symmetric}
use Rattle.hol_proof_laws.specs.ProofGrowth.{steps_of-append}
use Rattle.image_reach_laws.specs.Keys.{key_eq-is}
use Rattle.translate_spec.specs.Items.{Content, operator, constant, defined_constant, type_operator, type_abstraction, type_representation, unproved, step, Item, is_constant, is_operator, says}
use Rattle.translate_spec.specs.MadeItems.{said_of, said_by, needed, sequents_at, step_content, premise_at}
use Rattle.translate_spec.specs.Rows.{has_row}
use Rattle.translate_spec.specs.Reach.{Key, operator_key, constant_key, number_key, gives, gives_of, needs, key_eq}
use Rattle.translate_laws.specs.AcceptedItems.{says-step}
use Rattle.translate_laws.specs.MadeModules.{any_content}
use Rattle.translate_laws.specs.NeededSteps.{needed-sequent}
use Rattle.translate_laws.specs.SaidItems.{says-gives_of}
use Rattle.translate_reach.specs.declared.index.Index.{Index}
use Rattle.translate_reach.specs.declared.items.Items.{Items}
use Rattle.translate_reach.specs.declared.items.Need.{Need}
use Rattle.translate_reach.specs.declared.items.Need.TheVariants as need
use Rattle.translate_reach.specs.Indexes.{found, is_at, IsNamedKey, IsIndex}
use Rattle.hol_rules.specs.Kept.{Kept}
use Rattle.hol_rules.specs.Views.{step_at, step_in}
use Rattle.translate_reach.specs.MadeItems.{unnamed, made_items, numbers_of, shown_at, content_at, need_keys, needs_item, IsNeedKnown, AreListed, AddsConstant, AddsOperator}
use Rattle.translate_reach.proofs.Fronts.{items_after-append, said-sequents, step_content-front}

-- an item behind all that are found is none of them
is_at-behind : (items : List Item) (index : Index) → IsIndex items index → (q : Key) (i : ℕ) → i ≡ length items → is_at i (found index q) ≡ false
is_at-behind items index h q i e = go (found index q) refl
  where
    go : (o : Option ℕ) → found index q ≡ o → is_at i o ≡ false
    go None f = refl
    go (Some j) f = let l = h.within q j f in ne_eqb i j (λ same. omega (arith, l, e, same))

module _ (items : List Item) (x : Item) where
  longer : length (items ++ x ∷ []) ≡ length items + 1
  longer = length-append items (x ∷ [])

  pub below-more : ((y : Item) → IsIn items y → y.symbol < length items) → x.symbol ≡ length items → (y : Item) → IsIn (items ++ x ∷ []) y
      → y.symbol < length (items ++ x ∷ [])
  below-more h e y i = elim (IsIn-either items (x ∷ []) y i) [
    | inl j ↦ let l = h y j in let n = longer in omega (arith, l, n)
    | inr (inl same) ↦ let s = ap (λ (z : Item). z.symbol) same in let n = longer in omega (arith, s, e, n)
    | inr (inr j) ↦ absurd j
  ]

  -- one more constant or operator
  pub index-named : (old new : Index) (k : Key) → IsIndex items old → gives x ≡ k → x.symbol ≡ length items
      → ((y : Item) → IsIn items y → key_eq (gives y) k ≡ false)
      → ((q : Key) → found new q ≡ cond (key_eq k q) (Some (length items)) (found old q)) → IsIndex (items ++ x ∷ []) new
  index-named old new k h g e fresh f = record {
    below = below-more h.below e;
    each = λ y i q named. elim (IsIn-either items (x ∷ []) y i) [
      | inl j ↦ before y j q named (key_eq k q) refl ∙ ap (is_at y.symbol) (sym (f q))
      | inr (inl same) ↦ subst (λ (z : Item). key_eq (gives z) q ≡ is_at z.symbol (found new q)) (sym same)
          (ap (λ g. key_eq g q) g ∙ last q (key_eq k q) refl ∙ ap (is_at x.symbol) (sym (f q)))
      | inr (inr j) ↦ absurd j
    ];
    within = λ q i is. found-within q i (key_eq k q) (sym (f q) ∙ is);
  }
    where
      before : (y : Item) → IsIn items y → (q : Key) → IsNamedKey q → (b : Bool) → key_eq k q ≡ b → key_eq (gives y) q
          ≡ is_at y.symbol (cond b (Some (length items)) (found old q))
      before y j q named true same =
          let l = h.below y j in ap (key_eq (gives y)) (sym (key_eq-is k q same)) ∙ fresh y j ∙ sym (ne_eqb y.symbol (length items) (λ s. omega (arith, l, s)))
      before y j q named false same = h.each y j q named

      last : (q : Key) (b : Bool) → key_eq k q ≡ b → b ≡ is_at x.symbol (cond b (Some (length items)) (found old q))
      last q true same = sym ((unsigned_Decides x.symbol (length items)).1 e)
      last q false same = sym (is_at-behind items old h q x.symbol e)

      found-within : (q : Key) (i : ℕ) (b : Bool) → cond b (Some (length items)) (found old q) ≡ Some i → i < length (items ++ x ∷ [])
      found-within q i true is = let s : length items ≡ i = cc in let n = longer in omega (arith, s, n)
      found-within q i false is = let l = h.within q i is in let n = longer in omega (arith, l, n)

  named-other : (i : ℕ) (q : Key) → IsNamedKey q → key_eq (number_key i) q ≡ false
  named-other i (operator_key n k) h = refl
  named-other i (constant_key n) h = refl
  named-other i (number_key j) h = absurd h

  -- one more step
  pub index-step : (index : Index) → IsIndex items index → gives x ≡ number_key x.symbol → x.symbol ≡ length items → IsIndex (items ++ x ∷ []) index
  index-step index h g e = record {
    below = below-more h.below e;
    each = λ y i q named. elim (IsIn-either items (x ∷ []) y i) [
      | inl j ↦ h.each y j q named
      | inr (inl same) ↦ subst (λ (z : Item). key_eq (gives z) q ≡ is_at z.symbol (found index q)) (sym same)
          (ap (λ g. key_eq g q) g ∙ named-other x.symbol q named ∙ sym (is_at-behind items index h q x.symbol e))
      | inr (inr j) ↦ absurd j
    ];
    within = λ q i is. let l = h.within q i is in let n = longer in omega (arith, l, n);
  }

-- what isn't among items isn't given by one of them
fresh-constant : (n : Name) (items : List Item) → any_content (is_constant n) items ≡ false → (y : Item) → IsIn items y → key_eq (gives y) (constant_key n)
    ≡ false
fresh-constant n [] e y h = absurd h
fresh-constant n (x ∷ xs) e y (inl same) = subst (λ (z : Item). key_eq (gives z) (constant_key n) ≡ false) (sym same)
    (one x.symbol x.content (or_parts (is_constant n x.content) (any_content (is_constant n) xs) e).0)
  where
    one : (i : ℕ) (c : Content) → is_constant n c ≡ false → key_eq (gives_of i c) (constant_key n) ≡ false
    one i (operator m k) f = refl
    one i (constant m a) f = symmetric name_eq name_eq-Decides n m f
    one i (defined_constant m a t) f = symmetric name_eq name_eq-Decides n m f
    one i (type_operator names c u j s) f = refl
    one i (type_abstraction names c u j s) f = symmetric name_eq name_eq-Decides n names.abstraction f
    one i (type_representation names c u j s) f = symmetric name_eq name_eq-Decides n names.representation f
    one i (unproved s) f = refl
    one i (step kind js ss g s) f = refl
fresh-constant n (x ∷ xs) e y (inr h) = fresh-constant n xs (or_parts (is_constant n x.content) (any_content (is_constant n) xs) e).1 y h

fresh-operator : (n : Name) (k : ℕ) (items : List Item) → any_content (is_operator n k) items ≡ false → (y : Item) → IsIn items y
    → key_eq (gives y) (operator_key n k) ≡ false
fresh-operator n k [] e y h = absurd h
fresh-operator n k (x ∷ xs) e y (inl same) =
    subst (λ (z : Item). key_eq (gives z) (operator_key n k) ≡ false) (sym same)
    (one x.symbol x.content (or_parts (is_operator n k x.content) (any_content (is_operator n k) xs) e).0)
  where
    turn : (b c : Bool) → (b ≡ true → c ≡ true) → c ≡ false → b ≡ false
    turn true c f e = let g : true ≡ false = sym (f refl) ∙ e in absurd (cc)
    turn false c f e = refl

    other : (m : Name) (j : ℕ) → is_operator n k (operator m j) ≡ false → key_eq (operator_key m j) (operator_key n k) ≡ false
    other m j f =
        turn (key_eq (operator_key m j) (operator_key n k)) (is_operator n k (operator m j))
        (λ e. subst (λ q. is_operator n k (of_key q) ≡ true) (sym (key_eq-is (operator_key m j) (operator_key n k) e)) self) f
      where
        of_key : Key → Content
        of_key (operator_key m j) = operator m j
        of_key (constant_key m) = operator n k
        of_key (number_key j) = operator n k

        self : is_operator n k (operator n k) ≡ true
        self = rw ((name_eq-Decides n n).1 refl) ((unsigned_Decides k k).1 refl)

    one : (i : ℕ) (c : Content) → is_operator n k c ≡ false → key_eq (gives_of i c) (operator_key n k) ≡ false
    one i (operator m j) f = other m j f
    one i (constant m a) f = refl
    one i (defined_constant m a t) f = refl
    one i (type_operator names c u j s) f = other names.operator (length names.variables) f
    one i (type_abstraction names c u j s) f = refl
    one i (type_representation names c u j s) f = refl
    one i (unproved s) f = refl
    one i (step kind js ss g s) f = refl
fresh-operator n k (x ∷ xs) e y (inr h) = fresh-operator n k xs (or_parts (is_operator n k x.content) (any_content (is_operator n k) xs) e).1 y h

-- what is said, with an item more
numbers-silent : (items : List Item) (x : Item) → says x.content ≡ None → numbers_of (items ++ x ∷ []) ≡ numbers_of items
numbers-silent items x e =
    ap (map (λ (p : ℕ × Sequent). p.0))
    (filter_map-append said_of items (x ∷ []) ∙ ap (λ o. said_by items ++ cons_option {X = ℕ × Sequent} (option_map (λ (s : Sequent). (x.symbol, s)) o) []) e
    ∙ append-nil (said_by items))

numbers-said : (items : List Item) (x : Item) (s : Sequent) → says x.content ≡ Some s → numbers_of (items ++ x ∷ []) ≡ numbers_of items ++ x.symbol ∷ []
numbers-said items x s e =
    ap (map (λ (p : ℕ × Sequent). p.0))
    (filter_map-append said_of items (x ∷ []) ∙ ap (λ o. said_by items ++ cons_option {X = ℕ × Sequent} (option_map (λ (s : Sequent). (x.symbol, s)) o) []) e)
    ∙ map-append (λ (p : ℕ × Sequent). p.0) (said_by items) ((x.symbol, s) ∷ [])

module _ (p : Kept) (list : List Item) (x : Item) (old new : Items) (h : AreListed p list old) where
  pub needs-count : length old.needs.items ≡ length list
  needs-count = sym (length-map old.needs.items (need_keys p)) ∙ ap length h.needs ∙ length-map list needs_item

  needs-more : (what : Need) → new.needs.items ≡ old.needs.items ++ what ∷ [] → need_keys p what ≡ needs x.content → map (need_keys p) new.needs.items
      ≡ map needs_item (list ++ x ∷ [])
  needs-more what e is =
      ap (map (need_keys p)) e ∙ map-append (need_keys p) old.needs.items (what ∷ []) ∙ ap₂ (λ l ks. l ++ ks ∷ []) h.needs is
      ∙ sym (map-append needs_item list (x ∷ []))

  known-more : (what : Need) → new.needs.items ≡ old.needs.items ++ what ∷ [] → IsNeedKnown p what → AllByRecursion (IsNeedKnown p) new.needs.items
  known-more what e k = subst (AllByRecursion (IsNeedKnown p)) (sym e) (All-append (IsNeedKnown p) old.needs.items (what ∷ []) h.known (k, tt {0}))

  -- A constant more
  pub constant-AreListed : (n : Name) (what : Need) → AddsConstant p list n what x → new.steps.items ≡ old.steps.items → new.needs.items ≡ old.needs.items
      ++ what ∷ []
      → ((q : Key) → found new.index q ≡ cond (key_eq (constant_key n) q) (Some (length old.needs.items)) (found old.index q))
      → AreListed p (list ++ x ∷ []) new
  constant-AreListed n what a steps needs f = record {
    index = index-named list x old.index new.index (constant_key n) h.index a.key a.number (fresh-constant n list a.new)
        (λ q. f q ∙ ap (λ k. cond (key_eq (constant_key n) q) (Some k) (found old.index q)) needs-count);
    steps = steps ∙ h.steps ∙ sym (numbers-silent list x a.silent);
    needs = needs-more what needs (sym a.needs);
    known = known-more what needs a.known;
  }

  -- An operator more
  pub operator-AreListed : (n : Name) (k : ℕ) (what : Need) → AddsOperator p list n k what x → new.steps.items ≡ old.steps.items → new.needs.items
      ≡ old.needs.items ++ what ∷ []
      → ((q : Key) → found new.index q ≡ cond (key_eq (operator_key n k) q) (Some (length old.needs.items)) (found old.index q))
      → AreListed p (list ++ x ∷ []) new
  operator-AreListed n k what a steps needs f = record {
    index = index-named list x old.index new.index (operator_key n k) h.index a.key a.number (fresh-operator n k list a.new)
        (λ q. f q ∙ ap (λ j. cond (key_eq (operator_key n k) q) (Some j) (found old.index q)) needs-count);
    steps = steps ∙ h.steps ∙ sym (numbers-silent list x a.silent);
    needs = needs-more what needs (sym a.needs);
    known = known-more what needs a.known;
  }

  said-AreListed : (id : ℕ) (s : Sequent) → says x.content ≡ Some s → x.symbol ≡ length list → need_keys p (need.Step id) ≡ needs x.content
      → IsNeedKnown p (need.Step id) → new.index ≡ old.index
      → new.steps.items ≡ old.steps.items ++ length old.needs.items ∷ [] → new.needs.items ≡ old.needs.items ++ need.Step id ∷ []
      → AreListed p (list ++ x ∷ []) new
  said-AreListed id s said number is known index steps needs = record {
    index = subst (IsIndex (list ++ x ∷ [])) (sym index) (index-step list x old.index h.index (says-gives_of x.symbol x.content s said) number);
    steps = steps ∙ ap₂ (λ l k. l ++ k ∷ []) h.steps (needs-count ∙ sym number) ∙ sym (numbers-said list x s said);
    needs = needs-more (need.Step id) needs is;
    known = known-more (need.Step id) needs known;
  }

-- the step of a number
pub step-there : (front rest : List Made) (x : Step) → step_at (front ++ Made.step x ∷ rest) (length (steps_of front)) ≡ x
step-there front rest x = ap (λ l. step_in l (length (steps_of front))) (steps_of-append front (Made.step x ∷ rest)) ∙ get_or-seam (steps_of front)
    (steps_of rest) x _

pub steps-count : (front : List Made) → length (numbers_of (made_items front)) ≡ length (steps_of front)
steps-count front =
    length-map (said_by (made_items front)) (λ (p : ℕ × Sequent). p.0) ∙ sym (length-map (said_by (made_items front)) (λ (p : ℕ × Sequent). p.1))
    ∙ ap length (said-sequents unnamed front) ∙ length-map (steps_of front) (λ (x : Step). x.sequent)

-- What a step shows
pub content-there : (front rest : List Made) (x : Step) → IsProof (front ++ Made.step x ∷ rest)
    → step_content (made_items front) x ≡ content_at (numbers_of (made_items (front ++ Made.step x ∷ rest))) (front ++ Made.step x ∷ rest)
    (length (steps_of front))
content-there front rest x proof =
    let made = front ++ Made.step x ∷ rest in
    step_content-front unnamed front rest x proof ∙ sym
    (ap (λ y. let z = needed (map (sequent_at made) y.premises) y in shown_at (numbers_of (made_items made)) made z) (step-there front rest x))

-- One more step
module _ (p : Kept) (front rest : List Made) (x : Step) (proof : IsProof p.made) (whole : p.made ≡ front ++ Made.step x ∷ rest) (old new : Items)
    (h : AreListed p (made_items front) old) where
  next_step : Item
  next_step = record { symbol = length (made_items front); name = []; content = step_content (made_items front) x }

  next-items : made_items (front ++ Made.step x ∷ []) ≡ made_items front ++ next_step ∷ []
  unfolding next_step
  next-items = items_after-append unnamed [] front (Made.step x ∷ [])

  id-is : length old.steps.items ≡ length (steps_of front)
  id-is = ap length h.steps ∙ steps-count front

  next-said : says next_step.content ≡ Some x.sequent
  unfolding next_step
  next-said =
      let before = made_items front in
      let y = needed (sequents_at before x.premises) x in
      says-step (has_row y.kind) y.kind (map (λ k. (premise_at before k).0) y.premises) (sequents_at before y.premises) y.parameters y.sequent
      ∙ ap Some (needed-sequent (sequents_at before x.premises) x)

  next-needs : need_keys p (need.Step (length old.steps.items)) ≡ needs next_step.content
  unfolding next_step
  next-needs =
      ap (λ id. needs (content_at (numbers_of (made_items p.made)) p.made id)) id-is
      ∙ ap (λ m. needs (content_at (numbers_of (made_items m)) m (length (steps_of front)))) whole
      ∙ ap needs (sym (content-there front rest x (subst IsProof whole proof)))

  next-known : IsNeedKnown p (need.Step (length old.steps.items))
  next-known =
      let e = ap (λ m. length (steps_of m)) whole ∙ ap length (steps_of-append front (Made.step x ∷ rest))
      ∙ length-append (steps_of front) (x ∷ steps_of rest) in let f = id-is in omega (arith, e, f)

  pub step-AreListed : new.index ≡ old.index → new.steps.items ≡ old.steps.items ++ length old.needs.items ∷ [] → new.needs.items ≡ old.needs.items
      ++ need.Step (length old.steps.items) ∷ []
      → AreListed p (made_items (front ++ Made.step x ∷ [])) new
  unfolding next_step
  step-AreListed index steps needs =
      subst (λ l. AreListed p l new) (sym next-items)
      (said-AreListed p (made_items front) next_step old new h (length old.steps.items) x.sequent next-said refl next-needs next-known index steps needs)

-- of nothing that was made there is nothing
pub none-AreListed : (p : Kept) (items : Items) → ((q : Key) → found items.index q ≡ None) → items.steps.items ≡ [] → items.needs.items ≡ []
    → AreListed p [] items
none-AreListed p items f steps needs = record {
  index = record {
    below = λ x i. absurd i;
    each = λ x i. absurd i;
    within = λ q i e. let g : None ≡ Some i = sym (f q) ∙ e in absurd (cc);
  };
  steps = steps;
  needs = ap (map (need_keys p)) needs;
  known = subst (AllByRecursion (IsNeedKnown p)) (sym needs) (tt {0});
}
