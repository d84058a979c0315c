-- The items of one more symbol, or of a type definition, are listed.
use Rattle.std.proofs.Common.{◌≡◌, ℕ, ◌+◌, ◌<◌, List, [], ◌∷◌, ◌++◌, length, arith, refl, sym, ap, subst, ◌∙◌, append_assoc}
use Rattle.std.specs.Prelude.{slice_index_or}
use Rattle.std.proofs.Math.Path.{ap₂}
use Rattle.std.proofs.lemmas.List.{append-nil, length-append, length-map}
use Rattle.hol_spec.specs.Names.{Name}
use Rattle.hol_spec.specs.Terms.{Term}
use Rattle.hol_spec.specs.Types.{HolType}
use Rattle.hol_spec.specs.Primitives.{generic}
use Rattle.hol_spec.specs.Definitions.{Definition, TypeNames}
use Rattle.hol_spec.specs.NewTypes.{abstraction_type, representation_type}
use Rattle.hol_spec.specs.Symbols.{Symbol}
use Rattle.hol_spec.specs.Sequents.{Sequent}
use Rattle.hol_spec.specs.Proofs.{Made, Step, steps_of, sequents_of, IsProof}
use Rattle.hol_proof_laws.specs.ProofGrowth.{steps_of-append}
use Rattle.hol_type.specs.Tables.{tree_at}
use Rattle.hol_type.specs.declared.table.TypeId.{TypeId}
use Rattle.hol_term.specs.Tables.{term_at}
use Rattle.hol_term.specs.declared.TermId.{TermId}
use Rattle.translate_spec.specs.Rows.{type_or}
use Rattle.translate_spec.specs.Items.{Content, Item}
use Rattle.translate_spec.specs.MadeItems.{contents, numbered, premise_at}
use Rattle.translate_spec.specs.Reach.{number_key, type_keys}
use Rattle.translate_laws.specs.MadeModules.{IsNew}
use Rattle.translate_laws.specs.WantedItems.{AreMadeInOrder}
use Rattle.translate_reach.specs.declared.items.Items.{Items}
use Rattle.translate_reach.specs.declared.items.Need.{Need}
use Rattle.translate_reach.specs.declared.items.Need.TheVariants as need
use Rattle.hol_rules.specs.Kept.{Kept, step_count}
use Rattle.translate_reach.specs.MadeItems.{unnamed, made_items, numbers_of, number_in, need_keys, AreListed, AddsConstant, AddsOperator, IsInOrder, IsNeedKnown}
use Rattle.translate_reach.proofs.Fronts.{items_after-append, items_of-front, number-front, definition-earlier}
use Rattle.translate_reach.proofs.Looked.{order-at}

-- what lists a constant, and what lists an operator
abbrev pub ListsConstant : Name → Need → Items → Items → Type 0
ListsConstant n what old new = (p : Kept) (list : List Item) (x : Item) → AddsConstant p list n what x → AreListed p list old → AreListed p (list ++ x ∷ []) new

abbrev pub ListsOperator : Name → ℕ → Need → Items → Items → Type 0
ListsOperator n k what old new = (p : Kept) (list : List Item) (x : Item) → AddsOperator p list n k what x → AreListed p list old → AreListed p (list ++ x ∷ [])
    new

-- contents as items without names
abbrev items_from : ℕ → List Content → List Item
items_from i cs = numbered (λ c. []) i cs

abbrev item_at : ℕ → Content → Item
item_at i c = record { symbol = i; name = []; content = c }

module _ (p : Kept) (order : IsInOrder p) (front rest : List Made) (y : Made) (whole : p.made ≡ front ++ y ∷ rest) where
  abbrev news : List Item
  news = items_from (length (made_items front)) (contents (made_items front) y)

  after-made : made_items (front ++ y ∷ []) ≡ made_items front ++ news
  after-made = items_after-append unnamed [] front (y ∷ [])

  -- the items up to these, and those after them
  in-order : (more : List Item) × AreMadeInOrder [] ((made_items front ++ news) ++ more)
  in-order =
      let split : p.made ≡ (front ++ y ∷ []) ++ rest = whole ∙ sym (append_assoc front (y ∷ []) rest) in
      let r = items_of-front unnamed (front ++ y ∷ []) rest in
      (r.0, subst (AreMadeInOrder []) (ap made_items split ∙ r.1 ∙ ap (λ l. l ++ r.0) after-made) order)

  -- one of these items is new
  new-at : (xs ys : List Item) (z : Item) → news ≡ xs ++ z ∷ ys → (z.symbol ≡ length (made_items front ++ xs)) × IsNew (made_items front ++ xs) z.content
  new-at xs ys z e =
      let o = in-order in
      let items = made_items front in
      order-at [] (items ++ xs) (ys ++ o.0) z
      (subst (AreMadeInOrder []) (ap (λ l. (items ++ l) ++ o.0) e ∙ ap (λ l. l ++ o.0) (sym (append_assoc items xs (z ∷ ys)))
      ∙ append_assoc (items ++ xs) (z ∷ ys) o.0) o.1)

  from-items : (new : Items) → AreListed p (made_items front ++ news) new → AreListed p (made_items (front ++ y ∷ [])) new
  from-items new h = subst (λ l. AreListed p l new) (sym after-made) h

-- the first of new items is new on those before them
at-first : (items new : List Item) (ys : List Item) (y : Item)
    → ((xs zs : List Item) (z : Item) → new ≡ xs ++ z ∷ zs → (z.symbol ≡ length (items ++ xs)) × IsNew (items ++ xs) z.content) → new ≡ y ∷ ys
    → (y.symbol ≡ length items) × IsNew items y.content
at-first items new ys y f e =
    let r = f [] ys y e in let n = append-nil items in (r.0 ∙ ap length n, subst (λ l. IsNew l y.content) n r.1)

module _ (p : Kept) (order : IsInOrder p) (front rest : List Made) (old : Items) (h : AreListed p (made_items front) old) where
  abbrev IsFront : Made → Type 0
  IsFront y = p.made ≡ front ++ y ∷ rest

  abbrev Listed : Items → Made → Type 0
  Listed new y = AreListed p (made_items (front ++ y ∷ [])) new

  pub input_constant-Listed : (y : Made) → IsFront y → (n : Name) → y ≡ Made.symbol (Symbol.input_constant n) → (new : Items)
      → ListsConstant n need.Nothing old new → AreListed p (made_items (front ++ y ∷ [])) new
  input_constant-Listed y whole n is new adds = subst (Listed new) (sym is) (one (subst IsFront is whole))
    where
      one : IsFront (Made.symbol (Symbol.input_constant n)) → Listed new (Made.symbol (Symbol.input_constant n))
      one w =
          let made = Made.symbol (Symbol.input_constant n) in
          let items = made_items front in
          let z = item_at (length items) (Content.constant n generic) in
          let new_name = at-first items _ [] z (new-at p order front rest made w) refl in
          from-items p order front rest made w new
          (adds p items z (record { number = new_name.0; key = refl; silent = refl; new = new_name.1.1; needs = refl; known = tt {0} }) h)

  pub input_operator-Listed : (y : Made) → IsFront y → (n : Name) (k : ℕ) → y ≡ Made.symbol (Symbol.input_operator n k) → (new : Items)
      → ListsOperator n k need.Nothing old new → AreListed p (made_items (front ++ y ∷ [])) new
  input_operator-Listed y whole n k is new adds = subst (Listed new) (sym is) (one (subst IsFront is whole))
    where
      one : IsFront (Made.symbol (Symbol.input_operator n k)) → Listed new (Made.symbol (Symbol.input_operator n k))
      one w =
          let made = Made.symbol (Symbol.input_operator n k) in
          let items = made_items front in
          let z = item_at (length items) (Content.operator n k) in
          let new_name = at-first items _ [] z (new-at p order front rest made w) refl in
          from-items p order front rest made w new
          (adds p items z (record { number = new_name.0; key = refl; silent = refl; new = new_name.1.1; needs = refl; known = tt {0} }) h)

  pub defined_constant-Listed : (y : Made) → IsFront y → (n : Name) (t : TermId) → y
      ≡ Made.symbol (Symbol.defined (Definition.constant n (term_at p.trees t.0))) → t.0 < length p.trees.terms
      → (new : Items) → ListsConstant n (need.Term t) old new → AreListed p (made_items (front ++ y ∷ [])) new
  defined_constant-Listed y whole n t is known new adds = subst (Listed new) (sym is) (one (subst IsFront is whole))
    where
      one : IsFront (Made.symbol (Symbol.defined (Definition.constant n (term_at p.trees t.0))))
          → Listed new (Made.symbol (Symbol.defined (Definition.constant n (term_at p.trees t.0))))
      one w =
          let items = made_items front in
          let u = term_at p.trees t.0 in
          let made = Made.symbol (Symbol.defined (Definition.constant n u)) in
          let z = item_at (length items) (Content.defined_constant n (type_or u) u) in
          let new_name = at-first items _ [] z (new-at p order front rest made w) refl in
          from-items p order front rest made w new
          (adds p items z (record { number = new_name.0; key = refl; silent = refl; new = new_name.1.1; needs = refl; known = known }) h)

  -- the operator and the constants of a type definition
  module _ (names : TypeNames) (c : HolType) (f : Term) (i : ℕ) where
    abbrev made : Made
    made = Made.type_definition names c f i

    abbrev premise : ℕ × Sequent
    premise = premise_at (made_items front) i

    abbrev first : Item
    first = item_at (length (made_items front)) (Content.type_operator names c f premise.0 premise.1)

    abbrev second : Item
    second = item_at (length (made_items front) + 1) (Content.type_abstraction names c f premise.0 premise.1)

    abbrev third : Item
    third = item_at (length (made_items front) + 1 + 1) (Content.type_representation names c f premise.0 premise.1)

    module _ (w : IsFront (Made.type_definition names c f i)) (proof : IsProof p.made) where
      earlier : i < length (sequents_of front)
      earlier = definition-earlier front rest names c f i (subst IsProof w proof)

      premise-number : (premise_at (made_items front) i).0 ≡ number_in (numbers_of (made_items p.made)) i
      premise-number = number-front unnamed front (made ∷ rest) i earlier ∙ ap (λ m. slice_index_or (numbers_of (made_items m)) i 0) (sym w)

      premise-known : i < step_count p
      premise-known =
          let count = ap (λ m. length (steps_of m)) w ∙ ap length (steps_of-append front (made ∷ rest)) ∙ length-append (steps_of front) (steps_of rest) in
          let same = length-map (steps_of front) (λ (x : Step). x.sequent) in
          let l = earlier in
          omega (arith, l, same, count)

      part-keys : (a : TypeId) (b : HolType) → tree_at p.trees.types a.0 ≡ b → number_key (premise_at (made_items front) i).0 ∷ type_keys b
          ≡ need_keys p (need.Part i a)
      part-keys a b e = ap₂ (λ j ks. number_key j ∷ ks) premise-number (ap type_keys (sym e))

      part-known : (a : TypeId) → a.0 < length p.trees.types → IsNeedKnown p (need.Part i a)
      part-known a l = (premise-known, l)

      pub definition-Listed : (whole abs rep : TypeId) → whole.0 < length p.trees.types → abs.0 < length p.trees.types → rep.0 < length p.trees.types
          → tree_at p.trees.types whole.0 ≡ c → tree_at p.trees.types abs.0 ≡ abstraction_type names c → tree_at p.trees.types rep.0
          ≡ representation_type names c
          → (one two new : Items) → ListsOperator names.operator (length names.variables) (need.Part i whole) old one
          → ListsConstant names.abstraction (need.Part i abs) one two
          → ListsConstant names.representation (need.Part i rep) two new → AreListed p (made_items (front ++ Made.type_definition names c f i ∷ [])) new
      definition-Listed whole abs rep kw ka kr tw ta tr one two new adds1 adds2 adds3 =
          let items = made_items front in
          let at = new-at p order front rest made w in
          let n1 = at-first items _ (second ∷ third ∷ []) first at refl in
          let n2 = at (first ∷ []) (third ∷ []) second refl in
          let n3 = at (first ∷ second ∷ []) [] third refl in
          let h1 = adds1 p items first
          (record { number = n1.0; key = refl; silent = refl; new = n1.1.1; needs = part-keys whole c tw; known = part-known whole kw }) h in
          let h2 = adds2 p (items ++ first ∷ []) second
          (record {
            number = n2.0;
            key = refl;
            silent = refl;
            new = n2.1.1;
            needs = part-keys abs (abstraction_type names c) ta;
            known =
                part-known abs ka;
          }) h1 in
          let e : (items ++ first ∷ []) ++ second ∷ [] ≡ items ++ first ∷ second ∷ [] = append_assoc items (first ∷ []) (second ∷ []) in
          let h3 = adds3 p (items ++ first ∷ second ∷ []) third
          (record { number = n3.0; key = refl; silent = refl; new = n3.1.1; needs = part-keys rep (representation_type names c) tr; known = part-known rep kr })
          (subst (λ l. AreListed p l two) e h2) in
          from-items p order front rest made w new (subst (λ l. AreListed p l new) (append_assoc items (first ∷ second ∷ []) (third ∷ [])) h3)
