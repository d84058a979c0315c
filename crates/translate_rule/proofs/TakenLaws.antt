-- The items of the next symbol, by what is kept of it.
use Rattle.std.proofs.Common.{◌≡◌, ℕ, Some, refl, sym, ap, ◌∙◌, subst, List, [], ◌∷◌, ◌++◌, Bor}
use Rattle.std.proofs.lemmas.Option.{same_Some}
use Rattle.hol_defs.specs.declared.readers.TypeOpView.{TypeOpView}
use Rattle.hol_defs.specs.Symbols.{Taken, named, symbol_at, IsConstantKnown}
use Rattle.hol_defs.specs.Views.{operator_of_view}
use Rattle.hol_spec.specs.Definitions.{Definition, TypeNames}
use Rattle.hol_spec.specs.Names.{Name}
use Rattle.hol_spec.specs.Primitives.{generic}
use Rattle.hol_spec.specs.Proofs.{Made, made_symbol, IsMade, IsPlain, IsProof, Accepted}
use Rattle.hol_spec.specs.Symbols.{Symbol}
use Rattle.hol_spec.specs.Terms.{Term}
use Rattle.hol_spec.specs.Types.{HolType}
use Rattle.hol_term.specs.declared.TermId.{TermId}
use Rattle.hol_term.specs.Tables.{Trees, term_at, type_at}
use Rattle.hol_type.specs.declared.table.TypeId.{TypeId}
use Rattle.hol_rules.specs.declared.made.Made.{Made as OneMade}
use Rattle.hol_rules.specs.declared.made.Made.TheVariants as one
use Rattle.hol_rules.specs.Kept.{Kept}
use Rattle.translate_laws.specs.AcceptedItems.{each-after}
use Rattle.translate_laws.specs.DefinitionsHeld.{type_or-is}
use Rattle.translate_reach.specs.MadeItems.{definition_made, IsNoted}
use Rattle.translate_spec.specs.Image.{symbol_name}
use Rattle.translate_spec.specs.Items.{Content}
use Rattle.translate_spec.specs.MadeItems.{contents_of}
use Rattle.image_items_laws.specs.Making.{items_made}
use Rattle.image_items_laws.specs.NextSteps.{each-at}
use Rattle.translate_rule.specs.declared.items.Item.{Item as AnItem}
use Rattle.translate_rule.specs.declared.items.Item.TheVariants as item
use Rattle.translate_rule.specs.declared.run.Run.{Run}
use Rattle.translate_rule.specs.ItemViews.{accepted, item_name, item_content, IsItemKnown}
use Rattle.translate_rule.specs.Building.{IsNextItem}
use Rattle.translate_rule.proofs.NextItems.{only-content}

-- a plain symbol is made alone
plain-made : (y : Made) (x : Symbol) → made_symbol y ≡ Some x → IsPlain x → y ≡ Made.symbol x
plain-made (Made.symbol z) x e plain = ap Made.symbol (same_Some _ _ e)
plain-made (Made.type_definition names c f i) x e plain = absurd (subst IsPlain (sym (same_Some _ _ e)) plain)
plain-made (Made.step z) x e plain = absurd (cc)

-- a type operator is made by a type definition, which is noted with its step
operator-made : (made earlier later : List Made) (y : Made) (m : OneMade) (names : TypeNames) (c : HolType) (f : Term) → IsProof made → made ≡ earlier
    ++ y ∷ later → IsNoted y m → made_symbol y ≡ Some (Symbol.defined (Definition.type_operator names c f))
    → (i : ℕ) × (y ≡ Made.type_definition names c f i) × IsNoted (Made.type_definition names c f i) m
operator-made made earlier later (Made.symbol z) m names c f proof whole noted e =
    absurd (subst IsPlain (same_Some _ _ e)
    (each-at IsMade [] earlier later (Made.symbol z) (each-after IsMade (earlier ++ Made.symbol z ∷ later) (subst IsProof whole proof))).0)
operator-made made earlier later (Made.type_definition names2 c2 f2 i) m names c f proof whole noted e =
    let same : Made.type_definition names2 c2 f2 i ≡ Made.type_definition names c f i = let d = same_Some _ _ e in cc in
    (i, same, subst (λ z. IsNoted z m) same noted)
operator-made made earlier later (Made.step z) m names c f proof whole noted e = absurd noted

definition-noted : (names : TypeNames) (c : HolType) (f : Term) (i : ℕ) (m : OneMade) → IsNoted (Made.type_definition names c f i) m → (n : Name)
    × (m ≡ one.TypeOp n i)
definition-noted names c f i (one.TypeOp n j) h = (n, ap (one.TypeOp n) (sym h))
definition-noted names c f i (one.InputConst n) h = absurd h
definition-noted names c f i (one.InputOp n k) h = absurd h
definition-noted names c f i (one.Const n) h = absurd h
definition-noted names c f i (one.Step k) h = absurd h

module _ (trees : Trees) (made earlier later : List Made) (y : Made) (m : OneMade) (x : TypeOpView) (proof : IsProof made) (whole : made ≡ earlier ++ y ∷ later)
    (noted : IsNoted y m) (is : made_symbol y ≡ Some (symbol_at trees (operator_of_view x))) where
  definition-of : (i : ℕ) × (y ≡ definition_made trees x i) × IsNoted (definition_made trees x i) m
  definition-of = operator-made made earlier later y m (named x.op.now x.abs.now x.rep.now x.names.now) (type_at trees x.whole.0) (term_at trees x.predicate.0)
      proof whole noted is

  -- The next thing is the type definition that is taken, from the step with which it is noted
  pub definition-is : (n : Name) (i : ℕ) → m ≡ one.TypeOp n i → y ≡ definition_made trees x i
  definition-is n i e = let d = definition-of in d.1 ∙ ap (definition_made trees x) (subst (IsNoted (definition_made trees x d.0)) e d.2)

  -- and it is so noted
  pub definition-told : ((n : Name) (i : ℕ) → m ≡ one.TypeOp n i → ⊥) → ⊥
  definition-told other =
      let d = definition-of in
      let e = definition-noted (named x.op.now x.abs.now x.rep.now x.names.now) (type_at trees x.whole.0) (term_at trees x.predicate.0) d.0 m d.2 in
      other e.0 d.0 e.1

module _ (r : Run) (earlier later : List Made) (y : Made) where
  abbrev run : Accepted
  run = accepted r

  abbrev k : Kept
  k = r.proof.now

  -- the one item of a symbol
  next-one : (s : Symbol) → y ≡ Made.symbol s → k.made ≡ earlier ++ y ∷ later → (c : Content) → contents_of s ≡ c ∷ [] → (numbers : List ℕ) (own : AnItem)
      → symbol_name s ≡ item_name run own → c ≡ item_content k numbers own → IsItemKnown k numbers own
      → IsNextItem run (items_made run earlier) (items_made run (earlier ++ y ∷ [])) k numbers own
  next-one s e whole c among numbers own name content known =
      subst (λ (z : Made). k.made ≡ earlier ++ z ∷ later → IsNextItem run (items_made run earlier) (items_made run (earlier ++ z ∷ [])) k numbers own) (sym e)
      (λ w. only-content run earlier later s w c among k numbers own name content known) whole

  pub next-input-constant : (n : Bor Name) → made_symbol y ≡ Some (Symbol.input_constant n.now) → k.made ≡ earlier ++ y ∷ later → (numbers : List ℕ)
      → IsNextItem run (items_made run earlier) (items_made run (earlier ++ y ∷ [])) k numbers (item.InputConst n)
  next-input-constant n e whole numbers =
      let s = Symbol.input_constant n.now in
      next-one s (plain-made y s e (tt {0})) whole (Content.constant n.now generic) refl numbers (item.InputConst n) refl refl (tt {0})

  pub next-input-operator : (n : Bor Name) (j : ℕ) → made_symbol y ≡ Some (Symbol.input_operator n.now j) → k.made ≡ earlier ++ y ∷ later → (numbers : List ℕ)
      → IsNextItem run (items_made run earlier) (items_made run (earlier ++ y ∷ [])) k numbers (item.InputOp n j)
  next-input-operator n j e whole numbers =
      let s = Symbol.input_operator n.now j in
      next-one s (plain-made y s e (tt {0})) whole (Content.operator n.now j) refl numbers (item.InputOp n j) refl refl (tt {0})

  pub next-constant : (n : Bor Name) (u : TermId) (a : TypeId) → made_symbol y ≡ Some (symbol_at k.trees (Taken.constant n.now u a))
      → IsConstantKnown k.trees u a → k.made ≡ earlier ++ y ∷ later → (numbers : List ℕ)
      → IsNextItem run (items_made run earlier) (items_made run (earlier ++ y ∷ [])) k numbers (item.Const n u a)
  next-constant n u a e known whole numbers =
      let s = symbol_at k.trees (Taken.constant n.now u a) in
      next-one s (plain-made y s e (tt {0})) whole _ refl numbers (item.Const n u a) refl
      (ap (λ b. Content.defined_constant n.now b (term_at k.trees u.0)) (type_or-is (term_at k.trees u.0) (type_at k.trees a.0) known.typed))
      (known.term, known.ty)
