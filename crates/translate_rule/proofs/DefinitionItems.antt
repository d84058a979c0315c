-- The items of the next type definition: the operator, and then each of its constants.
use Rattle.std.proofs.Common.{◌≡◌, ℕ, zero, suc, arith, refl, sym, ap, ◌∙◌, subst, append-nil, List, [], ◌∷◌, ◌++◌, length, Some, slice_get}
use Rattle.std.specs.Prelude.{slice_index_or}
use Rattle.std.proofs.lemmas.List.{length-append}
use Rattle.std.proofs.lemmas.Option.{same_Some}
use Rattle.article_spec.specs.SoundRuns.{IsSoundRun}
use Rattle.hol_defs.specs.Symbols.{IsKnownSymbol}
use Rattle.hol_defs.specs.Views.{operator_of_view}
use Rattle.hol_spec.specs.Definitions.{TypeNames}
use Rattle.hol_spec.specs.Proofs.{Made, steps_of, sequents_of, sequent_at, IsDefinedBy, IsMade, Accepted}
use Rattle.hol_spec.specs.Sequents.{Sequent}
use Rattle.hol_spec.specs.Terms.{Term}
use Rattle.hol_spec.specs.TypeDefinitions.{IsTypeDefinition}
use Rattle.hol_spec.specs.Types.{HolType}
use Rattle.hol_term.specs.Tables.{term_at, type_at}
use Rattle.hol_rules.specs.Kept.{Kept}
use Rattle.translate_laws.specs.AcceptedItems.{EachAfter, each-after}
use Rattle.translate_reach.specs.MadeItems.{definition_made}
use Rattle.translate_spec.specs.Image.{type_definition_name}
use Rattle.translate_spec.specs.Items.{Content, Item}
use Rattle.translate_spec.specs.MadeItems.{type_contents, premise_at}
use Rattle.translate_spec.specs.Reach.{renumbered_content}
use Rattle.hol_proof_laws.specs.ProofGrowth.{sequents_of-append, steps_of-append}
use Rattle.translate_proof.specs.declared.parts.Part.{Part}
use Rattle.translate_proof.specs.declared.parts.Part.TheVariants as part
use Rattle.image_items_laws.specs.MadeInOrder.{items-grow}
use Rattle.image_items_laws.specs.Making.{items_made, module_number, definition_up_to, definition_in_module, IsNextDefinition}
use Rattle.image_items_laws.specs.NextDefinitions.{next-definition, next-definition-kept, next-definition-gone}
use Rattle.image_items_laws.specs.NextSteps.{each-at, nothing_said}
use Rattle.image_items_laws.specs.Positions.{index-front, get-within}
use Rattle.translate_rule.specs.declared.items.Item.TheVariants as item
use Rattle.translate_rule.specs.declared.items.TypeDefinition.{TypeDefinition}
use Rattle.translate_rule.specs.declared.builder.ModuleBuilder.{ModuleBuilder}
use Rattle.translate_rule.specs.declared.run.Run.{Run}
use Rattle.translate_rule.specs.ItemViews.{accepted, names_of, part_name, part_content, IsDefinitionKnown}
use Rattle.translate_rule.specs.Building.{AddsItem, AreCounted, IsBuilt, IsNextItem}
use Rattle.translate_rule.specs.Steps.{symbol_in}
use Rattle.translate_rule.proofs.NextItems.{content-next}

-- a part is named as its item is, and is a part of the same premise under another number
part-named : (own : Part) (names : TypeNames) (c : HolType) (f : Term) (j : ℕ) (one : Sequent) → type_definition_name (part_content own names c f j one)
    ≡ part_name own names
part-named part.Operator names c f j one = refl
part-named part.Abstraction names c f j one = refl
part-named part.Representation names c f j one = refl

part-renumbered : (own : Part) (names : TypeNames) (c : HolType) (f : Term) (j : ℕ) (one : Sequent) (number : ℕ → ℕ)
    → renumbered_content number (part_content own names c f j one) ≡ part_content own names c f (number j) one
part-renumbered part.Operator names c f j one number = refl
part-renumbered part.Abstraction names c f j one number = refl
part-renumbered part.Representation names c f j one number = refl

index-is : {A : Type 0} (xs : List A) (i : ℕ) (x d : A) → slice_get xs i ≡ Some x → slice_index_or xs i d ≡ x
index-is [] i x d e = absurd (cc)
index-is (y ∷ xs) zero x d e = same_Some _ _ e
index-is (y ∷ xs) (suc i) x d e = index-is xs i x d e

module _ (r : Run) (earlier : List Made) (d : TypeDefinition) where
  abbrev run : Accepted
  run = accepted r

  abbrev k : Kept
  k = r.proof.now

  abbrev names : TypeNames
  names = names_of d

  abbrev c : HolType
  c = type_at k.trees d.view.whole.0

  abbrev f : Term
  f = term_at k.trees d.view.predicate.0

  abbrev i : ℕ
  i = d.premise

  abbrev premise : ℕ × Sequent
  premise = premise_at (items_made run earlier) i

  -- the content of a part, and the items up to the operator and up to the abstraction
  abbrev made_part : Part → Content
  made_part own = part_content own names c f premise.0 premise.1

  abbrev pub up_to_operator : List Item
  up_to_operator = definition_up_to run earlier (made_part part.Operator ∷ [])

  abbrev pub up_to_abstraction : List Item
  up_to_abstraction = definition_up_to run earlier (made_part part.Operator ∷ made_part part.Abstraction ∷ [])

  module _ (sound : IsSoundRun run) (later : List Made) (whole : k.made ≡ earlier ++ definition_made k.trees d.view d.premise ∷ later)
      (known : IsKnownSymbol k.trees (operator_of_view d.view)) (old : ModuleBuilder)
      (h : IsBuilt run earlier old) where
    abbrev y : Made
    y = definition_made k.trees d.view d.premise

    law : IsNextDefinition run earlier names c f i
    law = next-definition run sound earlier later names c f i whole

    is-defined : IsDefinedBy earlier names c f i
    is-defined = each-at IsMade [] earlier later y (subst (EachAfter IsMade []) whole (each-after IsMade run.made sound.proof))

    premise-says : sequent_at k.made i ≡ is-defined.one
    premise-says =
        let within = get-within (sequents_of earlier) i is-defined.one is-defined.at in
        ap (λ m. sequent_at m i) whole ∙ ap (λ l. slice_index_or l i nothing_said) (sequents_of-append earlier (y ∷ later))
        ∙ index-front (sequents_of earlier) (sequents_of later) i nothing_said within
        ∙ index-is (sequents_of earlier) i is-defined.one nothing_said is-defined.at

    -- while the steps so far have their symbols
    module _ (now : ModuleBuilder) (same : now.numbers ≡ old.numbers) where
      definition-known : IsDefinitionKnown k now.numbers.items d
      definition-known =
          let within = law.earlier_premise in
          let count = ap (λ m. length (steps_of m)) whole ∙ ap length (steps_of-append earlier (y ∷ later)) ∙ length-append (steps_of earlier) (steps_of later)
          in
          let long = ap (λ v. length v.items) same ∙ h.steps in
          record {
            operator = known;
            premise = omega (arith, within, count);
            earlier = omega (arith, within, long);
            defines = subst (IsTypeDefinition names c f) (sym premise-says) is-defined.defines;
          }

      -- one of the three
      next-part : (own : Part) (front back : List Content) → type_contents names c f premise ≡ front ++ made_part own ∷ back
          → IsNextItem run (definition_up_to run earlier front) (definition_up_to run earlier (front ++ made_part own ∷ [])) k now.numbers.items
          (item.Part own d)
      next-part own front back among =
          content-next run earlier later y whole type_definition_name (items-grow run earlier y) front back (made_part own) among k now.numbers.items
          (item.Part own d)
          (λ e. record {
            x = definition_in_module run earlier front (made_part own);
            next = next-definition-kept run earlier later names c f i whole front back (made_part own) among e;
            name = part-named own names c f premise.0 premise.1;
            content =
                part-renumbered own names c f premise.0 premise.1 (module_number run)
                ∙ ap (λ (p : ℕ × Sequent). part_content own names c f (module_number run p.0) p.1) law.premise
                ∙ ap (λ j. part_content own names c f j (sequent_at k.made i))
                (sym (ap (λ v. symbol_in v.items i) same ∙ h.numbers i law.earlier_premise (law.kept_premise front back (made_part own) among e)));
            known = definition-known;
          })
          (λ e. next-definition-gone run earlier later names c f i whole front back (made_part own) among e)

      pub next-operator : IsNextItem run (items_made run earlier) up_to_operator k now.numbers.items (item.Part part.Operator d)
      next-operator =
          subst (λ l. IsNextItem run l up_to_operator k now.numbers.items (item.Part part.Operator d)) (append-nil (items_made run earlier))
          (next-part part.Operator [] (made_part part.Abstraction ∷ made_part part.Representation ∷ []) refl)

      pub next-abstraction : IsNextItem run up_to_operator up_to_abstraction k now.numbers.items (item.Part part.Abstraction d)
      next-abstraction = next-part part.Abstraction (made_part part.Operator ∷ []) (made_part part.Representation ∷ []) refl

      pub next-representation : IsNextItem run up_to_abstraction (items_made run (earlier ++ y ∷ [])) k now.numbers.items (item.Part part.Representation d)
      next-representation =
          subst (λ l. IsNextItem run up_to_abstraction l k now.numbers.items (item.Part part.Representation d)) (sym (items-grow run earlier y))
          (next-part part.Representation (made_part part.Operator ∷ made_part part.Abstraction ∷ []) [] refl)

    -- they are added one after another
    pub operator-counted : (one : ModuleBuilder) → AddsItem r (item.Part part.Operator d) old one → AreCounted run up_to_operator one
    operator-counted one add = add (items_made run earlier) up_to_operator h.counted (next-operator old refl)

    pub abstraction-counted : (one two : ModuleBuilder) → AddsItem r (item.Part part.Operator d) old one → one.numbers ≡ old.numbers
        → AddsItem r (item.Part part.Abstraction d) one two → AreCounted run up_to_abstraction two
    abstraction-counted one two add same more = more up_to_operator up_to_abstraction (operator-counted one add) (next-abstraction one same)

    pub definition-counted : (one two new : ModuleBuilder) → AddsItem r (item.Part part.Operator d) old one → one.numbers ≡ old.numbers
        → AddsItem r (item.Part part.Abstraction d) one two → two.numbers ≡ old.numbers → AddsItem r (item.Part part.Representation d) two new
        → AreCounted run (items_made run (earlier ++ y ∷ [])) new
    definition-counted one two new add same more same2 last =
        last up_to_abstraction (items_made run (earlier ++ y ∷ [])) (abstraction-counted one two add same more) (next-representation two same2)
