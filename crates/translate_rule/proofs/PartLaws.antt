-- The declarations of the parts of a type definition.
use Rattle.std.proofs.Common.{◌≡◌, ℕ, refl, ap, ◌∙◌, subst, List, Some, unwrap_or, length}
use Rattle.std.specs.Prelude.{replicate}
use Rattle.hol_spec.specs.Definitions.{TypeNames}
use Rattle.hol_spec.specs.Names.{Name}
use Rattle.hol_spec.specs.NewTypes.{abstraction_type, representation_type}
use Rattle.hol_spec.specs.Primitives.{bool}
use Rattle.hol_spec.specs.Proofs.{sequent_at}
use Rattle.hol_spec.specs.Sequents.{Sequent}
use Rattle.hol_spec.specs.Terms.{Term}
use Rattle.hol_spec.specs.TypeDefinitions.{IsTypeDefinition}
use Rattle.hol_spec.specs.Types.{HolType}
use Rattle.hol_rules.specs.Kept.{Kept}
use Rattle.hol_term.specs.Tables.{term_at, type_at}
use Rattle.lp_spec.specs.declared.form.Form.TheVariants.{Def}
use Rattle.lp_spec.specs.Modules.{Declaration, abstractions, types}
use Rattle.translate_spec.specs.Items.{declaration_of, part_definition_tree}
use Rattle.translate_spec.specs.ProofTrees.{witness, part_tree}
use Rattle.translate_spec.specs.Rows.{type_or}
use Rattle.translate_spec.specs.Scopes.{SymbolMap, filled, under_types, unfilled}
use Rattle.translate_proof.specs.declared.parts.Part.{Part}
use Rattle.translate_proof.specs.declared.parts.Part.TheVariants as part
use Rattle.translate_proof.specs.declared.premise.Premise.{Premise}
use Rattle.translate_proof.specs.Parts.{part_symbol, whole_type, IsDefiningStep}
use Rattle.translate_proof.specs.Told as rule
use Rattle.image_items_laws.specs.Told.{TellsContent}
use Rattle.translate_term.specs.Told.{TellsType}
use Rattle.translate_rule.specs.declared.items.Item.TheVariants as item
use Rattle.translate_rule.specs.declared.items.TypeDefinition.{TypeDefinition}
use Rattle.translate_rule.specs.ItemViews.{item_content, names_of, part_content, part_name}
use Rattle.translate_rule.specs.Parts.{part_at, part_type, part_variables}
use Rattle.translate_rule.specs.Steps.{symbol_in}
use Rattle.translate_rule.proofs.ItemLaws.{binders-are}
use Rattle.translate_rule.proofs.PushLaws.{told-sequent}

-- A part is declared at its type, over its type variables
pub part-declared : (tables : SymbolMap) (own : Part) (names : TypeNames) (c : HolType) (f : Term) (j : ℕ) (one : Sequent)
    → record {
      name = part_name own names;
      form = Def;
      ty = part_type tables own names c;
      body =
          Some (part_definition_tree tables (part_variables own names c) (part_symbol own) c j one);
    }
    ≡ declaration_of tables (part_name own names) (part_content own names c f j one)
part-declared tables part.Operator names c f j one = refl
part-declared tables part.Abstraction names c f j one = refl
part-declared tables part.Representation names c f j one = refl

-- what is told of a part: the type of the definition and the theorem
module _ (d : List Declaration) (tables : SymbolMap) (names : TypeNames) (c : HolType) (f : Term) (j : ℕ) (one : Sequent) where
  pub part-type-told : (own : Part) → TellsContent d tables (part_content own names c f j one) → TellsType d tables c
  part-type-told part.Operator h = h.0
  part-type-told part.Abstraction h = h.1
  part-type-told part.Representation h = h.1

  pub part-sequent-told : (own : Part) → TellsContent d tables (part_content own names c f j one) → rule.TellsSequent d tables one
  part-sequent-told part.Operator h = told-sequent d tables one h.1
  part-sequent-told part.Abstraction h = told-sequent d tables one h.2
  part-sequent-told part.Representation h = told-sequent d tables one h.2

  -- and of a constant its generic type
  pub abstraction-told : (own : Part) → own ≡ part.Abstraction → TellsContent d tables (part_content own names c f j one)
      → TellsType d tables (abstraction_type names c)
  abstraction-told own e h = (subst (λ p. TellsContent d tables (part_content p names c f j one)) e h).0

  pub representation-told : (own : Part) → own ≡ part.Representation → TellsContent d tables (part_content own names c f j one)
      → TellsType d tables (representation_type names c)
  representation-told own e h = (subst (λ p. TellsContent d tables (part_content p names c f j one)) e h).0

-- the type of a definition is that of the term of its theorem
module _ (k : Kept) (id : ℕ) (names : TypeNames) (c : HolType) (f : Term) (d : IsTypeDefinition names c f (sequent_at k.made id)) where
  pub whole-type : whole_type k id ≡ c
  whole-type = ap (λ p. type_or (witness p)) d.holds ∙ ap (λ o. unwrap_or o bool) d.typed

  pub is-defining : IsDefiningStep k id
  is-defining = record { names = names; ty = c; predicate = f; defines = d }

-- a part by the number of its premise
pub part-content : (k : Kept) (numbers : List ℕ) (own : Part) (d : TypeDefinition) (one : Premise) → one.id ≡ d.premise → one.symbol
    ≡ symbol_in numbers d.premise → part_at k own d.view one ≡ item_content k numbers (item.Part own d)
part-content k numbers own d one e s = λ i. part_content own (names_of d) (type_at k.trees d.view.whole.0) (term_at k.trees d.view.predicate.0) (s i)
    (sequent_at k.made (e i))

-- The part under binders for its type variables
pub part-definition : (tables : SymbolMap) (names : List Name) (own : Part) (c : HolType) (j : ℕ) (one : Sequent)
    → abstractions (replicate (length names) types) (part_tree tables (filled tables (under_types names unfilled)) (part_symbol own) c (j, one))
    ≡ part_definition_tree tables names (part_symbol own) c j one
part-definition tables names own c j one = ap (λ l. abstractions l (part_tree tables (filled tables (under_types names unfilled)) (part_symbol own) c (j, one)))
    (binders-are names names (length names) refl refl)
