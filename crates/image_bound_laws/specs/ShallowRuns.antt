-- The module of every accepted run is shallow: the type and the body of each declaration are no deeper than a text allows.
use Rattle.std.proofs.Common.{ℕ, zero, suc, ◌+◌, ◌*◌, ◌≤◌, List, [], ◌∷◌, map, length, arith}
use Rattle.std.specs.Prelude.{replicate}
use Rattle.std.proofs.lemmas.List.{length-map}
use Rattle.hol_spec.specs.Names.{Name}
use Rattle.hol_spec.specs.Types.{HolType, type_variables}
use Rattle.hol_spec.specs.Limits.{greatest_depth, greatest_parameter_count, SequentWithin}
use Rattle.hol_spec.specs.Sequents.{Sequent}
use Rattle.hol_spec.specs.Definitions.{TypeNames}
use Rattle.hol_spec.specs.NewTypes.{abstraction_type, representation_type}
use Rattle.hol_spec.specs.TypeDefinitions.{IsTypeDefinition}
use Rattle.hol_spec.specs.Terms.{Term}
use Rattle.hol_spec.specs.Proofs.{Accepted}
use Rattle.article_spec.specs.Run.{accepted, Run}
use Rattle.lp_spec.specs.Trees.{depth}
use Rattle.lp_spec.specs.Modules.{products, types, term_of, sub_symbol, sub_abs_symbol, sub_rep_symbol}
use Rattle.lp_spec.specs.Reading.{max_depth}
use Rattle.lp_spec.specs.TextLaws.{IsBodyShallow, AreShallow}
use Rattle.translate_spec.specs.Scopes.{SymbolMap, type_tree, term_tree, under_types, unfilled, filled, generic_tree, scope_of, domains_of, conclusion_tree}
use Rattle.translate_spec.specs.ProofTrees.{part_tree}
use Rattle.translate_spec.specs.Rows.{proof_tree}
use Rattle.translate_spec.specs.Items.{Content, Item, operator, constant, defined_constant, type_operator, type_abstraction, type_representation, unproved, step, definition_tree, part_definition_tree, declaration_of, declaration, symbols_of}
use Rattle.translate_spec.specs.Image.{image}
use Rattle.image_bound_laws.specs.Depths.{AreShallowTrees, products-depth, abstractions-depth}
use Rattle.image_bound_laws.specs.ShallowScopes.{HasFewArguments, deeper, type_tree-depth, under_types-shallow, filled-shallow, term_tree-depth}
use Rattle.image_bound_laws.specs.ShallowRows.{deepest_term, deepest_proof, deepest_premise, part-depth, part-shallow, conclusion-depth, scope_of-shallow, domains-depth, length-domains, conclusion_tree-depth, proof_tree-depth}
use Rattle.image_bound_laws.specs.SymbolLimits.{DefinitionWithin, GenericWithin}
use Rattle.image_bound_laws.specs.FittingItems.{ContentFits, AreFittingItems, kept_items, kept-fit, few-arguments}

-- binders of `type`
types-shallow : (d : ℕ) (ns : List Name) → 1 ≤ d → AreShallowTrees d (map (λ (n : Name). types) ns)
types-shallow d [] l = tt
types-shallow d (n ∷ ns) l = (l, types-shallow d ns l)

operator-depth : (k : ℕ) → depth (products (replicate k types) types) ≤ k + 1
operator-depth zero = omega arith
operator-depth (suc k) = let l = operator-depth k in omega (arith, l)

under_types-depth : (ns : List Name) (n : Name) → depth (under_types ns unfilled n) ≤ 1
under_types-depth ns n = under_types-shallow ns unfilled (λ n. omega arith) n

module _ (symbols : SymbolMap) (few : HasFewArguments symbols) where
  generic_tree-depth : (a : HolType) → GenericWithin a → depth (generic_tree symbols a) ≤ max_depth
  generic_tree-depth a h =
      let own = type_tree-depth symbols (under_types (type_variables a) unfilled) (under_types-depth (type_variables a)) a in
      let deep = h.depth in
      let whole = products-depth (map (λ (n : Name). types) (type_variables a)) (term_of (type_tree symbols (under_types (type_variables a) unfilled) a))
      (4 * greatest_depth) (types-shallow (4 * greatest_depth) (type_variables a) (omega arith)) (omega (arith, own, deep)) in
      let long = length-map (type_variables a) (λ (n : Name). types) in
      let most = h.variables in
      omega (arith, whole, long, most)

  definition_tree-depth : (a : HolType) (t : Term) → GenericWithin a → DefinitionWithin t → depth (definition_tree symbols a t) ≤ max_depth
  definition_tree-depth a t h d =
      let scope = filled symbols (under_types (type_variables a) unfilled) in
      let own = term_tree-depth symbols few scope (filled-shallow symbols (under_types (type_variables a) unfilled) (under_types-depth (type_variables a))) t in
      let deep = d.within.depth in
      let whole = abstractions-depth (map (λ (n : Name). types) (type_variables a)) (term_tree symbols scope t) (4 * greatest_depth)
      (types-shallow (4 * greatest_depth) (type_variables a) (omega arith)) (omega (arith, own, deep)) in
      let long = length-map (type_variables a) (λ (n : Name). types) in
      let most = h.variables in
      omega (arith, whole, long, most)

  -- what a symbol of a type definition stands for, under few type variables
  part_definition-depth : (ns : List Name) (names : TypeNames) (i : ℕ) (c : HolType) (f : Term) (j : ℕ) (one : Sequent) → length ns ≤ greatest_parameter_count
      → IsTypeDefinition names c f one → SequentWithin one
      → depth (part_definition_tree symbols ns i c j one) ≤ max_depth
  part_definition-depth ns names i c f j one l d w =
      let scope = filled symbols (under_types ns unfilled) in
      let own = part-depth symbols few scope (filled-shallow symbols (under_types ns unfilled) (under_types-depth ns)) i c j one
      (part-shallow names c f one d (conclusion-depth one w)) w in
      let whole = abstractions-depth (map (λ (n : Name). types) ns) (part_tree symbols scope i c (j, one)) (deepest_premise + 16)
      (types-shallow (deepest_premise + 16) ns (omega arith)) own in
      let long = length-map ns (λ (n : Name). types) in
      omega (arith, whole, long, l)

  declaration-shallow : (name : List ℕ) (c : Content) → ContentFits c
      → (depth (declaration_of symbols name c).ty ≤ max_depth) × IsBodyShallow (declaration_of symbols name c).body
  declaration-shallow name (operator n k) h = (let l = operator-depth k in omega (arith, l, h), tt {0})
  declaration-shallow name (constant n a) h = (generic_tree-depth a h, tt {0})
  declaration-shallow name (defined_constant n a t) h = (generic_tree-depth a h.0, definition_tree-depth a t h.0 h.1)
  declaration-shallow name (type_operator names c f j one) h =
      (let l = operator-depth (length names.variables) in omega (arith, l, h.0), part_definition-depth names.variables names sub_symbol c f j one h.0 h.1 h.2)
  declaration-shallow name (type_abstraction names c f j one) h = (
    generic_tree-depth (abstraction_type names c) h.0,
    part_definition-depth (type_variables (abstraction_type names c)) names sub_abs_symbol c f j one h.0.variables h.1 h.2,
  )
  declaration-shallow name (type_representation names c f j one) h = (
    generic_tree-depth (representation_type names c) h.0,
    part_definition-depth (type_variables (representation_type names c)) names sub_rep_symbol c f j one h.0.variables h.1 h.2,
  )
  declaration-shallow name (unproved s) h =
      let long = length-domains symbols s h in
      let whole = products-depth (domains_of symbols s) (conclusion_tree symbols s) deepest_term (domains-depth symbols few s h)
      (conclusion_tree-depth symbols few s h) in
      (omega (arith, long, whole), tt {0})
  declaration-shallow name (step kind js premises given s) h =
      let long = length-domains symbols s h.2 in
      let whole = products-depth (domains_of symbols s) (conclusion_tree symbols s) deepest_term (domains-depth symbols few s h.2)
      (conclusion_tree-depth symbols few s h.2) in
      let own = proof_tree-depth symbols few (scope_of symbols s) (scope_of-shallow symbols s) kind js premises given s h.0 h.1 h.2 in
      let body = abstractions-depth (domains_of symbols s) (proof_tree symbols (scope_of symbols s) kind js premises given) deepest_proof
      (deeper deepest_term deepest_proof (omega arith) (domains_of symbols s) (domains-depth symbols few s h.2)) own in
      (omega (arith, long, whole), omega (arith, long, body))

  declarations-shallow : (items : List Item) → AreFittingItems items → AreShallow (map (declaration symbols) items)
  declarations-shallow [] h = tt
  declarations-shallow (x ∷ xs) h = let own = declaration-shallow x.name x.content h.0 in (own.0, own.1, declarations-shallow xs h.1)

abbrev pub RunsAreShallow : Type 0
RunsAreShallow = (articles : List (List ℕ)) (run : Accepted) → Run articles (accepted run) → AreShallow (image run)

pub runs_are_shallow : RunsAreShallow
runs_are_shallow articles run r =
    let items = kept_items run in
    let fit = kept-fit articles run r in
    (omega arith, omega arith, (omega arith, omega arith, declarations-shallow (symbols_of items) (few-arguments items fit) items fit))
