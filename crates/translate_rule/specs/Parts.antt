-- A part of a type definition, by its numbers: its content, its type variables and its declared type.
use Rattle.std.specs.Prelude.{ℕ, List, length, replicate}
use Rattle.hol_spec.specs.Definitions.{TypeNames}
use Rattle.hol_spec.specs.Names.{Name}
use Rattle.hol_spec.specs.NewTypes.{abstraction_type, representation_type}
use Rattle.hol_spec.specs.Proofs.{sequent_at}
use Rattle.hol_spec.specs.TypeDefinitions.{IsTypeDefinition}
use Rattle.hol_spec.specs.Types.{HolType, type_variables}
use Rattle.hol_defs.specs.declared.readers.TypeOpView.{TypeOpView}
use Rattle.hol_term.specs.Tables.{term_at, type_at}
use Rattle.hol_rules.specs.Kept.{Kept}
use Rattle.holide_sig.specs.declared.module.Module.{Module}
use Rattle.holide_sig.specs.Modules.{declarations_of}
use Rattle.lp_spec.specs.Modules.{abstractions, products, types}
use Rattle.lp_spec.specs.Trees.{Tree}
use Rattle.lp_term.specs.declared.LpId.{LpId}
use Rattle.lp_term.specs.Tables.{Holds}
use Rattle.translate_spec.specs.Items.{Content, part_definition_tree}
use Rattle.translate_spec.specs.ProofTrees.{part_tree}
use Rattle.translate_spec.specs.Scopes.{SymbolMap, generic_tree}
use Rattle.translate_proof.specs.declared.parts.Part.{Part}
use Rattle.translate_proof.specs.declared.parts.Part.TheVariants as part
use Rattle.translate_proof.specs.declared.premise.Premise.{Premise}
use Rattle.translate_proof.specs.declared.scope.Environment.{Environment}
use Rattle.translate_proof.specs.Environments.{Given, Represents}
use Rattle.translate_proof.specs.Parts.{part_symbol, whole_type, TellsWhole}
use Rattle.translate_proof.specs.Told.{TellsSequent, TellsStep}
use Rattle.image_items_laws.specs.Told.{TellsContent}
use Rattle.translate_term.specs.Told.{TellsType}
use Rattle.translate_rule.specs.ItemViews.{names_of_view, part_content}

-- what it is in a module, by a premise with its symbol
abbrev pub part_at : Kept → Part → TypeOpView → Premise → Content
part_at k own x one = part_content own (names_of_view x) (type_at k.trees x.whole.0) (term_at k.trees x.predicate.0) one.symbol (sequent_at k.made one.id)

-- the type variables over which it is declared
abbrev pub part_variables : Part → TypeNames → HolType → List Name
part_variables part.Operator names c = names.variables
part_variables part.Abstraction names c = type_variables (abstraction_type names c)
part_variables part.Representation names c = type_variables (representation_type names c)

-- the type at which it is declared
abbrev pub part_type : SymbolMap → Part → TypeNames → HolType → Tree
part_type symbols part.Operator names c = products (replicate (length names.variables) types) types
part_type symbols part.Abstraction names c = generic_tree symbols (abstraction_type names c)
part_type symbols part.Representation names c = generic_tree symbols (representation_type names c)

-- a step says the theorem from which a type definition is made
abbrev pub IsDefining : Kept → TypeOpView → ℕ → Type 0
IsDefining k x id = IsTypeDefinition (names_of_view x) (type_at k.trees x.whole.0) (term_at k.trees x.predicate.0) (sequent_at k.made id)

-- a module tells its type and its sequent
abbrev pub IsDefiningTold : Kept → ℕ → Module → Type 0
IsDefiningTold k id m = (tables : SymbolMap) × TellsType (declarations_of m) tables (whole_type k id) × TellsSequent (declarations_of m) tables
    (sequent_at k.made id)

-- a tree is the declared type of a part, and what a part stands for, where the module told before what the part says
abbrev pub IsPartType : Kept → Part → TypeOpView → Premise → Module → Module → LpId → Type 0
IsPartType k own x one old new r = (tables : SymbolMap) → TellsContent (declarations_of old) tables (part_at k own x one)
    → Holds new.table r.0 (part_type tables own (names_of_view x) (type_at k.trees x.whole.0))

abbrev pub IsPartBody : Kept → Part → TypeOpView → Premise → Module → Module → LpId → Type 0
IsPartBody k own x one old new r = (tables : SymbolMap) → TellsContent (declarations_of old) tables (part_at k own x one)
    → Holds new.table r.0 (part_definition_tree tables (part_variables own (names_of_view x) (type_at k.trees x.whole.0)) (part_symbol own)
    (type_at k.trees x.whole.0) one.symbol (sequent_at k.made one.id))

-- a tree is a part over type variables, by its premise
abbrev pub IsPartOver : Kept → Part → List Name → Premise → Module → Module → LpId → Type 0
IsPartOver k own names one old new r = (tables : SymbolMap) → TellsType (declarations_of old) tables (whole_type k one.id)
    → TellsSequent (declarations_of old) tables (sequent_at k.made one.id)
    → Holds new.table r.0 (part_definition_tree tables names (part_symbol own) (whole_type k one.id) one.symbol (sequent_at k.made one.id))

-- a tree is a part in an environment, under so many binders of simple types
abbrev pub IsPartUnder : Kept → Environment → Part → ℕ → Premise → Module → Module → LpId → Type 0
IsPartUnder k env own count one old new r = (given : Given) → Represents given old k.trees env → TellsWhole given k one.id → TellsStep given k one.id
    → Holds new.table r.0 (abstractions (replicate count types)
    (part_tree given.symbols given.scope (part_symbol own) (whole_type k one.id) (one.symbol, sequent_at k.made one.id)))
