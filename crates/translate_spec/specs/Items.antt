-- What a module is made of: items, each with its declaration.
use Rattle.std.specs.Prelude.{ℕ, ◌==◌, ◌&&◌, Bool, false, List, [], ◌∷◌, ◌++◌, map, length, replicate, Option, None, Some, if◌then◌else◌}
use Rattle.hol_spec.specs.Names.{Name}
use Rattle.hol_spec.specs.NameEquality.{name_eq}
use Rattle.hol_spec.specs.Types.{HolType, type_variables}
use Rattle.hol_spec.specs.Primitives.{bool}
use Rattle.hol_spec.specs.Terms.{Term}
use Rattle.hol_spec.specs.Sequents.{Sequent}
use Rattle.hol_spec.specs.Definitions.{TypeNames}
use Rattle.hol_spec.specs.NewTypes.{abstraction_type, representation_type}
use Rattle.hol_spec.specs.Rules.{Parameters}
use Rattle.hol_spec.specs.declared.StepKind.{StepKind}
use Rattle.lp_spec.specs.declared.form.Form.TheVariants.{Def}
use Rattle.lp_spec.specs.Trees.{Tree}
use Rattle.lp_spec.specs.Modules.{Declaration, symbol, products, abstractions, types, sub_symbol, sub_abs_symbol, sub_rep_symbol}
use Rattle.lp_spec.specs.Lemmas.{lemmas, theorem}
use Rattle.translate_spec.specs.Scopes.{SymbolMap, generic_tree, sequent_tree, scope_of, domains_of, conclusion_tree, term_tree, filled, under_types, unfilled}
use Rattle.translate_spec.specs.ProofTrees.{part_tree}
use Rattle.translate_spec.specs.Rows.{proof_tree}

-- what an item is: an input operator with so many arguments; an input constant and its generic type, which is a variable; a constant that is
-- defined by a term; the operator, the abstraction and the representation of a type definition from the type by the predicate, with the theorem of this
-- symbol and this sequent; a sequent that is assumed; or a step. The premises of a step are told by their symbols and their sequents
pub data Content : Type 0 where
  operator : Name → ℕ → Content
  constant : Name → HolType → Content
  defined_constant : Name → HolType → Term → Content
  type_operator : TypeNames → HolType → Term → ℕ → Sequent → Content
  type_abstraction : TypeNames → HolType → Term → ℕ → Sequent → Content
  type_representation : TypeNames → HolType → Term → ℕ → Sequent → Content
  unproved : Sequent → Content
  step : StepKind → List ℕ → List Sequent → Parameters → Sequent → Content

pub record Item : Type 0 where
  pub symbol : ℕ
  pub name : List ℕ
  pub content : Content

-- the sequent that an item says
abbrev pub says : Content → Option Sequent
says (operator n k) = None
says (constant n a) = None
says (defined_constant n a t) = None
says (type_operator names c u j one) = None
says (type_abstraction names c u j one) = None
says (type_representation names c u j one) = None
says (unproved s) = Some s
says (step kind js premises given s) = Some s

-- what a defined constant stands for, over the type variables of its generic type
abbrev pub definition_tree : SymbolMap → HolType → Term → Tree
definition_tree symbols a t = abstractions (map (λ n. types) (type_variables a))
    (term_tree symbols (filled symbols (under_types (type_variables a) unfilled)) t)

-- what a symbol of a type definition stands for: a symbol of parts, under these type variables
abbrev pub part_definition_tree : SymbolMap → List Name → ℕ → HolType → ℕ → Sequent → Tree
part_definition_tree symbols names s c j one = abstractions (map (λ n. types) names)
    (part_tree symbols (filled symbols (under_types names unfilled)) s c (j, one))

-- the definition of the constant of a type definition with this generic type
abbrev pub part_constant : SymbolMap → List ℕ → HolType → ℕ → HolType → ℕ → Sequent → Declaration
part_constant symbols name a s c j one = record
    { name = name; form = Def; ty = generic_tree symbols a; body = Some (part_definition_tree symbols (type_variables a) s c j one) }

-- the declaration of an item
abbrev pub declaration_of : SymbolMap → List ℕ → Content → Declaration
declaration_of symbols name (operator n k) = symbol name (products (replicate k types) types)
declaration_of symbols name (constant n a) = symbol name (generic_tree symbols a)
declaration_of symbols name (defined_constant n a t) =
    record { name = name; form = Def; ty = generic_tree symbols a; body = Some (definition_tree symbols a t) }
declaration_of symbols name (type_operator names c u j one) =
    record {
      name = name;
      form = Def;
      ty = products (replicate (length names.variables) types) types;
      body =
          Some (part_definition_tree symbols names.variables sub_symbol c j one);
    }
declaration_of symbols name (type_abstraction names c u j one) = part_constant symbols name (abstraction_type names c) sub_abs_symbol c j one
declaration_of symbols name (type_representation names c u j one) = part_constant symbols name (representation_type names c) sub_rep_symbol c j one
declaration_of symbols name (unproved s) = symbol name (sequent_tree symbols s)
declaration_of symbols name (step kind js premises given s) =
    theorem name (domains_of symbols s) (conclusion_tree symbols s) (proof_tree symbols (scope_of symbols s) kind js premises given)

abbrev pub declaration : SymbolMap → Item → Declaration
declaration symbols x = declaration_of symbols x.name x.content

-- whether an item is this operator, or a constant of this name
abbrev pub is_operator : Name → ℕ → Content → Bool
is_operator n k (operator m j) = name_eq n m && (k == j)
is_operator n k (type_operator names c u j one) = name_eq n names.operator && (k == length names.variables)
is_operator n k c = false

abbrev pub is_constant : Name → Content → Bool
is_constant n (constant m a) = name_eq n m
is_constant n (defined_constant m a t) = name_eq n m
is_constant n (type_abstraction names c u j one) = name_eq n names.abstraction
is_constant n (type_representation names c u j one) = name_eq n names.representation
is_constant n c = false

abbrev pub generic_of : Content → HolType
generic_of (constant n a) = a
generic_of (defined_constant n a t) = a
generic_of (type_abstraction names c u j one) = abstraction_type names c
generic_of (type_representation names c u j one) = representation_type names c
generic_of c = bool

-- the first item that passes a test
abbrev pub first_symbol : (Content → Bool) → List Item → ℕ
first_symbol test [] = 0
first_symbol test (x ∷ xs) = if test x.content then x.symbol else first_symbol test xs

abbrev pub first_type : (Content → Bool) → List Item → HolType
first_type test [] = bool
first_type test (x ∷ xs) = if test x.content then generic_of x.content else first_type test xs

-- the symbols of items
abbrev pub symbols_of : List Item → SymbolMap
symbols_of items = record {
  operator = λ n k. first_symbol (is_operator n k) items;
  constant = λ n. first_symbol (is_constant n) items;
  generic = λ n. first_type (is_constant n) items;
}

-- the module of items
abbrev pub module_of : SymbolMap → List Item → List Declaration
module_of symbols items = lemmas ++ map (declaration symbols) items
