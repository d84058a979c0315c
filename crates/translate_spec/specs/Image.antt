-- The module of an accepted run: the two lemmas, and then what its exports reach, in order of making (Assaf and Burel,
-- "Translating HOL to Dedukti", 3: each theorem is a declaration, whose body is its proof).
use Rattle.std.specs.Prelude.{ℕ, Bool, List, ◌++◌, nat_eq, if◌then◌else◌, codes}
use Rattle.std.specs.List.{list_any, position_or_len}
use Rattle.hol_spec.specs.Names.{Name}
use Rattle.hol_spec.specs.Mangling.{mangled}
use Rattle.hol_spec.specs.Definitions.{Definition}
use Rattle.hol_spec.specs.Symbols.{Symbol}
use Rattle.hol_spec.specs.Proofs.{Made, Accepted}
use Rattle.hol_spec.specs.declared.StepKind.{StepKind}
use Rattle.hol_spec.specs.declared.StepKind.TheVariants.{Axiom, FirstLaw, SecondLaw}
use Rattle.lp_spec.specs.Modules.{Declaration}
use Rattle.translate_spec.specs.Items.{Content, type_operator, type_abstraction, type_representation}
use Rattle.translate_spec.specs.Reach.{reached}
use Rattle.translate_spec.specs.MadeItems.{items_of, roots_of}
use Rattle.lp_spec.specs.Numerals.{numeral}

-- whether a number is among others
abbrev pub is_one_of : ℕ → List ℕ → Bool
is_one_of i numbers = list_any (nat_eq i) numbers

-- the place of a number among others, as a numeral
abbrev pub place_among : ℕ → List ℕ → List ℕ
place_among i numbers = numeral (position_or_len (nat_eq i) numbers)

-- the name of a step that is no export, by its kind: `A` and its place among the assumptions, `L` or `T` and its number
abbrev pub unexported_name : List ℕ → ℕ → StepKind → List ℕ
unexported_name assumptions i Axiom = codes "A" ++ place_among i assumptions
unexported_name assumptions i FirstLaw = codes "L" ++ numeral i
unexported_name assumptions i SecondLaw = codes "L" ++ numeral i
unexported_name assumptions i kind = codes "T" ++ numeral i

-- the name of a step: `E` and its place among the exports, if it is one
abbrev pub step_name : Accepted → ℕ → StepKind → List ℕ
step_name run i kind = if is_one_of i run.exports then codes "E" ++ place_among i run.exports else unexported_name run.assumptions i kind

-- the names of symbols
abbrev pub input_constant_name : Name → List ℕ
input_constant_name n = codes "i_" ++ mangled n

abbrev pub input_operator_name : ℕ → Name → List ℕ
input_operator_name k n = codes "t" ++ (numeral k ++ (codes "_" ++ mangled n))

abbrev pub constant_name : Name → List ℕ
constant_name n = codes "c_" ++ mangled n

abbrev pub operator_name : Name → List ℕ
operator_name n = codes "o_" ++ mangled n

-- the name of what a type definition makes
abbrev pub type_definition_name : Content → List ℕ
type_definition_name (type_operator names c u j one) = operator_name names.operator
type_definition_name (type_abstraction names c u j one) = constant_name names.abstraction
type_definition_name (type_representation names c u j one) = constant_name names.representation
type_definition_name c = codes ""

-- the name of an input or of a constant that is defined by a term
abbrev pub symbol_name : Symbol → List ℕ
symbol_name (Symbol.input_constant n) = input_constant_name n
symbol_name (Symbol.input_operator n k) = input_operator_name k n
symbol_name (Symbol.defined (Definition.constant n t)) = constant_name n
symbol_name (Symbol.defined (Definition.type_operator names a f)) = codes ""

-- the name of what was made, where it is the i-th step if it is one
abbrev pub name_in : Accepted → ℕ → Made → Content → List ℕ
name_in run i (Made.symbol x) c = symbol_name x
name_in run i (Made.type_definition names a f k) c = type_definition_name c
name_in run i (Made.step x) c = step_name run i x.kind

abbrev pub image : Accepted → List Declaration
image run = reached (roots_of (name_in run) run.made run.exports) (items_of (name_in run) run.made)
