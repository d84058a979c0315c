-- What each item of a module asks of those before it.
use Rattle.std.specs.Prelude.{◌≡◌, true, ℕ, ◌+◌, List, [], ◌∷◌, ◌++◌, length, Some}
use Rattle.std.specs.List.{AllByRecursion}
use Rattle.hol_spec.specs.Names.{Name}
use Rattle.hol_spec.specs.Types.{HolType, HolTypes, none, more, count, type_variables}
use Rattle.hol_spec.specs.Primitives.{primitive_arity, primitive_type}
use Rattle.hol_spec.specs.Substitution.{Instance}
use Rattle.hol_spec.specs.Terms.{Term, Variable, free, bound, app, lam, HasType, equation, type_variable_places, free_places}
use Rattle.hol_spec.specs.TermSubstitution.{TermPairs, term_image}
use Rattle.hol_spec.specs.Sequents.{Sequent, IsSequent, free_variables_of}
use Rattle.lp_spec.specs.Modules.{signature}
use Rattle.lp_spec.specs.Lemmas.{lemmas}
use Rattle.hol_spec.specs.Lists.{IsIn}
use Rattle.translate_spec.specs.Scopes.{SymbolMap, operator_symbol, constant_symbol, generic_type}
use Rattle.hol_spec.specs.Rules.{Rule, Parameters}
use Rattle.hol_spec.specs.declared.StepKind.{StepKind}
use Rattle.hol_spec.specs.declared.StepKind.TheVariants as kinds
use Rattle.translate_spec.specs.Rows.{type_or, has_row}
use Rattle.translate_spec.specs.Items.{Content, operator, constant, defined_constant, type_operator, type_abstraction, type_representation, unproved, step, Item, says}
use Rattle.hol_spec.specs.DefinitionLists.{constants_put}
use Rattle.hol_spec.specs.Definitions.{TypeNames}
use Rattle.hol_spec.specs.NewTypes.{abstraction_type, representation_type}
use Rattle.hol_spec.specs.TypeDefinitions.{IsTypeDefinition}

-- one of the items is this
abbrev pub Has : List Item → Content → Type 0
Has items c = (x : Item) × IsIn items x × (x.content ≡ c)

-- an operator with so many arguments, and a constant at a type, are primitive or among the items
pub data OperatorTaken (items : List Item) (n : Name) (k : ℕ) : Type 0 where
  primitive : primitive_arity n ≡ Some k → OperatorTaken items n k
  declared : Has items (operator n k) → OperatorTaken items n k
  part : (names : TypeNames) (c : HolType) (u : Term) (j : ℕ) (one : Sequent) → Has items (type_operator names c u j one) → n ≡ names.operator
      → k ≡ length names.variables → OperatorTaken items n k

pub data ConstantTaken (items : List Item) (n : Name) (t : HolType) : Type 0 where
  primitive : (g : HolType) → primitive_type n ≡ Some g → Instance g t → ConstantTaken items n t
  declared : (a : HolType) → Has items (constant n a) → Instance a t → ConstantTaken items n t
  defined : (a : HolType) (u : Term) → Has items (defined_constant n a u) → Instance a t → ConstantTaken items n t
  abstraction : (names : TypeNames) (c : HolType) (u : Term) (j : ℕ) (one : Sequent) → Has items (type_abstraction names c u j one) → n ≡ names.abstraction
      → Instance (abstraction_type names c) t → ConstantTaken items n t
  representation : (names : TypeNames) (c : HolType) (u : Term) (j : ℕ) (one : Sequent) → Has items (type_representation names c u j one)
      → n ≡ names.representation → Instance (representation_type names c) t → ConstantTaken items n t

-- a type, a term and a sequent over what is taken
abbrev mutual
  pub TypeTaken : List Item → HolType → Type 0
  TypeTaken items (HolType.variable n) = Unit {0}
  TypeTaken items (HolType.operator n ts) = OperatorTaken items n (count ts) × TypesTaken items ts

  pub TypesTaken : List Item → HolTypes → Type 0
  TypesTaken items none = Unit {0}
  TypesTaken items (more t ts) = TypeTaken items t × TypesTaken items ts

abbrev pub TermTaken : List Item → Term → Type 0
TermTaken items (free n t) = TypeTaken items t
TermTaken items (bound k) = Unit {0}
TermTaken items (Term.constant n t) = ConstantTaken items n t × TypeTaken items t
TermTaken items (app f x) = TermTaken items f × TermTaken items x
TermTaken items (lam t b) = TypeTaken items t × TermTaken items b

pub record SequentTaken (items : List Item) (s : Sequent) : Type 0 where
  pub is : IsSequent s
  pub hypotheses : AllByRecursion (TermTaken items) s.hypotheses
  pub conclusion : TermTaken items s.conclusion

-- these are the symbols of items that say these sequents
abbrev pub ArePremisesAmong : List Item → List ℕ → List Sequent → Type 0
ArePremisesAmong items [] [] = Unit {0}
ArePremisesAmong items (j ∷ js) (s ∷ ss) = ((x : Item) × IsIn items x × (x.symbol ≡ j) × (says x.content ≡ Some s)) × ArePremisesAmong items js ss
ArePremisesAmong items [] (s ∷ ss) = ⊥
ArePremisesAmong items (j ∷ js) [] = ⊥

-- a closed term of this type, whose type variables are those of the type
pub record IsDefining (items : List Item) (a : HolType) (t : Term) : Type 0 where
  pub typed : HasType t a
  pub taken : TermTaken items t
  pub no_free : AllByRecursion (λ v. ⊥) (free_places t)
  pub type_variables : AllByRecursion (IsIn (type_variables a)) (type_variable_places t)

-- a step is an instance of its rule over premises among these, and what it says is over what is taken
pub record IsStep (items : List Item) (kind : StepKind) (js : List ℕ) (premises : List Sequent) (given : Parameters) (s : Sequent) : Type 0 where
  pub rule : Rule kind premises given s
  pub row : has_row kind ≡ true
  pub among : ArePremisesAmong items js premises
  pub taken : SequentTaken items s

-- a constant that stands for a variable is defined by a term
pub record IsDefinedBy (items : List Item) (terms : TermPairs) (v : Variable) (t : Term) : Type 0 where
  pub name : Name
  pub image : term_image terms v ≡ Term.constant name v.1
  pub has : Has items (defined_constant name v.1 t)

-- an equation defines a constant
pub record IsDefiningEquation (items : List Item) (terms : TermPairs) (h : Term) : Type 0 where
  pub variable : Variable
  pub term : Term
  pub is : h ≡ equation variable.1 (free variable.0 variable.1) term
  pub defined : IsDefinedBy items terms variable term

-- a premise |- f t, of this symbol, is the one of a type definition from the type c
pub record IsPart (items : List Item) (names : TypeNames) (c : HolType) (f : Term) (j : ℕ) (one : Sequent) : Type 0 where
  pub defines : IsTypeDefinition names c f one
  pub among : ArePremisesAmong items (j ∷ []) (one ∷ [])
  pub ty : TypeTaken items c

-- the type definition from a premise of this symbol is among the items
pub record HasPart (items : List Item) (names : TypeNames) (j : ℕ) (one : Sequent) : Type 0 where
  pub c : HolType
  pub f : Term
  pub defines : IsTypeDefinition names c f one
  pub operator : Has items (type_operator names c f j one)
  pub abstraction : Has items (type_abstraction names c f j one)
  pub representation : Has items (type_representation names c f j one)

-- what a step defines is among the items, or the type definition whose law it is
abbrev pub DefinesAmong : List Item → StepKind → List ℕ → List Sequent → Parameters → Type 0
DefinesAmong items kinds.DefineConst js premises (Parameters.constant n t) = Has items (defined_constant n (type_or t) t)
DefinesAmong items kinds.DefineConstList js (one ∷ []) (Parameters.constants pairs) =
    AllByRecursion (IsDefiningEquation items (constants_put pairs)) one.hypotheses
    × AllByRecursion (λ v. (t : Term) × IsDefinedBy items (constants_put pairs) v t) (free_variables_of one)
DefinesAmong items kinds.FirstLaw (j ∷ []) (one ∷ []) (Parameters.type_operator names version) = HasPart items names j one
DefinesAmong items kinds.SecondLaw (j ∷ []) (one ∷ []) (Parameters.type_operator names version) = HasPart items names j one
DefinesAmong items kind js premises given = Unit {0}

-- what an item asks of those before it
abbrev pub IsContent : List Item → Content → Type 0
IsContent items (operator n k) = Unit {0}
IsContent items (constant n a) = TypeTaken items a
IsContent items (defined_constant n a t) = IsDefining items a t
IsContent items (type_operator names c u j one) = IsPart items names c u j one
IsContent items (type_abstraction names c u j one) =
    IsPart items names c u j one × TypeTaken items (abstraction_type names c) × Has items (type_operator names c u j one)
IsContent items (type_representation names c u j one) =
    IsPart items names c u j one × TypeTaken items (representation_type names c) × Has items (type_operator names c u j one)
IsContent items (unproved s) = SequentTaken items s
IsContent items (step kind js premises given s) = IsStep items kind js premises given s × DefinesAmong items kind js premises given

-- the symbols tell an item's symbol, and the generic type that it gives
abbrev pub Tells : SymbolMap → ℕ → Content → Type 0
Tells symbols i (operator n k) = operator_symbol symbols n k ≡ i
Tells symbols i (constant n a) = (constant_symbol symbols n ≡ i) × (generic_type symbols n ≡ a)
Tells symbols i (defined_constant n a t) = (constant_symbol symbols n ≡ i) × (generic_type symbols n ≡ a)
Tells symbols i (type_operator names c u j one) = operator_symbol symbols names.operator (length names.variables) ≡ i
Tells symbols i (type_abstraction names c u j one) =
    (constant_symbol symbols names.abstraction ≡ i) × (generic_type symbols names.abstraction ≡ abstraction_type names c)
Tells symbols i (type_representation names c u j one) =
    (constant_symbol symbols names.representation ≡ i) × (generic_type symbols names.representation ≡ representation_type names c)
Tells symbols i (unproved s) = Unit {0}
Tells symbols i (step kind js premises given s) = Unit {0}

-- items after others, each with what it asks of those before it; symbols are counted after the signature and the lemmas
abbrev pub AreItems : SymbolMap → List Item → List Item → Type 0
AreItems symbols before [] = Unit {0}
AreItems symbols before (x ∷ xs) =
    (x.symbol ≡ length signature + (length lemmas + length before)) × Tells symbols x.symbol x.content × IsContent before x.content
    × AreItems symbols (before ++ x ∷ []) xs
