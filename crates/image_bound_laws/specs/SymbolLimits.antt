-- What is taken in an accepted run is within the limits: each step's sequent, the term of each definition, and the types that a type
-- definition makes.
use Rattle.std.proofs.Common.{ℕ, ◌*◌, ◌≤◌, List, [], ◌∷◌, length, arith}
use Rattle.std.specs.List.{AllByRecursion, sum_by, flat_map}
use Rattle.std.proofs.lemmas.List.Sums.{sum_by-cons}
use Rattle.hol_spec.specs.Names.{Name}
use Rattle.hol_spec.specs.NameEquality.{name_eq}
use Rattle.hol_spec.specs.Lists.{distinct, IsIn}
use Rattle.hol_spec.specs.Types.{HolType, type_variables}
use Rattle.hol_spec.specs.Limits.{type_size, type_depth, term_size, term_depth, greatest_size, greatest_depth, greatest_parameter_count, TermWithin, SequentWithin}
use Rattle.hol_spec.specs.Terms.{Term, HasType, type_variable_places}
use Rattle.hol_spec.specs.Sequents.{Sequent, terms_of}
use Rattle.hol_spec.specs.Definitions.{Definition}
use Rattle.hol_spec.specs.NewTypes.{abstraction_type, representation_type}
use Rattle.hol_spec.specs.Symbols.{Symbol}
use Rattle.hol_spec.specs.Proofs.{Made}
use Rattle.hol_laws.specs.Members.{All-at, All-weaker, IsIn-flat_map}
use Rattle.image_bound_laws.specs.TermMeasures.{HasType-depth, sequent-depth}
use Rattle.image_bound_laws.specs.FewVariables.{few-distinct, HasType-size, HasType-variables}

-- a term that defines a constant
pub record DefinitionWithin (t : Term) : Type 0 where
  pub within : TermWithin t
  pub variables : length (distinct name_eq (type_variable_places t)) ≤ greatest_parameter_count

-- a generic type
pub record GenericWithin (a : HolType) : Type 0 where
  pub size : type_size a ≤ 2 * greatest_size
  pub depth : type_depth a ≤ 3 * greatest_depth
  pub variables : length (type_variables a) ≤ greatest_parameter_count

abbrev pub SymbolWithin : Symbol → Type 0
SymbolWithin (Symbol.input_constant n) = Unit {0}
SymbolWithin (Symbol.input_operator n k) = k ≤ greatest_depth
SymbolWithin (Symbol.defined (Definition.constant n t)) = DefinitionWithin t
SymbolWithin (Symbol.defined (Definition.type_operator names c f)) =
    (length names.variables ≤ greatest_depth) × GenericWithin (abstraction_type names c) × GenericWithin (representation_type names c)

abbrev pub MadeWithin : Made → Type 0
MadeWithin (Made.symbol x) = SymbolWithin x
MadeWithin (Made.type_definition names c f i) = SymbolWithin (Symbol.defined (Definition.type_operator names c f))
MadeWithin (Made.step x) = SequentWithin x.sequent

-- all of what was made
abbrev pub AreWithin : List Made → Type 0
AreWithin made = AllByRecursion MadeWithin made

-- each part of a sum is at most the sum
pub sum_by-All : {A : Type 0} (measure : A → ℕ) (xs : List A) (d : ℕ) → sum_by measure xs ≤ d → AllByRecursion (λ x. measure x ≤ d) xs
sum_by-All measure [] d h = tt
sum_by-All measure (x ∷ xs) d h =
    let e = sum_by-cons measure x xs in
    (omega (arith, h, e), sum_by-All measure xs d (omega (arith, h, e)))

pub sequent-sizes : (s : Sequent) → SequentWithin s → AllByRecursion (λ t. term_size t ≤ greatest_size) (terms_of s)
sequent-sizes s h = sum_by-All term_size (terms_of s) greatest_size h.size

-- the type variables of a part of a sequent are few
pub few-places : (s : Sequent) → SequentWithin s → (ns : List Name) → AllByRecursion (IsIn (flat_map type_variable_places (terms_of s))) ns
    → length (distinct name_eq ns) ≤ greatest_parameter_count
few-places s h ns all =
    let few = few-distinct ns (flat_map type_variable_places (terms_of s)) all in
    let most = h.parameters in
    omega (arith, few, most)

-- a term that lies in a term of a sequent
pub record IsPart (t u : Term) : Type 0 where
  pub size : term_size t ≤ term_size u
  pub depth : term_depth t ≤ term_depth u
  pub places : AllByRecursion (IsIn (type_variable_places u)) (type_variable_places t)

pub part-within : (s : Sequent) → SequentWithin s → (u : Term) → IsIn (terms_of s) u → (t : Term) → IsPart t u → DefinitionWithin t
part-within s h u i t p =
    let size = All-at (λ x. term_size x ≤ greatest_size) (terms_of s) u (sequent-sizes s h) i in
    let depth = All-at (λ x. term_depth x ≤ greatest_depth) (terms_of s) u (sequent-depth s h) i in
    record {
      within = record { size = (let l = p.size in omega (arith, size, l)); depth = (let l = p.depth in omega (arith, depth, l)) };
      variables = few-places s h (type_variable_places t)
          (All-weaker (IsIn (type_variable_places u)) (IsIn (flat_map type_variable_places (terms_of s)))
          (λ n k. IsIn-flat_map type_variable_places (terms_of s) u n i k) (type_variable_places t) p.places);
    }

-- the type of a term that defines a constant
pub generic-within : (t : Term) (a : HolType) → DefinitionWithin t → HasType t a → GenericWithin a
generic-within t a h e =
    let size = HasType-size t a e in
    let variables = HasType-variables t a e in
    let own = h.within.size in
    let few = h.variables in
    record { size = omega (arith, size, own); depth = HasType-depth greatest_depth t a h.within.depth e; variables = omega (arith, variables, few) }
